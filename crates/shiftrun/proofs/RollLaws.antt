-- The rollbacks behind the lines, in the order of the clients' numbers.
use Rattle.std.proofs.Common.{◌≡◌, ◌≤◌, ◌<◌, ◌+◌, ◌==◌, ℕ, true, false, Option, Some, None, refl, ap, ◌∙◌, subst, arith}
use Rattle.std.specs.Prelude.{is_some, nat_lt}
use Rattle.std.proofs.lemmas.Bool.Decides.{nat_tests}
use Rattle.sx_journal.specs.declared.entry.Entry.{Entry}
use Rattle.sx_journal.specs.declared.entry.Event.TheVariants.{Client}
use Rattle.sx_journal.specs.declared.entry.Request.TheVariants.{Undo}
use Rattle.sx_journal.specs.declared.entry.Reply.{Reply}
use Rattle.sx_model.specs.Leaves.{txn_of}
use Rattle.sx_model.specs.Schedules.{Plan, client_turn, open_line, next_turn, IsFull}
use Rattle.sx_model.proofs.TestLaws.{by_cases}
use Rattle.sx_model.proofs.ScriptLaws.{complete_at_end}
use Rattle.sx_model.proofs.TurnLaws.{stay_over, txn_other, undo_next, nobody_lives, no_client_lives}
use Rattle.sx_model.proofs.FinishLaws.{no_change_next}
use Rattle.sx_core.specs.Machines.{Machine, Turns}
use Rattle.shiftrun.specs.Runs.{HasRunLines, HasRolledBack, HasRun, HasStopped}
use Rattle.shiftrun.proofs.PaceLaws.{client_rests}
use Rattle.shiftrun.proofs.LineLaws.{turned, stops}

-- a machine behind the lines in which no client below this one lives
pub record HasRolled (plan : Plan) (client : ℕ) (machine : Machine) : Type 0 where
  pub lines : HasRunLines plan machine
  pub below : (other : ℕ) → other < client → txn_of machine.past other ≡ None

-- at first there is none below client 1
pub roll_first : (plan : Plan) (machine : Machine) → HasRunLines plan machine → HasRolled plan 1 machine
roll_first plan machine lines = record {
  lines = lines;
  below = λ other less. no_client_lives machine.opening machine.past other lines.runs.legal (omega arith);
}

-- a test of who lives
lives_some : (txn : Option ℕ) → is_some txn ≡ true → (n : ℕ) × (txn ≡ Some n)
lives_some None e = absurd (cc)
lives_some (Some n) e = (n, refl)

lives_none : (txn : Option ℕ) → is_some txn ≡ false → txn ≡ None
lives_none None e = refl
lives_none (Some n) e = absurd (cc)

-- where the client lives the next turn is its Undo
pub roll_turn : (plan : Plan) (client : ℕ) (machine : Machine) → HasRolled plan client machine → is_some (txn_of machine.past client) ≡ true → next_turn plan machine.past ≡ Some (client_turn client Undo)
roll_turn plan client machine has lives =
    let txn = lives_some (txn_of machine.past client) lives in
    undo_next plan machine.past client txn.0 has.lines.worked has.lines.passed txn.1 has.below

-- and its Undo goes on with the rollbacks
pub roll_on : (plan : Plan) (client : ℕ) (old new : Machine) (answer : Reply) → 1 ≤ client → HasRolled plan client old → is_some (txn_of old.past client) ≡ true → Turns old new client (Client Undo) answer → HasRolled plan client new
roll_on plan client old new answer one has lives turn = record {
  lines = record {
    runs = turned plan old new client (Client Undo) answer has.lines.runs (roll_turn plan client old has lives) turn;
    worked = ap (open_line plan) turn.entry ∙ stay_over plan e old.past has.lines.worked;
    passed = (client_rests plan old new client Undo answer one turn).left ∙ has.lines.passed;
  };
  below = λ other less.
      let differs : (client == other) ≡ false = grind (arith, nat_tests) in
      ap (λ past. txn_of past other) turn.entry ∙ (txn_other other e old.past differs ∙ has.below other less);
}
  where
    e : Entry
    e = record { actor = client; event = Client Undo; reply = answer }

pub roll_full : (plan : Plan) (client : ℕ) (machine : Machine) → HasRolled plan client machine → is_some (txn_of machine.past client) ≡ true → IsFull machine.opening machine.past client (Client Undo) → HasStopped plan machine
roll_full plan client machine has lives full = stops plan machine client (Client Undo) has.lines.runs (roll_turn plan client machine has lives) full

-- where the client doesn't live it is the next one's turn
pub roll_next : (plan : Plan) (client : ℕ) (machine : Machine) → HasRolled plan client machine → is_some (txn_of machine.past client) ≡ false → HasRolled plan (client + 1) machine
roll_next plan client machine has gone = record {
  lines = has.lines;
  below = λ other less. by_cases (nat_lt other client)
      (λ earlier. has.below other (grind (arith, nat_tests)))
      (λ late. let same : client ≡ other = grind (arith, nat_tests) in subst (λ n. txn_of machine.past n ≡ None) same (lives_none (txn_of machine.past client) gone));
}

-- behind client 8 nobody lives
pub rolled_back : (plan : Plan) (machine : Machine) → HasRolled plan 9 machine → HasRolledBack plan machine
rolled_back plan machine has = record { lines = has.lines; rest = nobody_lives machine.opening machine.past has.lines.runs.legal has.below }

-- without a transformation the run ends with the rollbacks
pub lines_end : (plan : Plan) (machine : Machine) → HasRolledBack plan machine → plan.change ≡ None → HasRun plan machine
lines_end plan machine has none = record {
  runs = has.lines.runs;
  rest = has.rest;
  complete = complete_at_end plan machine.past has.lines.runs.stepped (no_change_next plan machine.past has.lines.worked has.lines.passed has.rest none);
}
