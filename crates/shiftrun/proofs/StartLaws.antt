-- A start of the transformation: the image that is made before it is held behind it.
use Rattle.std.proofs.Common.{◌≡◌, ◌∙◌, ◌∷◌, ℕ, List, true, Option, Some, None, Result, Ok, Err, refl, sym, ap, subst, inl, inr, ◌⊎◌}
use Rattle.std.specs.Prelude.{⊤, MatchOption}
use Rattle.sx_image.specs.Images.{StandsFor, no_copy}
use Rattle.sx_image.specs.declared.image.Kind.{Kind}
use Rattle.sx_ops.specs.declared.spec.Spec.{Spec}
use Rattle.sx_ops.specs.declared.spec.SpecFault.{SpecFault}
use Rattle.sx_ops.specs.Checks.{spec_fault}
use Rattle.sx_sync.specs.declared.Strategy.{Strategy}
use Rattle.sx_sync.specs.declared.Phase.{Phase}
use Rattle.sx_sync.specs.declared.Phase.TheVariants.{Idle, Scanning, Chasing, Draining, Late, Done}
use Rattle.sx_journal.specs.declared.entry.Entry.{Entry}
use Rattle.sx_journal.specs.declared.entry.Event.TheVariants.{Start}
use Rattle.sx_journal.specs.declared.entry.PropLine.TheVariants as prop
use Rattle.sx_journal.specs.declared.entry.Reply.{Reply}
use Rattle.sx_journal.specs.declared.entry.Reply.TheVariants as reply
use Rattle.sx_model.specs.Effects.{Nothing, effect}
use Rattle.sx_model.specs.Openings.{Opening}
use Rattle.sx_model.specs.Leaves.{phase}
use Rattle.sx_model.specs.Logs.{next_lsn}
use Rattle.sx_model.specs.Replies.{start_answer, start_in, start_reply}
use Rattle.sx_model.specs.Schedules.{Plan, holds_image, pace_event}
use Rattle.sx_script.specs.Sound.{IsRunnable, Fits}
use Rattle.sx_core.specs.Machines.{Machine, Turns}
use Rattle.sx_core.specs.Answers.{Fails}
use Rattle.sx_core.specs.Stands.{Stands}
use Rattle.sx_core.specs.declared.machine.CoreFault.{CoreFault}
use Rattle.sx_core.specs.declared.machine.CoreFault.TheVariants.{Memory, Full}
use Rattle.sx_core.proofs.FetchLemmas.{own_entry}
use Rattle.sx_core.proofs.StandLaws.{stands_started}
use Rattle.shiftrun.specs.Holding.{Held, HoldsFrom, TakesOn, IsTurned, IsTurnedIf, IsPaceTurned}
use Rattle.shiftrun.proofs.HoldLaws.{quiet_held, held_by, behind, turned_legal}

-- the script's transformation fits its tables
pub asked_fits : (plan : Plan) (spec : Spec) → IsRunnable plan → plan.change ≡ Some spec → Fits plan.catalog spec
asked_fits plan spec runs change = subst (λ c. MatchOption c ⊤ (Fits plan.catalog)) change runs.fits

-- the answer of an idle machine is a place for the mark, or a refusal
data StartTold (o : Opening) (past : List Entry) (answer : Reply) : Type 0 where
  started : answer ≡ reply.Started (next_lsn o past) → StartTold o past answer
  refused : effect answer ≡ Nothing → StartTold o past answer

bad_spec : (fault : SpecFault) → effect (reply.BadSpec fault) ≡ Nothing
unfolding effect
bad_spec fault = refl

running : effect reply.Running ≡ Nothing
unfolding effect
running = refl

spent : effect reply.Spent ≡ Nothing
unfolding effect
spent = refl

told : (o : Opening) (past : List Entry) (spec : Spec) (answer : Reply) → answer ≡ start_reply o past spec → StartTold o past answer
told o past spec answer right = by (phase past) right
  where
    checked : (fault : Option SpecFault) → answer ≡ start_answer o past fault → StartTold o past answer
    checked None e = started e
    checked (Some fault) e = refused (ap effect e ∙ bad_spec fault)

    by : (at : Phase) → answer ≡ start_in o past at spec → StartTold o past answer
    by Idle e = checked (spec_fault o.catalog spec) e
    by Scanning e = refused (ap effect e ∙ running)
    by Chasing e = refused (ap effect e ∙ running)
    by Draining e = refused (ap effect e ∙ running)
    by Late e = refused (ap effect e ∙ spent)
    by Done e = refused (ap effect e ∙ spent)

-- a start that is refused leaves the image
pub start_refused : (old new : Machine) (spec : Spec) (strategy : Strategy) (answer : Reply) (image : Option Kind) → Held old image → answer ≡ start_reply old.opening old.past spec → ((lsn : ℕ) → answer ≡ reply.Started lsn → ⊥) → Turns old new 0 (Start spec strategy) answer → TakesOn old new image 0 (Start spec strategy)
start_refused old new spec strategy answer image held right other turn = by (told old.opening old.past spec answer right)
  where
    by : StartTold old.opening old.past answer → TakesOn old new image 0 (Start spec strategy)
    by (started e) = absurd (other (next_lsn old.opening old.past) e)
    by (refused quiet) = record {
      reply = answer;
      turn = turn;
      held = held_by old new image (own_entry (Start spec strategy) answer) held turn.legal turn.opening image (quiet_held old new (own_entry (Start spec strategy) answer) image held turn.opening turn.entry quiet);
    }

started_phase : (past : List Entry) (spec : Spec) (strategy : Strategy) (lsn : ℕ) → holds_image (phase (own_entry (Start spec strategy) (reply.Started lsn) ∷ past)) ≡ true
unfolding effect
started_phase past spec strategy lsn = refl

starts_not : (lsn : ℕ) → effect (reply.Started lsn) ≡ Nothing → ⊥
unfolding effect
starts_not lsn e = cc

at_mark : (o : Opening) (past : List Entry) (spec : Spec) (lsn : ℕ) → reply.Started lsn ≡ start_reply o past spec → lsn ≡ next_lsn o past
at_mark o past spec lsn right = by (told o past spec (reply.Started lsn) right)
  where
    by : StartTold o past (reply.Started lsn) → lsn ≡ next_lsn o past
    by (started e) = (let same : lsn ≡ next_lsn o past = cc in same)
    by (refused quiet) = absurd (starts_not lsn quiet)

-- behind a start the fresh image is held
pub start_held : (old new : Machine) (spec : Spec) (strategy : Strategy) (lsn mark : ℕ) (image : Option Kind) (fresh : Kind) → Held old image → reply.Started lsn ≡ start_reply old.opening old.past spec → Turns old new 0 (Start spec strategy) (reply.Started lsn)
    → mark ≡ next_lsn old.opening old.past → StandsFor old.opening.catalog spec no_copy mark fresh → TakesOn old new (Some fresh) 0 (Start spec strategy)
start_held old new spec strategy lsn mark image fresh held right turn is stands = record {
  reply = reply.Started lsn;
  turn = turn;
  held = held_by old new image (own_entry (Start spec strategy) (reply.Started lsn)) held turn.legal turn.opening (Some fresh) (
    ap (λ l. holds_image (phase l)) turn.entry ∙ started_phase old.past spec strategy lsn,
    behind old new (own_entry (Start spec strategy) (reply.Started lsn)) (λ o past. Stands o past fresh) turn.opening turn.entry
        (stands_started old.opening old.past spec strategy lsn fresh (turned_legal old new 0 (Start spec strategy) (reply.Started lsn) turn) (subst (λ place. StandsFor old.opening.catalog spec no_copy place fresh) (is ∙ sym (at_mark old.opening old.past spec lsn right)) stands)),
  );
}

-- one that failed
pub start_failed : (old new : Machine) (image : Option Kind) (spec : Spec) (strategy : Strategy) (fault : CoreFault) → Fails old new 0 (Start spec strategy) fault → IsTurned old new image 0 (Start spec strategy) (Err fault)
start_failed old new image spec strategy Memory fails = tt
start_failed old new image spec strategy Full fails = fails

-- a start by the script's line
asked_line : (plan : Plan) (asked spec : Spec) (strategy : Strategy) (old new : Machine) (image : Option Kind) (result : Result Unit CoreFault) → plan.change ≡ Some spec → asked ≡ spec → strategy ≡ plan.strategy → IsTurned old new image 0 (Start asked strategy) result → IsPaceTurned plan prop.Start old new image result
asked_line plan asked spec strategy old new image result change same by turned =
    subst (λ c. IsTurnedIf old new image (pace_event c plan.strategy prop.Start) result) (sym change)
    (subst (λ s. IsTurned old new image 0 (Start spec s) result) by (subst (λ x. IsTurned old new image 0 (Start x strategy) result) same turned))

held_so : (lsn : ℕ) (fresh : Kind) (old new : Option Kind) → HoldsFrom (reply.Started lsn) fresh old new → new ≡ Some fresh
unfolding HoldsFrom
held_so lsn fresh old new holds = holds

held_still : (answer : Reply) (fresh : Kind) (old new : Option Kind) → ((lsn : ℕ) → answer ≡ reply.Started lsn → ⊥) → HoldsFrom answer fresh old new → new ≡ old
unfolding HoldsFrom
held_still (reply.Started lsn) fresh old new other holds = absurd (other lsn refl)
held_still answer fresh old new other holds = holds

starts_or_not : (answer : Reply) → ((lsn : ℕ) × (answer ≡ reply.Started lsn)) ⊎ ((lsn : ℕ) → answer ≡ reply.Started lsn → ⊥)
starts_or_not (reply.Started lsn) = inl (lsn, refl)
starts_or_not other = inr (λ lsn is. cc)

pub line_starts : (plan : Plan) (asked spec : Spec) (strategy : Strategy) (old new : Machine) (image next : Option Kind) (fresh : Kind) (mark : ℕ) (answer : Reply) → plan.change ≡ Some spec → asked ≡ spec → strategy ≡ plan.strategy
    → Held old image → answer ≡ start_reply old.opening old.past asked → Turns old new 0 (Start asked strategy) answer → mark ≡ next_lsn old.opening old.past
    → StandsFor old.opening.catalog asked no_copy mark fresh → HoldsFrom answer fresh image next → IsPaceTurned plan prop.Start old new next (Ok tt)
line_starts plan asked spec strategy old new image next fresh mark answer change same by held right turn at stands holds = asked_line plan asked spec strategy old new next (Ok tt) change same by (cases (starts_or_not answer))
  where
    cases : ((lsn : ℕ) × (answer ≡ reply.Started lsn)) ⊎ ((lsn : ℕ) → answer ≡ reply.Started lsn → ⊥) → TakesOn old new next 0 (Start asked strategy)
    cases (inl (lsn, is)) =
        subst (λ kept. TakesOn old new kept 0 (Start asked strategy)) (sym (held_so lsn fresh image next (subst (λ r. HoldsFrom r fresh image next) is holds)))
        (start_held old new asked strategy lsn mark image fresh held (sym is ∙ right) (subst (Turns old new 0 (Start asked strategy)) is turn) at stands)
    cases (inr other) =
        subst (λ kept. TakesOn old new kept 0 (Start asked strategy)) (sym (held_still answer fresh image next other holds)) (start_refused old new asked strategy answer image held right other turn)

pub line_failed : (plan : Plan) (asked spec : Spec) (strategy : Strategy) (old new : Machine) (image : Option Kind) (fault : CoreFault) → plan.change ≡ Some spec → asked ≡ spec → strategy ≡ plan.strategy → Fails old new 0 (Start asked strategy) fault → IsPaceTurned plan prop.Start old new image (Err fault)
line_failed plan asked spec strategy old new image fault change same by fails = asked_line plan asked spec strategy old new image (Err fault) change same by (start_failed old new image asked strategy fault fails)
