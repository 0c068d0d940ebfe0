-- A turn, from what the machine was to what it is: over plain variables.
use Rattle.std.proofs.Common.{◌≡◌, ◌≤◌, ◌+◌, ◌-◌, ◌∷◌, ℕ, suc, true, false, List, [], length, drop, Bool, cond, Option, Some, None, IsSome, Result, Ok, Err, IsTrue, ◌↔◌, refl, sym, ◌∙◌, ap, subst, arith, inl, inr}
use Rattle.std.specs.Result.{IsErrAnd}
use Rattle.std.proofs.lemmas.Bool.{false≢true, cases_lt}
use Rattle.sx_values.specs.declared.value.Value.{Value}
use Rattle.sx_values.specs.declared.catalog.Declared.{Declared}
use Rattle.sx_log.specs.declared.record.Rec.{Rec}
use Rattle.sx_log.specs.State.{Stored, oldest}
use Rattle.sx_values.specs.Names.{same_name}
use Rattle.sx_heap.specs.Relations.{row_at}
use Rattle.sx_heap.specs.NamedTables.{table_named}
use Rattle.sx_heap.specs.declared.tables.NamedTable.{NamedTable}
use Rattle.sx_txn.specs.Managed.{Managed, SameTables, Unchanged, schema_in, is_live, is_ending as ends_in}
use Rattle.sx_txn.proofs.EventLemmas.{tables_stay}
use Rattle.sx_sync.specs.declared.Phase.{Phase}
use Rattle.sx_journal.specs.declared.entry.Entry.{Entry}
use Rattle.sx_journal.specs.declared.entry.Event.{Event}
use Rattle.sx_journal.specs.declared.entry.Event.TheVariants.{Client, Start, Scan, Fetch, Switch}
use Rattle.sx_journal.specs.declared.entry.Request.{Request}
use Rattle.sx_journal.specs.declared.entry.Reply.{Reply}
use Rattle.sx_ops.specs.declared.spec.Spec.{Spec}
use Rattle.sx_sync.specs.declared.Strategy.{Strategy}
use Rattle.sx_model.specs.Effects.{Effect, effect}
use Rattle.sx_model.specs.Openings.{Opening}
use Rattle.sx_model.specs.Leaves.{Living, living, txn_of, phase, phase_after, started, started_by}
use Rattle.sx_model.specs.Logs.{next_lsn}
use Rattle.sx_model.specs.Held.{is_ending}
use Rattle.sx_model.specs.Replies.{client_reply, start_reply}
use Rattle.sx_model.specs.Fetches.{fetch_reply}
use Rattle.sx_model.specs.Switches.{switch_reply}
use Rattle.sx_model.specs.Schedules.{commits_now, IsFull}
use Rattle.sx_model.specs.Legal.{Legal, Allows, ScanAnswer}
use Rattle.sx_model.proofs.LivingLaws.{few_live}
use Rattle.sx_core.specs.Machines.{Machine, Turns}
use Rattle.sx_core.specs.Kept.{Fields, ManagerMeets, ScanMeets, IsKept, stored_in}
use Rattle.sx_core.specs.declared.machine.CoreFault.{CoreFault}
use Rattle.sx_core.specs.declared.machine.CoreFault.TheVariants.{Memory}
use Rattle.sx_core.specs.Answers.{Fails, Answers}
use Rattle.sx_core.specs.Asked.{HasPlace}
use Rattle.sx_core.proofs.LivingLemmas.{alive_numbers, among, live_among, txn_is_among}

-- a further record leaves the oldest ones
oldest-more : (n : ℕ) (log : List Rec) (r : Rec) → n ≤ length log → oldest n (r ∷ log) ≡ oldest n log
oldest-more n log r within = let e : suc (length log) - n ≡ suc (length log - n) = omega arith in ap (λ k. drop k (r ∷ log)) e

-- the machine's fields
abbrev pub fields : Managed → ℕ → List Living → List Declared → Phase → Option Spec → Option (List Value) → ℕ → Fields
fields managed spare clients known now spec cursor position = record { managed = managed; spare = spare; clients = clients; known = known; now = now; spec = spec; cursor = cursor; position = position }

pub unchanged : (m : Managed) → Unchanged m m
unchanged m = record { alive = record { shapes = refl; own = refl; living = refl; begun = refl }; rows = tables_stay m.tables; log = refl; locks = λ t table key. refl }

-- the opening that the fields stand for
abbrev pub opened : List Declared → ℕ → List Rec → Opening
opened catalog loads log = record { catalog = catalog; loads = oldest loads log }

-- what a machine keeps inside, and what it is seen as
pub record Holds (catalog : List Declared) (loads : ℕ) (past : List Entry) (f : Fields) (m : Machine) : Type 0 where
  pub within : loads ≤ length f.managed.log
  pub kept : IsKept (opened catalog loads f.managed.log) past f
  pub view : record { opening = opened catalog loads f.managed.log; past = past } ≡ m

-- a fact about the machine is one about its fields
pub from_view : (P : Machine → Type 0) (o : Opening) (past : List Entry) (m : Machine) → record { opening = o; past = past } ≡ m → P m → P (record { opening = o; past = past })
from_view P o past m view fact = subst P (sym view) fact

-- a log that has grown by one record, or not at all
pub data Longer (log longer : List Rec) : Type 0 where
  no_longer : longer ≡ log → Longer log longer
  by_one : (r : Rec) → longer ≡ r ∷ log → Longer log longer

opened-longer : (catalog : List Declared) (loads : ℕ) (log longer : List Rec) → loads ≤ length log → Longer log longer → opened catalog loads longer ≡ opened catalog loads log
opened-longer catalog loads log longer within (no_longer is) = ap (opened catalog loads) is
opened-longer catalog loads log longer within (by_one r is) = ap (λ l. record { catalog = catalog; loads = l }) (ap (oldest loads) is ∙ oldest-more loads log r within)

within-longer : (loads : ℕ) (log longer : List Rec) → loads ≤ length log → Longer log longer → loads ≤ length longer
within-longer loads log longer within (no_longer is) = let e = ap length is in omega arith
within-longer loads log longer within (by_one r is) = let e = ap length is in omega arith

-- a turn was taken, and what it leaves is kept
pub record Took (catalog : List Declared) (loads : ℕ) (journal : List Entry) (g : Fields) (m : Machine) (actor : ℕ) (event : Event) (reply : Reply) : Type 0 where
  pub within : loads ≤ length g.managed.log
  pub kept : IsKept (opened catalog loads g.managed.log) journal g
  pub turns : Turns m (record { opening = opened catalog loads g.managed.log; past = journal }) actor event reply

pub took : (catalog : List Declared) (loads : ℕ) (past journal : List Entry) (f g : Fields) (m : Machine) (actor : ℕ) (event : Event) (reply : Reply)
    → Holds catalog loads past f m → Longer f.managed.log g.managed.log → journal ≡ record { actor = actor; event = event; reply = reply } ∷ past → IsKept (opened catalog loads f.managed.log) journal g
    → Took catalog loads journal g m actor event reply
took catalog loads past journal f g m actor event reply holds longer is kept =
    let o = opened catalog loads f.managed.log in
    let opening = opened-longer catalog loads f.managed.log g.managed.log holds.within longer in
    let legal : Legal (opened catalog loads f.managed.log) (record { actor = actor; event = event; reply = reply } ∷ past) = subst (Legal (opened catalog loads f.managed.log)) is kept.legal in
    record {
      within = within-longer loads f.managed.log g.managed.log holds.within longer;
      kept = subst (λ (o : Opening). IsKept o journal g) (sym opening) kept;
      turns = record {
        opening = opening ∙ ap (λ (x : Machine). x.opening) holds.view;
        entry = is ∙ ap (λ (x : Machine). record { actor = actor; event = event; reply = reply } ∷ x.past) holds.view;
        allowed = subst (λ (x : Machine). Allows x.opening x.past actor event reply) holds.view legal.1.allowed;
        legal = subst (λ (o : Opening). Legal o journal) (sym opening) kept.legal;
      };
    }

-- the answer is told in other words
pub told_as : (catalog : List Declared) (loads : ℕ) (journal : List Entry) (g : Fields) (m : Machine) (actor : ℕ) (event : Event) (reply told : Reply) → told ≡ reply → Took catalog loads journal g m actor event reply → Took catalog loads journal g m actor event told
told_as catalog loads journal g m actor event reply told is t = subst (Took catalog loads journal g m actor event) (sym is) t

-- a turn's answer is the one that its event calls for
pub client_right : (old new : Machine) (actor : ℕ) (asked : Request) (answer : Reply) → Turns old new actor (Client asked) answer → answer ≡ client_reply old.opening old.past actor asked
unfolding Allows
client_right old new actor asked answer turn = turn.allowed.answered

pub start_right : (old new : Machine) (spec : Spec) (strategy : Strategy) (answer : Reply) → Turns old new 0 (Start spec strategy) answer → answer ≡ start_reply old.opening old.past spec
unfolding Allows
start_right old new spec strategy answer turn = turn.allowed.answered

pub scan_right : (old new : Machine) (n : ℕ) (answer : Reply) → Turns old new 0 (Scan n) answer → ScanAnswer old.opening old.past n answer
unfolding Allows
scan_right old new n answer turn = turn.allowed.answered

pub fetch_right : (old new : Machine) (n : ℕ) (answer : Reply) → Turns old new 0 (Fetch n) answer → answer ≡ fetch_reply old.opening old.past n
unfolding Allows
fetch_right old new n answer turn = turn.allowed.answered

pub switch_right : (old new : Machine) (answer : Reply) → Turns old new 0 Switch answer → answer ≡ switch_reply old.opening old.past
unfolding Allows
switch_right old new answer turn = turn.allowed.answered

-- ** turns that fail **

-- the same tables have the same rows
pub same-stored : (old new : List NamedTable) (name : List ℕ) (key : List Value) → SameTables old new → stored_in new name key ≡ stored_in old name key
same-stored [] [] name key same = refl
same-stored [] (u ∷ new) name key same = absurd same
same-stored (t ∷ old) [] name key same = absurd same
same-stored (t ∷ old) (u ∷ new) name key same = by (same_name t.name name) (same_name u.name name) (ap (λ n. same_name n name) same.0.name) (same-stored old new name key same.1)
  where
    by : (a b : Bool) → b ≡ a → stored_in new name key ≡ stored_in old name key
        → ◌≡◌ {A = Option Stored} (elim (cond b (Some u.table) (table_named new name)) [ None ↦ None | Some table ↦ row_at table.rows key ]) (elim (cond a (Some t.table) (table_named old name)) [ None ↦ None | Some table ↦ row_at table.rows key ])
    by true true is rest = same.0.rows key
    by false false is rest = rest
    by true false is rest = absurd (false≢true is)
    by false true is rest = absurd (false≢true (sym is))

pub unchanged_meets : (o : Opening) (past : List Entry) (m n : Managed) → ManagerMeets o past m → Unchanged m n → ManagerMeets o past n
unchanged_meets o past m n meets same = record {
  shapes = same.alive.shapes ∙ meets.shapes;
  own = same.alive.own ∙ meets.own;
  log_is = same.log ∙ meets.log_is;
  rows = λ name key there. same-stored m.tables n.tables name key same.rows ∙ meets.rows name key (subst (λ shapes. IsSome (schema_in shapes name)) same.alive.shapes there);
  begun = same.alive.begun ∙ meets.begun;
  living = ap alive_numbers same.alive.living ∙ meets.living;
  ending = λ t lives. ap (λ l. ends_in l t) same.alive.living ∙ meets.ending t (sym (ap (λ l. is_live l t) same.alive.living) ∙ lives);
  locks = λ t table key. same.locks t table key ∙ meets.locks t table key;
}

-- what is left of the fields where a turn fails: all but the room, and what no contract sees of the manager
pub record Leaves (f g : Fields) : Type 0 where
  pub managed : Unchanged f.managed g.managed
  pub clients : g.clients ≡ f.clients
  pub room : f.spare ≤ g.spare
  pub known : g.known ≡ f.known
  pub now : g.now ≡ f.now
  pub spec : g.spec ≡ f.spec
  pub cursor : g.cursor ≡ f.cursor
  pub position : g.position ≡ f.position

pub stays : (catalog : List Declared) (loads : ℕ) (past : List Entry) (f g : Fields) (m : Machine) → Holds catalog loads past f m → Leaves f g → Holds catalog loads past g m
stays catalog loads past f g m holds leaves =
    let o = opened catalog loads f.managed.log in
    let opening = opened-longer catalog loads f.managed.log g.managed.log holds.within (no_longer leaves.managed.log) in
    let kept : IsKept (opened catalog loads f.managed.log) past g = record {
      opened = holds.kept.opened;
      loads_fit = holds.kept.loads_fit;
      legal = holds.kept.legal;
      manager_meets = unchanged_meets (opened catalog loads f.managed.log) past f.managed g.managed holds.kept.manager_meets leaves.managed;
      clients_are = leaves.clients ∙ holds.kept.clients_are;
      room = (let few = holds.kept.room in let more = leaves.room in let counted = ap length leaves.clients in omega arith);
      phase_is = leaves.now ∙ holds.kept.phase_is;
      known_is = leaves.known ∙ holds.kept.known_is;
      spec_is = leaves.spec ∙ holds.kept.spec_is;
      position_is = leaves.position ∙ holds.kept.position_is;
      scan_meets = subst (λ cursor. ScanMeets (opened catalog loads f.managed.log) past cursor (phase past) (started past)) (sym leaves.cursor) holds.kept.scan_meets;
    } in
    record {
      within = within-longer loads f.managed.log g.managed.log holds.within (no_longer leaves.managed.log);
      kept = subst (λ (o : Opening). IsKept o past g) (sym opening) kept;
      view = ap (λ (o : Opening). record { opening = o; past = past }) opening ∙ holds.view;
    }

-- the same behind a journal with the same entries
pub with_journal : (catalog : List Declared) (loads : ℕ) (past journal : List Entry) (g : Fields) (m : Machine) → journal ≡ past → Holds catalog loads past g m → Holds catalog loads journal g m
with_journal catalog loads past journal g m is holds = subst (λ l. Holds catalog loads l g m) (sym is) holds

-- ** what methods ask for **

-- an effect's phase and start
pub phase_by : (past : List Entry) (e : Entry) (f : Effect) → effect e.reply ≡ f → phase (e ∷ past) ≡ phase_after (started past) f (phase past)
phase_by past e f told = ap (λ g. phase_after (started past) g (phase past)) told

pub started_told : (past : List Entry) (e : Entry) (f : Effect) → effect e.reply ≡ f → started (e ∷ past) ≡ started_by e.event f (started past)
started_told past e f told = ap (λ g. started_by e.event g (started past)) told

-- a client's transaction is live in the manager
pub live_there : (catalog : List Declared) (loads : ℕ) (past : List Entry) (f : Fields) (m : Machine) (actor txn : ℕ) → Holds catalog loads past f m → txn_of m.past actor ≡ Some txn → is_live f.managed.living txn ≡ true
live_there catalog loads past f m actor txn holds inside =
    let here = from_view (λ (x : Machine). txn_of x.past actor ≡ Some txn) (opened catalog loads f.managed.log) past m holds.view inside in
    live_among f.managed.living txn ∙ ap (λ ns. among ns txn) holds.kept.manager_meets.living ∙ txn_is_among (living past) actor txn here

-- and it's ending there where it is in the journal
pub ending_there : (catalog : List Declared) (loads : ℕ) (past : List Entry) (f : Fields) (m : Machine) (actor txn : ℕ) → Holds catalog loads past f m → txn_of m.past actor ≡ Some txn → ends_in f.managed.living txn ≡ is_ending m.past txn
ending_there catalog loads past f m actor txn holds inside =
    holds.kept.manager_meets.ending txn (live_there catalog loads past f m actor txn holds inside) ∙ ap (λ (x : Machine). is_ending x.past txn) holds.view

-- at most eight live
pub few_clients : (catalog : List Declared) (loads : ℕ) (past : List Entry) (f : Fields) (m : Machine) → Holds catalog loads past f m → length f.clients ≤ 8
few_clients catalog loads past f m holds =
    let few = few_live (opened catalog loads f.managed.log) past holds.kept.legal in
    let counted = ap length holds.kept.clients_are in
    omega arith

-- the next LSN
pub next_there : (o : Opening) (past : List Entry) (m : Managed) (lsn : ℕ) → ManagerMeets o past m → lsn ≡ length m.log + 1 → lsn ≡ next_lsn o past
next_there o past m lsn meets counts = counts ∙ ap (λ l. length l + 1) meets.log_is

-- the propagator's events are never answered Committed
pub uncommitted-start : (o : Opening) (past : List Entry) (spec : Spec) (strategy : Strategy) → commits_now o past 0 (Start spec strategy) ≡ false
unfolding commits_now
uncommitted-start o past spec strategy = refl

pub uncommitted-scan : (o : Opening) (past : List Entry) (n : ℕ) → commits_now o past 0 (Scan n) ≡ false
unfolding commits_now
uncommitted-scan o past n = refl

pub uncommitted-fetch : (o : Opening) (past : List Entry) (n : ℕ) → commits_now o past 0 (Fetch n) ≡ false
unfolding commits_now
uncommitted-fetch o past n = refl

pub uncommitted-switch : (o : Opening) (past : List Entry) → commits_now o past 0 Switch ≡ false
unfolding commits_now
uncommitted-switch o past = refl

-- ** turns that answer by a fault **

-- want of memory, where nothing has changed
pub memory_fails : (IsRight : Reply → Type 0) (old new : Machine) (actor : ℕ) (event : Event) (result : Result Reply CoreFault) → IsErrAnd result (λ fault. fault ≡ Memory) → new ≡ old → Answers IsRight old new actor event result
memory_fails IsRight old new actor event (Ok reply) memory same = absurd memory
memory_fails IsRight old new actor event (Err fault) memory same = subst (λ (f : CoreFault). Fails old new actor event f) (sym memory) same

-- a full journal
pub full_fails : (o : Opening) (past : List Entry) (actor : ℕ) (event : Event) → 50000 ≤ length past + length (living past) → commits_now o past actor event ≡ false → IsFull o past actor event
full_fails o past actor event many uncommitted = record { many = many; uncommitted = uncommitted }

-- or a place in it
pub has_place : (m : Machine) (full : Bool) → full ≡ false → (IsTrue full ↔ (50000 ≤ length m.past + length (living m.past))) → HasPlace m
has_place m full is means = elim (cases_lt (length m.past + length (living m.past)) 50000) [
  | inl less ↦ less
  | inr many ↦ absurd (false≢true (sym is ∙ means.1 many))
]
