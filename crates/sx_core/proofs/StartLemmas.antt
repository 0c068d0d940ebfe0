-- A start: refused, or the scan begins.
use Rattle.std.proofs.Common.{◌≡◌, ◌≤◌, ◌++◌, ◌∷◌, [], ℕ, List, length, map, option_map, Some, None, refl, sym, ◌∙◌, ap, subst}
use Rattle.sx_values.specs.declared.catalog.Declared.{Declared}
use Rattle.sx_log.specs.declared.record.Body.TheVariants.{Mark}
use Rattle.sx_ops.specs.declared.spec.Spec.{Spec}
use Rattle.sx_ops.specs.Checks.{IsShaped, spec_fault}
use Rattle.sx_ops.specs.Targets.{targets}
use Rattle.sx_txn.specs.Managed.{Managed, Unchanged}
use Rattle.sx_txn.specs.Turns.{Notes}
use Rattle.sx_sync.specs.declared.Strategy.{Strategy}
use Rattle.sx_sync.specs.declared.Strategy.TheVariants.{Blocking}
use Rattle.sx_sync.specs.declared.Phase.TheVariants.{Idle, Scanning, Done}
use Rattle.sx_journal.specs.declared.entry.Entry.{Entry}
use Rattle.sx_journal.specs.declared.entry.Event.TheVariants.{Start}
use Rattle.sx_journal.specs.declared.entry.Reply.{Reply}
use Rattle.sx_journal.specs.declared.entry.Reply.TheVariants as reply
use Rattle.sx_model.specs.Effects.{Nothing, Starts, effect}
use Rattle.sx_model.specs.Openings.{Opening}
use Rattle.sx_model.specs.Leaves.{Started, phase, started}
use Rattle.sx_model.specs.Logs.{log_of, next_lsn}
use Rattle.sx_model.specs.Known.{adopted, new_tables, named_in, known}
use Rattle.sx_model.specs.Scans.{seen, IsNextSide, next_side_after}
use Rattle.sx_model.specs.Cursors.{IsWalked}
use Rattle.sx_model.specs.Switches.{position}
use Rattle.sx_model.specs.Replies.{start_answer, start_in, start_reply}
use Rattle.sx_model.specs.Legal.{Allows, IsLegalEntry, HasRoom}
use Rattle.sx_model.proofs.EntryLaws.{living_by}
use Rattle.sx_model.proofs.CursorLaws.{walked_start}
use Rattle.sx_core.specs.Machines.{Machine}
use Rattle.sx_core.specs.Kept.{Fields, IsKept, IsScanning, ScanMeets, shown_in, is_behind}
use Rattle.sx_core.specs.Asked.{StartsSo}
use Rattle.sx_core.proofs.ManagerLemmas.{IsSteady, meets-started}
use Rattle.sx_core.proofs.ClientLemmas.{Beside, place_here}
use Rattle.sx_core.proofs.FetchLemmas.{own_entry, refused_took}
use Rattle.sx_core.proofs.TurnLemmas.{Holds, from_view, by_one, Took, took, opened, unchanged_meets, next_there}

-- ** a start that is refused **

legal-start : (o : Opening) (past : List Entry) (spec : Spec) (strategy : Strategy) (answer : Reply) → HasRoom past answer → IsShaped spec → strategy ≡ Blocking → answer ≡ start_reply o past spec → IsLegalEntry o past (own_entry (Start spec strategy) answer)
unfolding Allows
legal-start o past spec strategy answer room shaped blocking answered = record { room = room; allowed = record { propagator = refl; shaped = shaped; blocking = blocking; answered = answered } }

pub start_refused : (catalog : List Declared) (loads : ℕ) (past journal : List Entry) (f g : Fields) (m : Machine) (spec : Spec) (strategy : Strategy) (answer : Reply)
    → Holds catalog loads past f m → StartsSo m spec strategy → start_reply m.opening m.past spec ≡ answer → effect answer ≡ Nothing
    → Unchanged f.managed g.managed → g.clients ≡ f.clients → Beside f g → journal ≡ own_entry (Start spec strategy) answer ∷ past
    → Took catalog loads journal g m 0 (Start spec strategy) answer
start_refused catalog loads past journal f g m spec strategy answer holds starts answered quiet stays clients beside is =
    let told = from_view (λ (x : Machine). start_reply x.opening x.past spec ≡ answer) (opened catalog loads f.managed.log) past m holds.view answered in
    let entry = legal-start (opened catalog loads f.managed.log) past spec strategy answer (place_here catalog loads past f m answer holds starts.place) starts.shaped starts.blocking (sym told) in
    refused_took catalog loads past journal f g m (Start spec strategy) answer holds entry quiet stays clients beside is

-- ** the start **

effect-started : (lsn : ℕ) → effect (reply.Started lsn) ≡ Starts lsn
unfolding effect
effect-started lsn = refl

-- the transformation that an entry starts
abbrev pub begun_as : Spec → Strategy → ℕ → Started
begun_as spec strategy lsn = record { spec = spec; strategy = strategy; mark = lsn }

started-is : (past : List Entry) (spec : Spec) (strategy : Strategy) (lsn : ℕ) → started (own_entry (Start spec strategy) (reply.Started lsn) ∷ past) ≡ Some (begun_as spec strategy lsn)
unfolding effect
started-is past spec strategy lsn = refl

phase-is : (past : List Entry) (spec : Spec) (strategy : Strategy) (lsn : ℕ) → phase (own_entry (Start spec strategy) (reply.Started lsn) ∷ past) ≡ Scanning
unfolding effect
phase-is past spec strategy lsn = refl

first_side : (o : Opening) (past : List Entry) (spec : Spec) (strategy : Strategy) (lsn : ℕ) → IsNextSide o (own_entry (Start spec strategy) (reply.Started lsn) ∷ past) 0
unfolding effect next_side_after
first_side o past spec strategy lsn = refl

none_seen : (past : List Entry) (spec : Spec) (strategy : Strategy) (lsn : ℕ) → seen (own_entry (Start spec strategy) (reply.Started lsn) ∷ past) ≡ []
unfolding effect
none_seen past spec strategy lsn = refl

from_mark : (o : Opening) (past : List Entry) (spec : Spec) (strategy : Strategy) (lsn : ℕ) → position o (own_entry (Start spec strategy) (reply.Started lsn) ∷ past) ≡ lsn
unfolding effect
from_mark o past spec strategy lsn = refl

-- the scan before its first turn
scan_begins : (o : Opening) (past : List Entry) (spec : Spec) (strategy : Strategy) (lsn : ℕ) → IsScanning o (own_entry (Start spec strategy) (reply.Started lsn) ∷ past) None (begun_as spec strategy lsn)
scan_begins o past spec strategy lsn = record {
  next_side = first_side o past spec strategy lsn;
  walked = λ name only. subst (λ lsns. IsWalked (log_of o (own_entry (Start spec strategy) (reply.Started lsn) ∷ past)) lsn lsns name (is_behind None)) (sym (none_seen past spec strategy lsn))
      (walked_start (log_of o (own_entry (Start spec strategy) (reply.Started lsn) ∷ past)) lsn name);
}

-- the fields behind a start
abbrev pub started_fields : Fields → Managed → ℕ → List Declared → Spec → ℕ → Fields
started_fields f managed spare known spec lsn = record { managed = managed; spare = spare; clients = f.clients; known = known; now = Scanning; spec = Some spec; cursor = None; position = lsn }

start-answered : (o : Opening) (past : List Entry) (spec : Spec) → phase past ≡ Idle → spec_fault o.catalog spec ≡ None → start_reply o past spec ≡ reply.Started (next_lsn o past)
start-answered o past spec idle fits = ap (λ at. start_in o past at spec) idle ∙ ap (start_answer o past) fits

pub started_took : (catalog : List Declared) (loads : ℕ) (past journal : List Entry) (f : Fields) (m : Machine) (between managed : Managed) (spare lsn : ℕ) (names : List Declared) (spec kept_spec : Spec) (strategy : Strategy)
    → Holds catalog loads past f m → StartsSo m spec strategy → phase m.past ≡ Idle → spec_fault catalog spec ≡ None → names ≡ catalog ++ map adopted (targets catalog spec) → kept_spec ≡ spec
    → Unchanged f.managed between → Notes between managed Mark lsn → length f.clients ≤ spare → journal ≡ own_entry (Start spec strategy) (reply.Started lsn) ∷ past
    → Took catalog loads journal (started_fields f managed spare names kept_spec lsn) m 0 (Start spec strategy) (reply.Started lsn)
started_took catalog loads past journal f m between managed spare lsn names spec kept_spec strategy holds starts idle fits are copied stays notes room is =
    let at : phase past ≡ Idle = from_view (λ (x : Machine). phase x.past ≡ Idle) (opened catalog loads f.managed.log) past m holds.view idle in
    let meets = unchanged_meets (opened catalog loads f.managed.log) past f.managed between holds.kept.manager_meets stays in
    let next = next_there (opened catalog loads f.managed.log) past between lsn meets notes.place in
    let answered = ap reply.Started next ∙ sym (start-answered (opened catalog loads f.managed.log) past spec at fits) in
    let entry = legal-start (opened catalog loads f.managed.log) past spec strategy (reply.Started lsn) (place_here catalog loads past f m (reply.Started lsn) holds starts.place) starts.shaped starts.blocking answered in
    let told = effect-started lsn in
    let steady : IsSteady (opened catalog loads f.managed.log) past (own_entry (Start spec strategy) (reply.Started lsn)) = record {
      opened = holds.kept.opened;
      loads = holds.kept.loads_fit;
      legal = (holds.kept.legal, entry);
      shown =
          ap (λ p. map adopted (shown_in p (new_tables catalog (started (own_entry (Start spec strategy) (reply.Started lsn) ∷ past))))) (phase-is past spec strategy lsn)
          ∙ sym (ap (λ p. map adopted (shown_in p (new_tables catalog (started past)))) at);
      timely = λ done. absurd (let e : Scanning ≡ Done = sym (phase-is past spec strategy lsn) ∙ done in cc);
    } in
    let kept : IsKept (opened catalog loads f.managed.log) (own_entry (Start spec strategy) (reply.Started lsn) ∷ past) (started_fields f managed spare names kept_spec lsn) = record {
      opened = holds.kept.opened;
      loads_fit = holds.kept.loads_fit;
      legal = (holds.kept.legal, entry);
      manager_meets = meets-started (opened catalog loads f.managed.log) past between managed (own_entry (Start spec strategy) (reply.Started lsn)) lsn lsn steady meets notes told;
      clients_are = holds.kept.clients_are ∙ sym (living_by past (own_entry (Start spec strategy) (reply.Started lsn)) (Starts lsn) told);
      room = room;
      phase_is = sym (phase-is past spec strategy lsn);
      known_is =
          are
          ∙ sym (ap (λ p. catalog ++ map adopted (named_in p (new_tables catalog (started (own_entry (Start spec strategy) (reply.Started lsn) ∷ past))))) (phase-is past spec strategy lsn)
          ∙ ap (λ s. catalog ++ map adopted (new_tables catalog s)) (started-is past spec strategy lsn));
      spec_is = ap Some copied ∙ ap (option_map (λ (s : Started). s.spec)) (sym (started-is past spec strategy lsn));
      position_is = sym (from_mark (opened catalog loads f.managed.log) past spec strategy lsn);
      scan_meets =
          subst (λ p. ScanMeets (opened catalog loads f.managed.log) (own_entry (Start spec strategy) (reply.Started lsn) ∷ past) None p (started (own_entry (Start spec strategy) (reply.Started lsn) ∷ past))) (sym (phase-is past spec strategy lsn))
          (subst (ScanMeets (opened catalog loads f.managed.log) (own_entry (Start spec strategy) (reply.Started lsn) ∷ past) None Scanning) (sym (started-is past spec strategy lsn)) (scan_begins (opened catalog loads f.managed.log) past spec strategy lsn));
    } in
    let grown : managed.log ≡ record { txn = 0; body = Mark } ∷ f.managed.log = notes.log ∙ ap (λ l. record { txn = 0; body = Mark } ∷ l) stays.log in
    took catalog loads past journal f (started_fields f managed spare names kept_spec lsn) m 0 (Start spec strategy) (reply.Started lsn) holds (by_one (record { txn = 0; body = Mark }) grown) is
    (subst (λ j. IsKept (opened catalog loads f.managed.log) j (started_fields f managed spare names kept_spec lsn)) (sym is) kept)
