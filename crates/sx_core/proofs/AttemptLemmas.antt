-- A turn that attempts to switch and doesn't, from what the machine was to what it is: over plain variables.
use Rattle.std.proofs.Common.{◌≡◌, ◌≤◌, ◌++◌, ◌∷◌, [], ℕ, List, length, map, Option, Some, option_map, Bool, true, false, Result, Ok, Err, OnOk, refl, sym, ◌∙◌, ap, subst, inl, inr}
use Rattle.std.specs.Result.{is_err}
use Rattle.std.specs.declared.alloc.AllocError.{AllocError}
use Rattle.sx_values.specs.declared.catalog.Declared.{Declared}
use Rattle.sx_ops.specs.declared.spec.Target.{Target}
use Rattle.sx_txn.specs.Managed.{Unchanged}
use Rattle.sx_image.specs.declared.image.Kind.{Kind}
use Rattle.sx_sync.specs.declared.Phase.{Phase}
use Rattle.sx_sync.specs.declared.Phase.TheVariants.{Idle, Chasing, Draining, Done}
use Rattle.sx_journal.specs.declared.entry.Entry.{Entry}
use Rattle.sx_journal.specs.declared.entry.Event.TheVariants.{Switch}
use Rattle.sx_journal.specs.declared.entry.Reply.{Reply}
use Rattle.sx_journal.specs.declared.entry.Reply.TheVariants as reply
use Rattle.sx_model.specs.Effects.{effect, Nothing, Conflicts}
use Rattle.sx_model.specs.Openings.{Opening}
use Rattle.sx_model.specs.Leaves.{Started, started, phase}
use Rattle.sx_model.specs.Logs.{log_of}
use Rattle.sx_model.specs.Known.{adopted, new_tables, named_in, known}
use Rattle.sx_model.specs.Switches.{switch_reply, position, position_after}
use Rattle.sx_model.specs.Legal.{Legal, Allows, IsLegalEntry, HasRoom}
use Rattle.sx_model.proofs.EntryLaws.{living_by}
use Rattle.sx_model.proofs.LegalLaws.{UnderWay, Progress, before, under_way, legal_progress}
use Rattle.sx_core.specs.Machines.{Machine, Turns}
use Rattle.sx_core.specs.Kept.{Fields, ScanMeets, IsKept, shown_in, shown_now}
use Rattle.sx_core.specs.Asked.{HasPlace, IsScanned}
use Rattle.sx_core.specs.Answers.{Attempts, ComesBack}
use Rattle.sx_core.specs.Switching.{reply_of}
use Rattle.sx_core.specs.declared.switch.Cause.{Cause}
use Rattle.sx_core.specs.declared.switch.Cause.TheVariants as cause
use Rattle.sx_core.proofs.ManagerLemmas.{IsSteady, meets-quiet, quiet-conflicts}
use Rattle.sx_core.proofs.ClientLemmas.{Beside, place_here}
use Rattle.sx_core.proofs.TurnLemmas.{Holds, from_view, no_longer, Took, took, opened, started_told, switch_right}
use Rattle.sx_core.proofs.FetchLemmas.{own_entry, refused_took}

-- what a call gives that didn't fail
pub not_failed : (result : Result (Unit {0}) AllocError) (fails : Bool) (P : Type 0) → fails ≡ is_err result → fails ≡ false → OnOk result P → P
not_failed (Ok done) fails P is none fact = fact
not_failed (Err fault) fails P is none fact = absurd (let wrong : false ≡ true = sym none ∙ is in cc)

-- an entry of the propagator
pub legal-switch : (o : Opening) (past : List Entry) (answer : Reply) → HasRoom past answer → answer ≡ switch_reply o past → IsLegalEntry o past (own_entry Switch answer)
unfolding Allows
legal-switch o past answer room answered = record { room = room; allowed = record { propagator = refl; answered = answered } }

-- the entry of an attempt, allowed here
pub switch_entry : (catalog : List Declared) (loads : ℕ) (past : List Entry) (f : Fields) (m : Machine) (answer : Reply) → Holds catalog loads past f m → HasPlace m → switch_reply m.opening m.past ≡ answer
    → IsLegalEntry (opened catalog loads f.managed.log) past (own_entry Switch answer)
switch_entry catalog loads past f m answer holds place answered =
    let told = from_view (λ (x : Machine). switch_reply x.opening x.past ≡ answer) (opened catalog loads f.managed.log) past m holds.view answered in
    legal-switch (opened catalog loads f.managed.log) past answer (place_here catalog loads past f m answer holds place) (sym told)

-- the phase here
pub scanned_here : (catalog : List Declared) (loads : ℕ) (past : List Entry) (f : Fields) (m : Machine) → Holds catalog loads past f m → IsScanned (phase m.past) → IsScanned (phase past)
scanned_here catalog loads past f m holds scanned = from_view (λ (x : Machine). IsScanned (phase x.past)) (opened catalog loads f.managed.log) past m holds.view scanned

-- ** an attempt is refused **

pub effect-no_transform : effect reply.NoTransform ≡ Nothing
unfolding effect
effect-no_transform = refl

pub effect-not_scanned : effect reply.NotScanned ≡ Nothing
unfolding effect
effect-not_scanned = refl

pub effect-unread : (pos end : ℕ) → effect (reply.Unread pos end) ≡ Nothing
unfolding effect
effect-unread pos end = refl

pub attempt_refused : (catalog : List Declared) (loads : ℕ) (past journal : List Entry) (f g : Fields) (m : Machine) (answer : Reply) → Holds catalog loads past f m → HasPlace m → switch_reply m.opening m.past ≡ answer → effect answer ≡ Nothing
    → Unchanged f.managed g.managed → g.clients ≡ f.clients → Beside f g → journal ≡ own_entry Switch answer ∷ past → Took catalog loads journal g m 0 Switch answer
attempt_refused catalog loads past journal f g m answer holds place answered quiet stays clients beside is =
    refused_took catalog loads past journal f g m Switch answer holds (switch_entry catalog loads past f m answer holds place answered) quiet stays clients beside is

pub attempted : (old new : Machine) (answer : Reply) → Turns old new 0 Switch answer → Attempts old new answer
attempted old new answer turns = record { right = switch_right old new answer turns; turns = turns }

same : (one other : Reply) → Some one ≡ Some other → one ≡ other
same one other is = cc

pub comes_back : (old new : Machine) (image : Kind) (why : Cause) (answer : Reply) → reply_of why ≡ Some answer → Attempts old new answer → ComesBack old new image image why
comes_back old new image cause.Memory answer is attempt = absurd (cc)
comes_back old new image cause.Full answer is attempt = absurd (cc)
comes_back old new image (cause.Worn turns) answer is attempt = absurd (cc)
comes_back old new image cause.NoTransform answer is attempt = (subst (Attempts old new) (sym (same reply.NoTransform answer is)) attempt, refl)
comes_back old new image cause.NotScanned answer is attempt = (subst (Attempts old new) (sym (same reply.NotScanned answer is)) attempt, refl)
comes_back old new image (cause.Unread pos end) answer is attempt = (subst (Attempts old new) (sym (same (reply.Unread pos end) answer is)) attempt, refl)
comes_back old new image (cause.Conflict txn) answer is attempt = (subst (Attempts old new) (sym (same (reply.Conflict txn) answer is)) attempt, refl)
comes_back old new image (cause.Violated first second) answer is attempt = (subst (Attempts old new) (sym (same (reply.Violated first second) answer is)) attempt, refl)

-- ** a transformation whose scan has ended **

-- it was started
under_of : (catalog : List Declared) (at : Phase) (is : Option Started) (place end : ℕ) → Progress catalog at is place end → IsScanned at → UnderWay catalog at is place end
under_of catalog at is place end (before idle none) (inl scanned) = absurd (let e : Idle ≡ Chasing = sym idle ∙ scanned in cc)
under_of catalog at is place end (before idle none) (inr scanned) = absurd (let e : Idle ≡ Draining = sym idle ∙ scanned in cc)
under_of catalog at is place end (under_way u) scanned = u

pub under_here : (o : Opening) (past : List Entry) → Legal o past → IsScanned (phase past) → UnderWay o.catalog (phase past) (started past) (position o past) (length (log_of o past))
under_here o past legal scanned = under_of o.catalog (phase past) (started past) (position o past) (length (log_of o past)) (legal_progress o past legal) scanned

pub unshown : (at : Phase) (tables : List Target) → IsScanned at → shown_in at tables ≡ []
unshown at tables (inl is) = rw is refl
unshown at tables (inr is) = rw is refl

all_named : (at : Phase) (tables : List Target) → IsScanned at → named_in at tables ≡ tables
all_named at tables (inl is) = rw is refl
all_named at tables (inr is) = rw is refl

-- what names mean since its start
pub known_scanned : (o : Opening) (past : List Entry) → IsScanned (phase past) → known o past ≡ o.catalog ++ map adopted (new_tables o.catalog (started past))
known_scanned o past scanned = ap (λ l. o.catalog ++ map adopted l) (all_named (phase past) (new_tables o.catalog (started past)) scanned)

pub none_shown_yet : (o : Opening) (past : List Entry) → IsScanned (phase past) → shown_now o past ≡ []
none_shown_yet o past scanned = ap (map adopted) (unshown (phase past) (new_tables o.catalog (started past)) scanned)

-- ** an attempt drains **

pub effect-conflict : (txn : ℕ) → effect (reply.Conflict txn) ≡ Conflicts
unfolding effect
effect-conflict txn = refl

-- the fields that an attempt leaves besides the phase
pub record Aside (f g : Fields) : Type 0 where
  pub clients : g.clients ≡ f.clients
  pub room : length g.clients ≤ g.spare
  pub known : g.known ≡ f.known
  pub spec : g.spec ≡ f.spec
  pub position : g.position ≡ f.position

drained-kept : (o : Opening) (past : List Entry) (f g : Fields) (e : Entry) → IsKept o past f → IsLegalEntry o past e → effect e.reply ≡ Conflicts → IsScanned (phase past) → Unchanged f.managed g.managed → Aside f g → g.now ≡ Draining → IsKept o (e ∷ past) g
drained-kept o past f g e kept entry told scanned stays aside now =
    let u = under_here o past kept.legal scanned in
    let at : phase (e ∷ past) ≡ Draining = rw (told, u.this, u.blocking) refl in
    let is = started_told past e Conflicts told in
    let again : IsScanned (phase (e ∷ past)) = inr at in
    let steady : IsSteady o past e = record {
      opened = kept.opened;
      loads = kept.loads_fit;
      legal = (kept.legal, entry);
      shown = none_shown_yet o (e ∷ past) again ∙ sym (none_shown_yet o past scanned);
      timely = λ done. absurd (let wrong : Draining ≡ Done = sym at ∙ done in cc);
    } in
    record {
      opened = kept.opened;
      loads_fit = kept.loads_fit;
      legal = (kept.legal, entry);
      manager_meets = meets-quiet o past f.managed g.managed e Conflicts steady kept.manager_meets stays (quiet-conflicts o past e told);
      clients_are = aside.clients ∙ kept.clients_are ∙ sym (living_by past e Conflicts told);
      room = aside.room;
      phase_is = now ∙ sym at;
      known_is = aside.known ∙ kept.known_is ∙ known_scanned o past scanned ∙ ap (λ s. o.catalog ++ map adopted (new_tables o.catalog s)) (sym is) ∙ sym (known_scanned o (e ∷ past) again);
      spec_is = aside.spec ∙ kept.spec_is ∙ ap (option_map (λ (s : Started). s.spec)) (sym is);
      position_is = aside.position ∙ kept.position_is ∙ sym (ap (λ f. position_after (length (log_of o (e ∷ past))) f (position o past)) told);
      scan_meets = subst (λ p. ScanMeets o (e ∷ past) g.cursor p (started (e ∷ past))) (sym at) (rests (started (e ∷ past)));
    }
  where
    rests : (s : Option Started) → ScanMeets o (e ∷ past) g.cursor Draining s
    rests s = tt

pub drained_took : (catalog : List Declared) (loads : ℕ) (past journal : List Entry) (f g : Fields) (m : Machine) (txn : ℕ) → Holds catalog loads past f m → HasPlace m → IsScanned (phase m.past) → switch_reply m.opening m.past ≡ reply.Conflict txn
    → Unchanged f.managed g.managed → Aside f g → g.now ≡ Draining → journal ≡ own_entry Switch (reply.Conflict txn) ∷ past → Took catalog loads journal g m 0 Switch (reply.Conflict txn)
drained_took catalog loads past journal f g m txn holds place scanned answered stays aside now is =
    let entry = switch_entry catalog loads past f m (reply.Conflict txn) holds place answered in
    let kept = drained-kept (opened catalog loads f.managed.log) past f g (own_entry Switch (reply.Conflict txn)) holds.kept entry (effect-conflict txn) (scanned_here catalog loads past f m holds scanned) stays aside now in
    took catalog loads past journal f g m 0 Switch (reply.Conflict txn) holds (no_longer stays.log) is (subst (λ j. IsKept (opened catalog loads f.managed.log) j g) (sym is) kept)
