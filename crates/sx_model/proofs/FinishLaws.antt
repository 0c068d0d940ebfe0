-- The propagator's turns behind the rollbacks: nobody lives, and the transformation starts, is scanned and is switched.
use Rattle.std.proofs.Common.{◌≡◌, ◌≤◌, ◌+◌, ◌-◌, ◌⊎◌, ℕ, min, Bool, true, false, List, [], ◌∷◌, length, Option, Some, None, option_map, refl, sym, ap, ◌∙◌, subst, inl, inr, nat_lt, arith, if◌then◌else◌}
use Rattle.std.specs.Prelude.{map, filter}
use Rattle.std.specs.List.{AllByRecursion}
use Rattle.std.proofs.lemmas.Bool.Decides.{nat_tests}
use Rattle.sx_ops.specs.declared.spec.Spec.{Spec}
use Rattle.sx_ops.specs.Checks.{spec_fault}
use Rattle.sx_sync.specs.declared.Strategy.{Strategy}
use Rattle.sx_sync.specs.declared.Phase.{Phase}
use Rattle.sx_sync.specs.declared.Phase.TheVariants.{Idle, Scanning, Chasing, Draining, Done}
use Rattle.sx_journal.specs.declared.entry.Entry.{Entry}
use Rattle.sx_journal.specs.declared.entry.Event.TheVariants as event
use Rattle.sx_journal.specs.declared.entry.Request.{Request}
use Rattle.sx_journal.specs.declared.entry.Request.TheVariants.{Undo}
use Rattle.sx_journal.specs.declared.entry.Reply.{Reply}
use Rattle.sx_journal.specs.declared.entry.Reply.TheVariants as reply
use Rattle.sx_model.specs.Effects.{effect}
use Rattle.sx_model.specs.Openings.{Opening}
use Rattle.sx_model.specs.Leaves.{Living, living, Started, started, phase}
use Rattle.sx_sync.specs.Ready.{least}
use Rattle.sx_model.specs.Logs.{log_of, next_lsn}
use Rattle.sx_model.specs.Replies.{start_answer, start_in, start_reply}
use Rattle.sx_model.specs.Switches.{position, conflicts as hinders, conflict, violation, unless_violated, unless_hindered, attempt_reply, switch_in, switch_reply}
use Rattle.sx_model.specs.Legal.{ScanAnswer, Allows, Legal}
use Rattle.sx_model.specs.Fetches.{fetched, fetch_in}
use Rattle.sx_model.specs.Clients.{IsClient}
use Rattle.sx_model.specs.Schedules.{Line, Plan, next_of_lines, propagator_event, Turn, client_turn, propagator_turn, open_line, least_living, turn_at, next_turn, paces_left, is_behind}
use Rattle.sx_model.proofs.Outcomes.{no_violation}
use Rattle.sx_model.proofs.LegalLaws.{Progress, before, under_way, legal_progress}
use Rattle.sx_model.proofs.ScriptLaws.{legal_turn_of_client}

-- behind the rollbacks the next turn is the propagator's, if there is one
pub propagator_next : (plan : Plan) (past : List Entry) (at : Phase) → open_line plan past ≡ None → paces_left plan past ≡ [] → living past ≡ [] → phase past ≡ at → next_turn plan past ≡ option_map propagator_turn (propagator_event plan.change plan.strategy at (is_behind plan past))
propagator_next plan past at over passed rest is =
    let nobody : least_living past ≡ None = ap (λ (ls : List Living). least (map (λ (l : Living). l.client) ls)) rest in
    ap (λ line. turn_at plan past line (paces_left plan past) (least_living past)) over
    ∙ (ap (λ paces. turn_at plan past None paces (least_living past)) passed
    ∙ (ap (turn_at plan past None []) nobody ∙ ap (λ now. option_map propagator_turn (propagator_event plan.change plan.strategy now (is_behind plan past))) is))

-- the turns of a script with a transformation, by the phase
abbrev pub turn_in : Plan → Spec → Phase → Bool → Option Turn
turn_in plan spec at behind = option_map propagator_turn (propagator_event (Some spec) plan.strategy at behind)

pub transform_next : (plan : Plan) (past : List Entry) (spec : Spec) (at : Phase) → open_line plan past ≡ None → paces_left plan past ≡ [] → living past ≡ [] → plan.change ≡ Some spec → phase past ≡ at → next_turn plan past ≡ turn_in plan spec at (is_behind plan past)
transform_next plan past spec at over passed rest change is = propagator_next plan past at over passed rest is ∙ ap (λ asked. option_map propagator_turn (propagator_event asked plan.strategy at (is_behind plan past))) change

-- without a transformation there is no next turn
pub no_change_next : (plan : Plan) (past : List Entry) → open_line plan past ≡ None → paces_left plan past ≡ [] → living past ≡ [] → plan.change ≡ None → next_turn plan past ≡ None
no_change_next plan past over passed rest change = propagator_next plan past (phase past) over passed rest refl ∙ ap (λ asked. option_map propagator_turn (propagator_event asked plan.strategy (phase past) (is_behind plan past))) change

-- nor behind the switch
pub none_behind_switch : (plan : Plan) (past : List Entry) → open_line plan past ≡ None → paces_left plan past ≡ [] → living past ≡ [] → phase past ≡ Done → next_turn plan past ≡ None
none_behind_switch plan past over passed rest done = propagator_next plan past Done over passed rest done ∙ none_at plan.change
  where
    none_at : (change : Option Spec) → option_map propagator_turn (propagator_event change plan.strategy Done (is_behind plan past)) ≡ None
    none_at None = refl
    none_at (Some spec) = refl

-- an entry whose answer has one of these effects leaves those that live
pub record Goes (past : List Entry) (e : Entry) (at : Phase) : Type 0 where
  pub comes : phase (e ∷ past) ≡ at
  pub same : living (e ∷ past) ≡ living past

-- a transformation that fits the catalog starts
started_goes : (o : Opening) (past : List Entry) (actor : ℕ) (spec : Spec) (strategy : Strategy) (answer : Reply) → spec_fault o.catalog spec ≡ None → phase past ≡ Idle → answer ≡ start_reply o past spec → Goes past (record { actor = actor; event = event.Start spec strategy; reply = answer }) Scanning
unfolding effect
started_goes o past actor spec strategy answer fits idle told =
    let shown : answer ≡ reply.Started (next_lsn o past) = told ∙ (ap (λ at. start_in o past at spec) idle ∙ ap (start_answer o past) fits) in
    subst (λ r. Goes past (record { actor = actor; event = event.Start spec strategy; reply = r }) Scanning) (sym shown) (record { comes = refl; same = refl })

pub start_goes : (o : Opening) (past : List Entry) (actor : ℕ) (spec : Spec) (strategy : Strategy) (answer : Reply) → spec_fault o.catalog spec ≡ None → phase past ≡ Idle → Allows o past actor (event.Start spec strategy) answer → Goes past (record { actor = actor; event = event.Start spec strategy; reply = answer }) Scanning
unfolding Allows
start_goes o past actor spec strategy answer fits idle a = started_goes o past actor spec strategy answer fits idle a.answered

-- a scan turn goes on, or is the last
scanned_goes : (o : Opening) (past : List Entry) (actor n : ℕ) (answer : Reply) → phase past ≡ Scanning → ScanAnswer o past n answer → Goes past (record { actor = actor; event = event.Scan n; reply = answer }) Scanning ⊎ Goes past (record { actor = actor; event = event.Scan n; reply = answer }) Chasing
unfolding ScanAnswer effect
scanned_goes o past actor n (reply.Scanned side lsns true) scanning a = inr (record { comes = refl; same = refl })
scanned_goes o past actor n (reply.Scanned side lsns false) scanning a = inl (record { comes = scanning; same = refl })
scanned_goes o past actor n reply.NoTransform scanning (inl e) = absurd (cc)
scanned_goes o past actor n reply.NoTransform scanning (inr (inl e)) = absurd (cc)
scanned_goes o past actor n reply.NoTransform scanning (inr (inr e)) = absurd (cc)
scanned_goes o past actor n reply.ScanOver scanning (inl e) = absurd (cc)
scanned_goes o past actor n reply.ScanOver scanning (inr e) = absurd (cc)
scanned_goes o past actor n other scanning a = absurd a

pub scan_goes : (o : Opening) (past : List Entry) (actor n : ℕ) (answer : Reply) → phase past ≡ Scanning → Allows o past actor (event.Scan n) answer → Goes past (record { actor = actor; event = event.Scan n; reply = answer }) Scanning ⊎ Goes past (record { actor = actor; event = event.Scan n; reply = answer }) Chasing
unfolding Allows
scan_goes o past actor n answer scanning a = scanned_goes o past actor n answer scanning a.answered

-- where nobody lives nobody hinders the switch
unhindered : (o : Opening) (past : List Entry) (s : Started) → living past ≡ [] → conflict o past s ≡ None
unhindered o past s rest = ap (λ (ls : List Living). least (map (λ (l : Living). l.txn) (filter (hinders o past s) ls))) rest

scanned_busy : (at : Phase) → (at ≡ Chasing) ⊎ (at ≡ Draining) → at ≡ Idle → ⊥
scanned_busy at (inl e) idle = cc
scanned_busy at (inr e) idle = cc

no_tail : (position end : ℕ) → end ≤ position → nat_lt 256 (end - position) ≡ false
no_tail position end read = grind (arith, nat_tests)

-- so the switch is done
attempt_done : (o : Opening) (past : List Entry) → living past ≡ [] → (phase past ≡ Chasing) ⊎ (phase past ≡ Draining) → length (log_of o past) ≤ position o past → Progress o.catalog (phase past) (started past) (position o past) (length (log_of o past)) → attempt_reply o past (started past) ≡ reply.Switched (next_lsn o past)
attempt_done o past rest scanned read (before idle none) = absurd (scanned_busy (phase past) scanned idle)
attempt_done o past rest scanned read (under_way u) =
    ap (attempt_reply o past) u.this
    ∙ (ap (λ long. if long then reply.Unread (position o past) (length (log_of o past)) else unless_hindered (conflict o past u.s) (unless_violated (violation o past u.s.spec) (reply.Switched (next_lsn o past)))) (no_tail (position o past) (length (log_of o past)) read)
    ∙ (ap (λ txn. unless_hindered txn (unless_violated (violation o past u.s.spec) (reply.Switched (next_lsn o past)))) (unhindered o past u.s rest)
    ∙ ap (λ keys. unless_hindered None (unless_violated keys (reply.Switched (next_lsn o past)))) (no_violation o past u.s.spec u.shaped)))

scanned_switch : (o : Opening) (past : List Entry) (at : Phase) → (at ≡ Chasing) ⊎ (at ≡ Draining) → switch_in o past at ≡ attempt_reply o past (started past)
scanned_switch o past at (inl e) = ap (switch_in o past) e
scanned_switch o past at (inr e) = ap (switch_in o past) e

-- a switch is done where the scan has ended, the log is read and nobody lives
pub switch_at_rest : (o : Opening) (past : List Entry) → Legal o past → living past ≡ [] → (phase past ≡ Chasing) ⊎ (phase past ≡ Draining) → length (log_of o past) ≤ position o past → switch_reply o past ≡ reply.Switched (next_lsn o past)
switch_at_rest o past legal rest scanned read = scanned_switch o past (phase past) scanned ∙ attempt_done o past rest scanned read (legal_progress o past legal)

switched_goes : (o : Opening) (past : List Entry) (actor : ℕ) (answer : Reply) → answer ≡ reply.Switched (next_lsn o past) → Goes past (record { actor = actor; event = event.Switch; reply = answer }) Done
unfolding effect
switched_goes o past actor answer shown = subst (λ r. Goes past (record { actor = actor; event = event.Switch; reply = r }) Done) (sym shown) (record { comes = refl; same = refl })

pub switch_goes : (o : Opening) (past : List Entry) (actor : ℕ) (answer : Reply) → Legal o past → living past ≡ [] → (phase past ≡ Chasing) ⊎ (phase past ≡ Draining) → length (log_of o past) ≤ position o past → Allows o past actor event.Switch answer → Goes past (record { actor = actor; event = event.Switch; reply = answer }) Done
unfolding Allows
switch_goes o past actor answer legal rest scanned read a = switched_goes o past actor answer (a.answered ∙ switch_at_rest o past legal rest scanned read)

-- a turn that is a client's request
data Asks (t : Turn) : Type 0 where
  asks : (asked : Request) → client_turn t.actor asked ≡ t → Asks t

line_asks : (client : ℕ) (next : Option Request) (t : Turn) → option_map (client_turn client) next ≡ Some t → Asks t
line_asks client None t made = absurd (cc)
line_asks client (Some asked) t made = (let same : client_turn client asked ≡ t = cc in asks asked (ap (λ (u : Turn). client_turn u.actor asked) (sym same) ∙ same))

no_event : (plan : Plan) (at : Phase) (behind : Bool) (t : Turn) → plan.change ≡ None → option_map propagator_turn (propagator_event plan.change plan.strategy at behind) ≡ Some t → ⊥
no_event plan at behind t none made = (let quiet : None ≡ Some t = ap (λ asked. option_map propagator_turn (propagator_event asked plan.strategy at behind)) (sym none) ∙ made in cc)

-- without lines of the propagator
turn_asks : (plan : Plan) (past : List Entry) (line : Option Line) (client : Option ℕ) (t : Turn) → plan.change ≡ None → turn_at plan past line [] client ≡ Some t → Asks t
turn_asks plan past (Some l) client t none made = line_asks l.client (next_of_lines plan l.client past) t made
turn_asks plan past None (Some client) t none made = line_asks client (Some Undo) t made
turn_asks plan past None None t none made = absurd (no_event plan (phase past) (is_behind plan past) t none made)

-- without a transformation each turn is a client's
pub client_acts : (o : Opening) (plan : Plan) (past : List Entry) (t : Turn) → Legal o past → AllByRecursion (λ (l : Line). IsClient l.client) plan.lines → plan.change ≡ None → paces_left plan past ≡ [] → next_turn plan past ≡ Some t → IsClient t.actor
client_acts o plan past t legal lines none passed made = by (turn_asks plan past (open_line plan past) (least_living past) t none (sym (ap (λ paces. turn_at plan past (open_line plan past) paces (least_living past)) passed) ∙ made))
  where
    by : Asks t → IsClient t.actor
    by (asks asked same) = legal_turn_of_client o plan past t.actor asked legal lines (made ∙ ap Some (sym same))

-- a fetch reads on
pub record ReadsOn (o : Opening) (past : List Entry) (e : Entry) (n : ℕ) : Type 0 where
  pub stays : phase (e ∷ past) ≡ phase past
  pub same : living (e ∷ past) ≡ living past
  pub log : log_of o (e ∷ past) ≡ log_of o past
  pub read : position o (e ∷ past) ≡ min (position o past + n) (length (log_of o past))

fetched_goes : (o : Opening) (past : List Entry) (actor n : ℕ) (answer : Reply) → answer ≡ fetched (position o past) (length (log_of o past)) n → ReadsOn o past (record { actor = actor; event = event.Fetch n; reply = answer }) n
unfolding effect
fetched_goes o past actor n answer shown = subst (λ r. ReadsOn o past (record { actor = actor; event = event.Fetch n; reply = r }) n) (sym shown) (record { stays = refl; same = refl; log = refl; read = refl })

scanned_fetch : (o : Opening) (past : List Entry) (n : ℕ) (at : Phase) → (at ≡ Chasing) ⊎ (at ≡ Draining) → fetch_in o past n at ≡ fetched (position o past) (length (log_of o past)) n
scanned_fetch o past n at (inl e) = ap (fetch_in o past n) e
scanned_fetch o past n at (inr e) = ap (fetch_in o past n) e

pub fetch_goes : (o : Opening) (past : List Entry) (actor n : ℕ) (answer : Reply) → (phase past ≡ Chasing) ⊎ (phase past ≡ Draining) → Allows o past actor (event.Fetch n) answer → ReadsOn o past (record { actor = actor; event = event.Fetch n; reply = answer }) n
unfolding Allows
fetch_goes o past actor n answer scanned a = fetched_goes o past actor n answer (a.answered ∙ scanned_fetch o past n (phase past) scanned)
