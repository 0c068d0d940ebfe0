-- The propagator's lines beside a journal: the next one that makes an event, and what entries leave of them.
use Rattle.std.proofs.Common.{◌≡◌, ◌≤◌, ◌-◌, ◌+◌, ◌==◌, ℕ, zero, suc, Bool, true, false, List, [], ◌∷◌, length, Option, Some, None, is_some, option_map, refl, sym, ap, ◌∙◌, subst, arith, if◌then◌else◌}
use Rattle.std.specs.Prelude.{drop, slice_get, take, map, filter}
use Rattle.std.specs.List.{AllByRecursion}
use Rattle.std.proofs.lemmas.Bool.Decides.{nat_tests}
use Rattle.sx_image.specs.declared.image.Kind.{Kind}
use Rattle.sx_ops.specs.declared.spec.Spec.{Spec}
use Rattle.sx_sync.specs.declared.Strategy.{Strategy}
use Rattle.sx_journal.specs.declared.entry.Entry.{Entry}
use Rattle.sx_journal.specs.declared.entry.Event.{Event}
use Rattle.sx_journal.specs.declared.entry.Event.TheVariants.{Client, Start, Scan, Fetch, Switch}
use Rattle.sx_journal.specs.declared.entry.PropLine.{PropLine}
use Rattle.sx_journal.specs.declared.entry.PropLine.TheVariants as prop
use Rattle.sx_journal.specs.declared.entry.Request.{Request}
use Rattle.sx_journal.specs.declared.entry.Reply.{Reply}
use Rattle.sx_model.specs.Leaves.{phase}
use Rattle.sx_model.specs.Legal.{Legal}
use Rattle.sx_model.specs.Schedules.{Plan, Line, Pace, holds_image, makes_event, from_event, behind_first, paces_left, pace_event, pace_turn, one_less, first_open, open_line, least_living, line_turn, turn_at, next_turn}
use Rattle.sx_model.proofs.TestLaws.{by_cases}
use Rattle.sx_model.proofs.ScriptLaws.{count_of}
use Rattle.sx_model.proofs.TurnLaws.{client_keeps_phase}
use Rattle.sx_script.specs.Sound.{IsClients}
use Rattle.sx_core.specs.Machines.{Machine, Turns}
use Rattle.sx_core.specs.Stands.{Stands}
use Rattle.sx_core.proofs.StandLaws.{stands_left, client_left}
use Rattle.shiftrun.specs.Holding.{Holds, KeepsImage}
use Rattle.shiftrun.specs.Lines.{IsPaced, stands_before, WaitsFor, TakesNext, open_place, PropagatorRests}
use Rattle.shiftrun.specs.declared.lines.Pacing.{Pacing}
use Rattle.shiftrun.proofs.HoldLaws.{turned_legal, behind, held_by}
use Rattle.shiftrun.proofs.PlaceLaws.{drop_next}

-- ** the next line **

-- a line, or none
pub no_line : (found : Option PropLine) → ((what : PropLine) → found ≡ Some what → ⊥) → found ≡ None
no_line None none = refl
no_line (Some what) none = absurd (none what refl)

-- a line that makes an event is the next; one that makes none is passed over
pub next_here : (change : Option Spec) (holds : Bool) (p : Pace) (paces : List Pace) → makes_event change holds p.what ≡ true → from_event change holds (p ∷ paces) ≡ p ∷ paces
next_here change holds p paces makes = rw makes refl

pub next_later : (change : Option Spec) (holds : Bool) (p : Pace) (paces : List Pace) → makes_event change holds p.what ≡ false → from_event change holds (p ∷ paces) ≡ from_event change holds paces
next_later change holds p paces makes = rw makes refl

-- and the next one makes an event
pub next_makes : (change : Option Spec) (holds : Bool) (paces : List Pace) (p : Pace) (after : List Pace) → from_event change holds paces ≡ p ∷ after → makes_event change holds p.what ≡ true
next_makes change holds [] p after is = absurd (cc)
next_makes change holds (q ∷ paces) p after is =
    by_cases (makes_event change holds q.what)
    (λ makes. let same : q ≡ p = (let e : q ∷ paces ≡ p ∷ after = sym (next_here change holds q paces makes) ∙ is in cc) in subst (λ (r : Pace). makes_event change holds r.what ≡ true) same makes)
    (λ none. next_makes change holds paces p after (sym (next_later change holds q paces none) ∙ is))

-- the lines that begin with the next one stay so
pub next_stays : (change : Option Spec) (holds : Bool) (paces : List Pace) → from_event change holds (from_event change holds paces) ≡ from_event change holds paces
next_stays change holds [] = refl
next_stays change holds (p ∷ paces) =
    by_cases (makes_event change holds p.what)
    (λ makes. ap (from_event change holds) (next_here change holds p paces makes))
    (λ none. ap (from_event change holds) (next_later change holds p paces none) ∙ (next_stays change holds paces ∙ sym (next_later change holds p paces none)))

-- what holds of each line holds of the next one
next_of : (P : Pace → Type 0) (change : Option Spec) (holds : Bool) (paces : List Pace) (p : Pace) (after : List Pace) → AllByRecursion P paces → from_event change holds paces ≡ p ∷ after → P p
next_of P change holds [] p after all is = absurd (cc)
next_of P change holds (q ∷ paces) p after all is =
    by_cases (makes_event change holds q.what)
    (λ makes. let same : q ≡ p = (let e : q ∷ paces ≡ p ∷ after = sym (next_here change holds q paces makes) ∙ is in cc) in subst P same all.0)
    (λ none. next_of P change holds paces p after all.1 (sym (next_later change holds q paces none) ∙ is))

all_dropped : (P : Pace → Type 0) (n : ℕ) (paces : List Pace) → AllByRecursion P paces → AllByRecursion P (drop n paces)
all_dropped P zero [] all = tt
all_dropped P zero (p ∷ paces) all = all
all_dropped P (suc n) [] all = tt
all_dropped P (suc n) (p ∷ paces) all = all_dropped P n paces all.1

pub next_among : (P : Pace → Type 0) (change : Option Spec) (holds : Bool) (paces : List Pace) (n : ℕ) (p : Pace) (after : List Pace) → AllByRecursion P paces → from_event change holds (drop n paces) ≡ p ∷ after → P p
next_among P change holds paces n p after all is = next_of P change holds (drop n paces) p after (all_dropped P n paces all) is

-- behind all lines there are none
none_dropped : (paces : List Pace) (n : ℕ) → length paces ≤ n → drop n paces ≡ []
none_dropped [] zero over = refl
none_dropped [] (suc n) over = refl
none_dropped (p ∷ paces) zero over = absurd (omega arith)
none_dropped (p ∷ paces) (suc n) over = none_dropped paces n (omega arith)

-- the line at a place, where those before it are worked through
pub takes_one : (until : Option ℕ) (change : Option Spec) (holds : Bool) (paces : List Pace) (n : ℕ) (p : Pace) (left : List Pace) → slice_get paces n ≡ Some p → from_event change holds (drop n paces) ≡ left → makes_event change holds p.what ≡ true → stands_before until p.line ≡ true → TakesNext until left (drop (n + 1) paces) (Some p.what)
takes_one until change holds paces n p left here is makes stands = (p.line, sym is ∙ (ap (from_event change holds) (drop_next paces n p here) ∙ next_here change holds p (drop (n + 1) paces) makes), stands)

pub waits_there : (until : Option ℕ) (change : Option Spec) (holds : Bool) (paces : List Pace) (n : ℕ) (p : Pace) (left : List Pace) → slice_get paces n ≡ Some p → from_event change holds (drop n paces) ≡ left → makes_event change holds p.what ≡ true → stands_before until p.line ≡ false → TakesNext until left (drop n paces) None
waits_there until change holds paces n p left here is makes stands =
    let whole = ap (from_event change holds) (drop_next paces n p here) ∙ next_here change holds p (drop (n + 1) paces) makes in
    (drop_next paces n p here ∙ (sym whole ∙ is), subst (WaitsFor until) (sym whole ∙ is) stands)

pub skips_one : (change : Option Spec) (holds : Bool) (paces : List Pace) (n : ℕ) (p : Pace) (left : List Pace) → slice_get paces n ≡ Some p → from_event change holds (drop n paces) ≡ left → makes_event change holds p.what ≡ false → from_event change holds (drop (n + 1) paces) ≡ left
skips_one change holds paces n p left here is none = sym (ap (from_event change holds) (drop_next paces n p here) ∙ next_later change holds p (drop (n + 1) paces) none) ∙ is

pub none_there : (until : Option ℕ) (change : Option Spec) (holds : Bool) (paces : List Pace) (n : ℕ) (left : List Pace) → length paces ≤ n → from_event change holds (drop n paces) ≡ left → TakesNext until left (drop n paces) None
none_there until change holds paces n left over is =
    let gone = none_dropped paces n over in
    let empty : left ≡ [] = sym is ∙ ap (from_event change holds) gone in
    (gone ∙ sym empty, subst (WaitsFor until) (sym empty) tt)

-- ** its turn **

-- the next line's turn has come where it stands before the first open line
pub pace_next : (plan : Plan) (past : List Entry) (until : Option ℕ) (p : Pace) (after : List Pace) → until ≡ open_place plan past → paces_left plan past ≡ p ∷ after → stands_before until p.line ≡ true → next_turn plan past ≡ pace_turn plan p
pace_next plan past until p after is left stands =
    ap (λ paces. turn_at plan past (open_line plan past) paces (least_living past)) left ∙ by (open_line plan past) (ap (λ u. stands_before u p.line) (sym is) ∙ stands)
  where
    by : (found : Option Line) → stands_before (option_map (λ (l : Line). l.command.line) found) p.line ≡ true → turn_at plan past found (p ∷ after) (least_living past) ≡ pace_turn plan p
    by None first = refl
    by (Some l) first = rw first refl

-- a line that makes an event has one
pub event_of : (change : Option Spec) (strategy : Strategy) (holds : Bool) (what : PropLine) → makes_event change holds what ≡ true → (event : Event) × (pace_event change strategy what ≡ Some event)
event_of None strategy holds prop.Start makes = absurd (cc)
event_of (Some spec) strategy holds prop.Start makes = (Start spec strategy, refl)
event_of change strategy holds prop.Check makes = absurd (cc)
event_of change strategy holds prop.Switch makes = (Switch, refl)
event_of change strategy holds (prop.Scan n) makes = (Scan n, refl)
event_of change strategy holds (prop.Fetch n) makes = (Fetch n, refl)

-- the propagator waits for the open line, so that this is the next
pub line_next : (plan : Plan) (past : List Entry) (l : Line) → WaitsFor (Some l.command.line) (paces_left plan past) → open_line plan past ≡ Some l → next_turn plan past ≡ line_turn plan past l
line_next plan past l waits is = ap (λ found. turn_at plan past found (paces_left plan past) (least_living past)) is ∙ by (paces_left plan past) waits
  where
    by : (paces : List Pace) → WaitsFor (Some l.command.line) paces → turn_at plan past (Some l) paces (least_living past) ≡ line_turn plan past l
    by [] w = refl
    by (p ∷ paces) w = rw w refl

-- where all lines of the propagator are waited for, none is left
pub none_waits : (paces : List Pace) → WaitsFor None paces → paces ≡ []
none_waits [] waits = refl
none_waits (p ∷ paces) waits = absurd (cc)

-- ** what entries leave of the lines **

-- an entry of the propagator comes past the next one
pub paced_next : (plan : Plan) (old new : Machine) (event : Event) (answer : Reply) (p : Pace) (after : List Pace) (pacing : Pacing) → paces_left plan old.past ≡ p ∷ after → Turns old new 0 event answer → pacing.paces ≡ plan.paces → pacing.is_asked ≡ is_some plan.change → drop pacing.next pacing.paces ≡ after → IsPaced plan new.past pacing
paced_next plan old new event answer p after pacing left turn paces asked is = record {
  paces = paces;
  asked = asked;
  left =
      subst (λ past. paces_left plan past ≡ from_event plan.change (holds_image (phase past)) (drop pacing.next plan.paces)) (sym turn.entry)
      (ap (λ l. from_event plan.change (holds_image (phase (record { actor = 0; event = event; reply = answer } ∷ old.past))) (behind_first l)) left
      ∙ ap (from_event plan.change (holds_image (phase (record { actor = 0; event = event; reply = answer } ∷ old.past)))) (sym is ∙ ap (drop pacing.next) paces));
}

-- a client's entry leaves the propagator's lines and the phase
pub client_rests : (plan : Plan) (old new : Machine) (client : ℕ) (asked : Request) (answer : Reply) → 1 ≤ client → Turns old new client (Client asked) answer → PropagatorRests plan old.past new.past
client_rests plan old new client asked answer one turn = record {
  left = ap (paces_left plan) turn.entry ∙ (let other : (client == 0) ≡ false = grind (arith, nat_tests) in rw other refl);
  phase_is = ap phase turn.entry ∙ client_keeps_phase old.opening old.past (record { actor = client; event = Client asked; reply = answer }) asked (turned_legal old new client (Client asked) answer turn) refl;
}

pub rests_further : (plan : Plan) (before between after : List Entry) → PropagatorRests plan before between → PropagatorRests plan between after → PropagatorRests plan before after
rests_further plan before between after one two = record { left = two.left ∙ one.left; phase_is = two.phase_is ∙ one.phase_is }

pub paced_still : (plan : Plan) (before after : List Entry) (pacing : Pacing) → PropagatorRests plan before after → IsPaced plan before pacing → IsPaced plan after pacing
paced_still plan before after pacing rests paced = record {
  paces = paced.paces;
  asked = paced.asked;
  left = rests.left ∙ paced.left ∙ ap (λ at. from_event plan.change (holds_image at) (drop pacing.next plan.paces)) (sym rests.phase_is);
}

-- and the image
pub client_keeps : (old new : Machine) (client : ℕ) (asked : Request) (answer : Reply) → 1 ≤ client → Turns old new client (Client asked) answer → KeepsImage old new
client_keeps old new client asked answer one turn image held = held_by old new image e held turn.legal turn.opening image (by image held.holds)
  where
    e : Entry
    e = record { actor = client; event = Client asked; reply = answer }

    legal : Legal old.opening (e ∷ old.past)
    legal = turned_legal old new client (Client asked) answer turn

    same : holds_image (phase new.past) ≡ holds_image (phase old.past)
    same = ap (λ l. holds_image (phase l)) turn.entry ∙ ap holds_image (client_keeps_phase old.opening old.past e asked legal refl)

    by : (kept : Option Kind) → Holds old kept → Holds new kept
    by None none = same ∙ none
    by (Some kind) holds = (same ∙ holds.0, behind old new e (λ o past. Stands o past kind) turn.opening turn.entry (stands_left old.opening old.past e kind held.legal (client_left old.opening old.past e legal one) holds.1))

pub keeps_further : (one two three : Machine) → KeepsImage one two → KeepsImage two three → KeepsImage one three
keeps_further one two three first second image held = second image (first image held)

-- ** the open line **

-- the first open line goes by how far the clients of lines have come
less_same : (mine : ℕ) (passed other : ℕ → ℕ) → ((client : ℕ) → 1 ≤ client → passed client ≡ other client) → (client : ℕ) → 1 ≤ client → one_less mine passed client ≡ one_less mine other client
less_same mine passed other same client one = by_cases (client == mine) (λ t. rw t (ap (λ n. n - 1) (same client one))) (λ f. rw f (same client one))

pub same_open : (lines : List Line) (passed other : ℕ → ℕ) → AllByRecursion IsClients lines → ((client : ℕ) → 1 ≤ client → passed client ≡ other client) → first_open lines passed ≡ first_open lines other
same_open [] passed other all same = refl
same_open (l ∷ lines) passed other all same =
    let here : passed l.client ≡ other l.client = same l.client all.0.from_one in
    let rest = same_open lines (one_less l.client passed) (one_less l.client other) all.1 (less_same l.client passed other same) in
    ap (λ n. if n == 0 then Some l else first_open lines (one_less l.client passed)) here ∙ ap (λ found. if other l.client == 0 then Some l else found) rest

-- the command of a client's line, by its index among its client's lines
pub own_command : (lines : List Line) (k client : ℕ) (l : Line) → slice_get lines k ≡ Some l → l.client ≡ client → slice_get (map (λ (o : Line). o.command) (filter (λ (o : Line). o.client == client) lines)) (count_of client (take k lines)) ≡ Some l.command
own_command [] k client l here is = absurd (cc)
own_command (x ∷ lines) zero client l here is =
    let same : x ≡ l = cc in
    let mine : (x.client == client) ≡ true = (let e : x.client ≡ client = ap (λ (o : Line). o.client) same ∙ is in grind (arith, nat_tests)) in
    rw mine (ap (λ (o : Line). Some o.command) same)
own_command (x ∷ lines) (suc k) client l here is =
    let rest = own_command lines k client l here is in
    by_cases (x.client == client) (λ t. rw t rest) (λ f. rw f rest)
