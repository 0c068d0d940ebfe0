-- Journals of one thread keep the script, and are complete once its lines are worked through, nobody lives and the switch is done.
use Rattle.std.proofs.Common.{◌≡◌, ◌≤◌, ◌<◌, ◌-◌, ◌==◌, ◌⊎◌, ℕ, suc, Bool, true, false, List, [], ◌∷◌, length, map, min, get_or, ◌+◌, Option, Some, None, option_map, refl, ap, ◌∙◌, subst, inl, inr, ⊎_elim, arith, eqb-true, if◌then◌else◌}
use Rattle.std.specs.Prelude.{⊤, filter, slice_get, drop, nat_lt, MatchOption}
use Rattle.std.specs.List.{AllByRecursion}
use Rattle.std.proofs.lemmas.Option.{slice_get_cases, slice_get_past, slice_get_within}
use Rattle.std.proofs.lemmas.Bool.{cases_lt}
use Rattle.std.proofs.lemmas.Bool.Decides.{nat_tests}
use Rattle.std.proofs.lemmas.List.{length-map}
use Rattle.sx_ops.specs.declared.spec.Spec.{Spec}
use Rattle.sx_sync.specs.declared.Strategy.{Strategy}
use Rattle.sx_sync.specs.declared.Phase.{Phase}
use Rattle.sx_sync.specs.declared.Phase.TheVariants.{Idle, Scanning, Chasing, Draining, Late, Done}
use Rattle.sx_journal.specs.declared.entry.Entry.{Entry}
use Rattle.sx_journal.specs.declared.entry.Event.{Event}
use Rattle.sx_journal.specs.declared.entry.Event.TheVariants.{Client, Start, Scan, Fetch, Switch}
use Rattle.sx_journal.specs.declared.entry.PropLine.{PropLine}
use Rattle.sx_journal.specs.declared.entry.PropLine.TheVariants as prop
use Rattle.sx_journal.specs.declared.entry.Reply.{Reply}
use Rattle.sx_journal.specs.declared.entry.Request.{Request}
use Rattle.sx_journal.specs.declared.entry.Request.TheVariants.{Undo}
use Rattle.sx_journal.specs.declared.entry.What.{What}
use Rattle.sx_journal.specs.declared.entry.What.TheVariants.{Ask, Abort}
use Rattle.sx_journal.specs.declared.course.Command.{Command}
use Rattle.sx_journal.specs.declared.course.Standing.{Standing}
use Rattle.sx_journal.specs.declared.course.Standing.TheVariants.{AtLine, GaveUp}
use Rattle.sx_journal.specs.Courses.{is_held, is_doomed, is_aborted, ends_abort, passed_over, after_ask, after_what, after_line, standing_after, standing_by, next_at, request_of, index_of}
use Rattle.sx_model.specs.Openings.{Opening}
use Rattle.sx_model.specs.Leaves.{Living, living, txn_among, txn_of, begun, phase}
use Rattle.sx_model.specs.Clients.{IsClient, IsLiving}
use Rattle.sx_sync.specs.Ready.{lesser, least}
use Rattle.sx_model.specs.Schedules.{Line, Plan, own, commands_of, standing_of, next_of_lines, or_undo, next_request, KeepsEvent, KeepsScript, IsSwitched, IsComplete, propagator_event, Turn, client_turn, propagator_turn, one_less, first_open, open_line, least_living, turn_at, next_turn, Stepped, Pace, pace_event, pace_turn, line_turn, is_behind, paces_left, makes_event, from_event, behind_first, holds_image}
use Rattle.sx_model.specs.Legal.{Legal}
use Rattle.sx_model.proofs.AllLaws.{all_each, all_images}
use Rattle.sx_model.proofs.TestLaws.{by_cases}
use Rattle.sx_model.proofs.LivingLaws.{legal_living}

-- how many of these lines are a client's
abbrev pub count_of : ℕ → List Line → ℕ
count_of client lines = length (filter (λ (l : Line). l.client == client) lines)

commands_count : (plan : Plan) (client : ℕ) → length (commands_of plan client) ≡ count_of client plan.lines
commands_count plan client = length-map (filter (λ (l : Line). l.client == client) plan.lines) (λ (l : Line). l.command)

-- a line of the client in front of others, and one of another client
count-mine : (client : ℕ) (l : Line) (lines : List Line) → (l.client == client) ≡ true → count_of client (l ∷ lines) ≡ suc (count_of client lines)
count-mine client l lines mine = rw mine refl

count-other : (client : ℕ) (l : Line) (lines : List Line) → (l.client == client) ≡ false → count_of client (l ∷ lines) ≡ count_of client lines
count-other client l lines other = rw other refl

less-mine : (passed : ℕ → ℕ) (one client : ℕ) → (one == client) ≡ true → one_less one passed client ≡ passed client - 1
less-mine passed one client mine = (let same : (client == one) ≡ true = grind (arith, nat_tests) in rw same refl)

less-other : (passed : ℕ → ℕ) (one client : ℕ) → (one == client) ≡ false → one_less one passed client ≡ passed client
less-other passed one client other = (let same : (client == one) ≡ false = grind (arith, nat_tests) in rw same refl)

some_passed : (n : ℕ) → (n == 0) ≡ false → 1 ≤ n
some_passed n e = grind (arith, nat_tests)

-- where no line is open, each client has come past as many as it has
pub none_open : (lines : List Line) (passed : ℕ → ℕ) → first_open lines passed ≡ None → (client : ℕ) → count_of client lines ≤ passed client
none_open [] passed none client = omega arith
none_open (l ∷ lines) passed none client =
    by_cases (passed l.client == 0) (λ here. absurd (let found : first_open (l ∷ lines) passed ≡ Some l = rw here refl in cc)) (λ past.
    let rest = none_open lines (one_less l.client passed) (rw past at none) client in
    by_cases (l.client == client)
    (λ mine.
    let count = count-mine client l lines mine in
    let less = less-mine passed l.client client mine in
    let some : 1 ≤ passed client = subst (λ n. 1 ≤ passed n) (eqb-true l.client client mine) (some_passed (passed l.client) past) in
    omega arith)
    (λ other.
    let count = count-other client l lines other in
    let less = less-other passed l.client client other in
    omega arith))

-- an open line is one of these
pub open_among : (P : Line → Type 0) (lines : List Line) (passed : ℕ → ℕ) (l : Line) → first_open lines passed ≡ Some l → AllByRecursion P lines → P l
open_among P [] passed l is all = absurd (cc)
open_among P (x ∷ lines) passed l is all =
    by_cases (passed x.client == 0) (λ here. let same : x ≡ l = (let shown : Some x ≡ Some l = rw here at is in cc) in subst P same all.0) (λ past. open_among P lines (one_less x.client passed) l (rw past at is) all.1)

-- and its client has not come past all of its lines
pub open_left : (lines : List Line) (passed : ℕ → ℕ) (l : Line) → first_open lines passed ≡ Some l → passed l.client < count_of l.client lines
open_left [] passed l is = absurd (cc)
open_left (x ∷ lines) passed l is =
    by_cases (passed x.client == 0)
    (λ here.
    let same : x ≡ l = (let shown : Some x ≡ Some l = rw here at is in cc) in
    let none : passed l.client ≡ 0 = eqb-true (passed l.client) 0 (subst (λ (y : Line). (passed y.client == 0) ≡ true) same here) in
    let count = count-mine l.client x lines (let is_same : x.client ≡ l.client = ap (λ (y : Line). y.client) same in grind (arith, nat_tests)) in
    omega arith)
    (λ past.
    let rest = open_left lines (one_less x.client passed) l (rw past at is) in
    by_cases (x.client == l.client)
    (λ mine.
    let count = count-mine l.client x lines mine in
    let less = less-mine passed x.client l.client mine in
    omega arith)
    (λ other.
    let count = count-other l.client x lines other in
    let less = less-other passed x.client l.client other in
    omega arith))

-- a line that was given up is one of the client's lines
abbrev IsGivenUp : List Command → Standing → Type 0
IsGivenUp commands (AtLine index held) = ⊤
IsGivenUp commands (GaveUp index) = index < length commands

asked_given_up : (commands : List Command) (retries index held : ℕ) (answer : Reply) → index < length commands → IsGivenUp commands (after_ask retries index held answer)
asked_given_up commands retries index held answer within = by (is_held answer) (nat_lt held retries) (is_doomed answer)
  where
    by : (is_kept left doomed : Bool) → IsGivenUp commands (if is_kept then (if left then AtLine index (held + 1) else GaveUp index) else if doomed then GaveUp index else AtLine (index + 1) 0)
    by true true doomed = tt
    by true false doomed = within
    by false left true = within
    by false left false = tt

abort_given_up : (commands : List Command) (index : ℕ) (ends : Bool) → IsGivenUp commands (if ends then AtLine (index + 1) 0 else AtLine index 0)
abort_given_up commands index true = tt
abort_given_up commands index false = tt

what_given_up : (commands : List Command) (what : What) (retries index held : ℕ) (answer : Reply) → index < length commands → IsGivenUp commands (after_what what retries index held answer)
what_given_up commands (Ask asked) retries index held answer within = asked_given_up commands retries index held answer within
what_given_up commands Abort retries index held answer within = abort_given_up commands index (ends_abort answer)

line_given_up : (commands : List Command) (line : Option Command) (retries index held : ℕ) (answer : Reply) → slice_get commands index ≡ line → IsGivenUp commands (after_line line retries index held answer)
line_given_up commands None retries index held answer is = tt
line_given_up commands (Some command) retries index held answer is = what_given_up commands command.what retries index held answer (slice_get_within commands index command is)

undo_given_up : (commands : List Command) (index : ℕ) (aborted : Bool) → index < length commands → IsGivenUp commands (if aborted then AtLine (index + passed_over (drop index commands)) 0 else GaveUp index)
undo_given_up commands index true within = tt
undo_given_up commands index false within = within

answer_given_up : (commands : List Command) (retries : ℕ) (standing : Standing) (answer : Reply) → IsGivenUp commands standing → IsGivenUp commands (standing_after commands retries standing answer)
answer_given_up commands retries (AtLine index held) answer g = line_given_up commands (slice_get commands index) retries index held answer refl
answer_given_up commands retries (GaveUp index) answer g = undo_given_up commands index (is_aborted answer) g

given_up_within : (commands : List Command) (retries : ℕ) (past : List Entry) → IsGivenUp commands (standing_by commands retries past)
given_up_within commands retries [] = tt
given_up_within commands retries (e ∷ past) = answer_given_up commands retries (standing_by commands retries past) e.reply (given_up_within commands retries past)

-- a request, if there is one
pub data Has (next : Option Request) : Type 0 where
  has : (asked : Request) → next ≡ Some asked → Has next

got_line : (command : Option Command) → (command ≡ None → ⊥) → Has (option_map (λ (c : Command). request_of c.what) command)
got_line None some = absurd (some refl)
got_line (Some command) some = has (request_of command.what) refl

-- a client goes on until it has come past its lines
pub goes_on : (commands : List Command) (standing : Standing) → index_of standing < length commands → Has (next_at commands standing)
goes_on commands (AtLine index held) left = got_line (slice_get commands index) (λ none. by (slice_get_cases commands index).1 none)
  where
    by : ((x : Command) × (index < length commands) × (slice_get commands index ≡ Some x) × (get_or commands index x ≡ x)) ⊎ ((length commands ≤ index) × (slice_get commands index ≡ None)) → slice_get commands index ≡ None → ⊥
    by (inl found) none = (let there = found.2 in cc)
    by (inr gone) none = (let over = gone.0 in absurd (omega arith))
goes_on commands (GaveUp index) left = has Undo refl

-- and then no longer, unless it has to undo
pub goes_no_further : (commands : List Command) (standing : Standing) → IsGivenUp commands standing → length commands ≤ index_of standing → next_at commands standing ≡ None
goes_no_further commands (AtLine index held) given over = ap (option_map (λ (c : Command). request_of c.what)) (slice_get_past commands index over)
goes_no_further commands (GaveUp index) given over = absurd (omega arith)

-- where no line is open no client has a next line
pub lines_over : (plan : Plan) (past : List Entry) → open_line plan past ≡ None → (client : ℕ) → next_of_lines plan client past ≡ None
lines_over plan past none client =
    let count = commands_count plan client in
    let over = none_open plan.lines (λ other. index_of (standing_of plan other past)) none client in
    goes_no_further (commands_of plan client) (standing_of plan client past) (given_up_within (commands_of plan client) plan.retries (own client past)) (omega arith)

-- and the client of an open line has one
pub line_open : (plan : Plan) (past : List Entry) (l : Line) → open_line plan past ≡ Some l → Has (next_of_lines plan l.client past)
line_open plan past l is =
    let count = commands_count plan l.client in
    let left = open_left plan.lines (λ other. index_of (standing_of plan other past)) l is in
    goes_on (commands_of plan l.client) (standing_of plan l.client past) (omega arith)

-- the least of some numbers is one of them
least_by : (P : ℕ → Type 0) (n : ℕ) (rest : Option ℕ) (found : ℕ) → P n → ((other : ℕ) → rest ≡ Some other → P other) → Some (lesser n rest) ≡ Some found → P found
least_by P n None found here more is = (let same : n ≡ found = cc in subst P same here)
least_by P n (Some other) found here more is =
    let same : min n other ≡ found = cc in
    ⊎_elim (λ less. subst P (let m : n ≡ found = omega arith in m) here) (λ more_or. subst P (let m : other ≡ found = omega arith in m) (more other refl)) (cases_lt n other)

pub least_among : (P : ℕ → Type 0) (ns : List ℕ) (found : ℕ) → AllByRecursion P ns → least ns ≡ Some found → P found
least_among P [] found all is = absurd (cc)
least_among P (n ∷ ns) found all is = least_by P n (least ns) found all.0 (λ other e. least_among P ns other all.1 e) is

-- a client with a transaction
pub record IsIn (xs : List Living) (client : ℕ) : Type 0 where
  pub txn : ℕ
  pub is : txn_among xs client ≡ Some txn

in_first : (x : Living) (xs : List Living) → IsIn (x ∷ xs) x.client
in_first x xs = (let same : (x.client == x.client) ≡ true = grind (arith, nat_tests) in record { txn = x.txn; is = rw same refl })

in_later : (x : Living) (xs : List Living) (client : ℕ) → IsIn xs client → IsIn (x ∷ xs) client
in_later x xs client i = by_cases (x.client == client) (λ t. record { txn = x.txn; is = rw t refl }) (λ f. record { txn = i.txn; is = rw f i.is })

each_in : (xs : List Living) → AllByRecursion (IsIn xs) (map (λ (l : Living). l.client) xs)
each_in [] = tt
each_in (x ∷ xs) = (in_first x xs, all_each (IsIn xs) (IsIn (x ∷ xs)) (in_later x xs) (map (λ (l : Living). l.client) xs) (each_in xs))

-- the least client with a live transaction has one
pub least_lives : (past : List Entry) (client : ℕ) → least_living past ≡ Some client → IsIn (living past) client
least_lives past client is = least_among (IsIn (living past)) (map (λ (l : Living). l.client) (living past)) client (each_in (living past)) is

-- where there is no least one nobody lives
nobody_among : (xs : List Living) → least (map (λ (l : Living). l.client) xs) ≡ None → (client : ℕ) → txn_among xs client ≡ None
nobody_among [] none client = refl
nobody_among (x ∷ xs) none client = absurd (cc)

-- behind the lines a client with a transaction undoes
undoes_next : (plan : Plan) (past : List Entry) (client : ℕ) → open_line plan past ≡ None → IsIn (living past) client → next_request plan client past ≡ Some Undo
undoes_next plan past client none i = ap (λ next. or_undo next (txn_of past client)) (lines_over plan past none client) ∙ ap (or_undo None) i.is

-- how a turn came: by an open line of a client or of the propagator, since a client has yet to undo, or at the end by the propagator
data Came (plan : Plan) (past : List Entry) (t : Turn) : Type 0 where
  by_line : (l : Line) (asked : Request) → open_line plan past ≡ Some l → next_of_lines plan l.client past ≡ Some asked → client_turn l.client asked ≡ t → Came plan past t
  by_undo : (client : ℕ) → open_line plan past ≡ None → least_living past ≡ Some client → client_turn client Undo ≡ t → Came plan past t
  by_pace : (p : Pace) (asked : Event) → pace_event plan.change plan.strategy p.what ≡ Some asked → propagator_turn asked ≡ t → Came plan past t
  by_propagator : (asked : Event) → propagator_event plan.change plan.strategy (phase past) (is_behind plan past) ≡ Some asked → propagator_turn asked ≡ t → Came plan past t

came_by_line : (plan : Plan) (past : List Entry) (t : Turn) (l : Line) (next : Option Request) → open_line plan past ≡ Some l → next_of_lines plan l.client past ≡ next → option_map (client_turn l.client) next ≡ Some t → Came plan past t
came_by_line plan past t l None is next made = absurd (cc)
came_by_line plan past t l (Some asked) is next made = by_line l asked is next (cc)

came_at_end : (plan : Plan) (past : List Entry) (t : Turn) (next : Option Event) → propagator_event plan.change plan.strategy (phase past) (is_behind plan past) ≡ next → option_map propagator_turn next ≡ Some t → Came plan past t
came_at_end plan past t None next made = absurd (cc)
came_at_end plan past t (Some asked) next made = by_propagator asked next (cc)

came_by_pace : (plan : Plan) (past : List Entry) (t : Turn) (p : Pace) (next : Option Event) → pace_event plan.change plan.strategy p.what ≡ next → option_map propagator_turn next ≡ Some t → Came plan past t
came_by_pace plan past t p None next made = absurd (cc)
came_by_pace plan past t p (Some asked) next made = by_pace p asked next (cc)

came_first : (plan : Plan) (past : List Entry) (t : Turn) (l : Line) (p : Pace) (b : Bool) → open_line plan past ≡ Some l → (if b then pace_turn plan p else line_turn plan past l) ≡ Some t → Came plan past t
came_first plan past t l p true is made = came_by_pace plan past t p (pace_event plan.change plan.strategy p.what) refl made
came_first plan past t l p false is made = came_by_line plan past t l (next_of_lines plan l.client past) is refl made

came_at : (plan : Plan) (past : List Entry) (t : Turn) (line : Option Line) (paces : List Pace) (client : Option ℕ) → open_line plan past ≡ line → least_living past ≡ client → turn_at plan past line paces client ≡ Some t → Came plan past t
came_at plan past t (Some l) [] client is lives made = came_by_line plan past t l (next_of_lines plan l.client past) is refl made
came_at plan past t (Some l) (p ∷ paces) client is lives made = came_first plan past t l p (nat_lt p.line l.command.line) is made
came_at plan past t None (p ∷ paces) client is lives made = came_by_pace plan past t p (pace_event plan.change plan.strategy p.what) refl made
came_at plan past t None [] (Some client) is lives made = by_undo client is lives (cc)
came_at plan past t None [] None is lives made = came_at_end plan past t (propagator_event plan.change plan.strategy (phase past) (is_behind plan past)) refl made

came : (plan : Plan) (past : List Entry) (t : Turn) → next_turn plan past ≡ Some t → Came plan past t
came plan past t made = came_at plan past t (open_line plan past) (paces_left plan past) (least_living past) refl refl made

-- each turn is one that the script asks for
client_kept : (plan : Plan) (past : List Entry) (client : ℕ) (asked : Request) → next_request plan client past ≡ Some asked → KeepsEvent plan past client (Client asked)
unfolding KeepsEvent
client_kept plan past client asked next = next

read_on : (plan : Plan) (past : List Entry) (behind : Bool) (asked : Event) → Some (if behind then Fetch 256 else Switch) ≡ Some asked → KeepsEvent plan past 0 asked
unfolding KeepsEvent
read_on plan past true asked next = (let same : Fetch 256 ≡ asked = cc in subst (KeepsEvent plan past 0) same tt)
read_on plan past false asked next = (let same : Switch ≡ asked = cc in subst (KeepsEvent plan past 0) same tt)

event_kept : (plan : Plan) (past : List Entry) (change : Option Spec) (at : Phase) (behind : Bool) (asked : Event) → plan.change ≡ change → propagator_event change plan.strategy at behind ≡ Some asked → KeepsEvent plan past 0 asked
unfolding KeepsEvent
event_kept plan past None at behind asked is next = absurd (cc)
event_kept plan past (Some spec) Idle behind asked is next = (let same : Start spec plan.strategy ≡ asked = cc in subst (KeepsEvent plan past 0) same (is, refl))
event_kept plan past (Some spec) Scanning behind asked is next = (let same : Scan 64 ≡ asked = cc in subst (KeepsEvent plan past 0) same tt)
event_kept plan past (Some spec) Chasing behind asked is next = read_on plan past behind asked next
event_kept plan past (Some spec) Draining behind asked is next = read_on plan past behind asked next
event_kept plan past (Some spec) Late behind asked is next = absurd (cc)
event_kept plan past (Some spec) Done behind asked is next = absurd (cc)

start_kept : (plan : Plan) (past : List Entry) (change : Option Spec) (asked : Event) → plan.change ≡ change → option_map (λ spec. Start spec plan.strategy) change ≡ Some asked → KeepsEvent plan past 0 asked
unfolding KeepsEvent
start_kept plan past None asked is next = absurd (cc)
start_kept plan past (Some spec) asked is next = (let same : Start spec plan.strategy ≡ asked = cc in subst (KeepsEvent plan past 0) same (is, refl))

pace_kept : (plan : Plan) (past : List Entry) (what : PropLine) (asked : Event) → pace_event plan.change plan.strategy what ≡ Some asked → KeepsEvent plan past 0 asked
unfolding KeepsEvent
pace_kept plan past prop.Start asked next = start_kept plan past plan.change asked refl next
pace_kept plan past prop.Check asked next = absurd (cc)
pace_kept plan past prop.Switch asked next = (let same : Switch ≡ asked = cc in subst (KeepsEvent plan past 0) same tt)
pace_kept plan past (prop.Scan n) asked next = (let same : Scan n ≡ asked = cc in subst (KeepsEvent plan past 0) same tt)
pace_kept plan past (prop.Fetch n) asked next = (let same : Fetch n ≡ asked = cc in subst (KeepsEvent plan past 0) same tt)

-- an event is one that the script asks of the turn's actor
abbrev KeepsTurn : Plan → List Entry → Turn → Type 0
KeepsTurn plan past t = KeepsEvent plan past t.actor t.event

came_kept : (plan : Plan) (past : List Entry) (t : Turn) → Came plan past t → KeepsTurn plan past t
came_kept plan past t (by_line l asked is next made) = subst (KeepsTurn plan past) made (client_kept plan past l.client asked (ap (λ found. or_undo found (txn_of past l.client)) next))
came_kept plan past t (by_undo client over least_one made) = subst (KeepsTurn plan past) made (client_kept plan past client Undo (undoes_next plan past client over (least_lives past client least_one)))
came_kept plan past t (by_pace p asked next made) = subst (KeepsTurn plan past) made (pace_kept plan past p.what asked next)
came_kept plan past t (by_propagator asked next made) = subst (KeepsTurn plan past) made (event_kept plan past plan.change (phase past) (is_behind plan past) asked refl next)

pub turn_kept : (plan : Plan) (past : List Entry) (t : Turn) → next_turn plan past ≡ Some t → KeepsEvent plan past t.actor t.event
turn_kept plan past t made = came_kept plan past t (came plan past t made)

-- so a client's turn is that client's next request
pub turn_is_next : (plan : Plan) (past : List Entry) (actor : ℕ) (asked : Request) → next_turn plan past ≡ Some (client_turn actor asked) → next_request plan actor past ≡ Some asked
unfolding KeepsEvent
turn_is_next plan past actor asked made = turn_kept plan past (client_turn actor asked) made

-- a journal of one thread keeps the script
pub stepped_keeps : (plan : Plan) (past : List Entry) → Stepped plan past → KeepsScript plan past
stepped_keeps plan [] stepped = tt
stepped_keeps plan (e ∷ past) stepped = (stepped_keeps plan past stepped.0, turn_kept plan past (record { actor = e.actor; event = e.event }) stepped.1)

-- the propagator is no client
no_client : (change : Option Spec) (strategy : Strategy) (at : Phase) (behind : Bool) (asked : Request) → propagator_event change strategy at behind ≡ Some (Client asked) → ⊥
no_client None strategy at behind asked next = cc
no_client (Some spec) strategy Idle behind asked next = cc
no_client (Some spec) strategy Scanning behind asked next = cc
no_client (Some spec) strategy Chasing true asked next = cc
no_client (Some spec) strategy Chasing false asked next = cc
no_client (Some spec) strategy Draining true asked next = cc
no_client (Some spec) strategy Draining false asked next = cc
no_client (Some spec) strategy Late behind asked next = cc
no_client (Some spec) strategy Done behind asked next = cc

no_pace : (change : Option Spec) (strategy : Strategy) (what : PropLine) (asked : Request) → pace_event change strategy what ≡ Some (Client asked) → ⊥
no_pace None strategy prop.Start asked next = cc
no_pace (Some spec) strategy prop.Start asked next = cc
no_pace change strategy prop.Check asked next = cc
no_pace change strategy prop.Switch asked next = cc
no_pace change strategy (prop.Scan n) asked next = cc
no_pace change strategy (prop.Fetch n) asked next = cc

came_client : (plan : Plan) (past : List Entry) (actor : ℕ) (asked : Request) → AllByRecursion (λ (l : Line). IsClient l.client) plan.lines → AllByRecursion IsClient (map (λ (l : Living). l.client) (living past)) → Came plan past (client_turn actor asked) → IsClient actor
came_client plan past actor asked lines living_ones (by_line l request is next made) =
    subst IsClient (ap (λ (t : Turn). t.actor) made) (open_among (λ (x : Line). IsClient x.client) plan.lines (λ client. index_of (standing_of plan client past)) l is lines)
came_client plan past actor asked lines living_ones (by_undo client over least_one made) =
    subst IsClient (ap (λ (t : Turn). t.actor) made) (least_among IsClient (map (λ (l : Living). l.client) (living past)) client living_ones least_one)
came_client plan past actor asked lines living_ones (by_propagator event next made) =
    absurd (no_client plan.change plan.strategy (phase past) (is_behind plan past) asked (next ∙ ap (λ (t : Turn). Some t.event) made))
came_client plan past actor asked lines living_ones (by_pace p event next made) =
    absurd (no_pace plan.change plan.strategy p.what asked (next ∙ ap (λ (t : Turn). Some t.event) made))

-- a client's turn is that of a client, as long as the lines and the living are of clients
pub turn_of_client : (plan : Plan) (past : List Entry) (actor : ℕ) (asked : Request) → AllByRecursion (λ (l : Line). IsClient l.client) plan.lines → AllByRecursion IsClient (map (λ (l : Living). l.client) (living past)) → next_turn plan past ≡ Some (client_turn actor asked) → IsClient actor
turn_of_client plan past actor asked lines living_ones made = came_client plan past actor asked lines living_ones (came plan past (client_turn actor asked) made)

pub legal_turn_of_client : (o : Opening) (plan : Plan) (past : List Entry) (actor : ℕ) (asked : Request) → Legal o past → AllByRecursion (λ (l : Line). IsClient l.client) plan.lines → next_turn plan past ≡ Some (client_turn actor asked) → IsClient actor
legal_turn_of_client o plan past actor asked legal lines made =
    turn_of_client plan past actor asked lines (all_images (IsLiving (begun past)) IsClient (λ (l : Living). l.client) (λ l i. i.client) (living past) (legal_living o past legal).each) made

-- what it takes for a journal without a next turn to be complete
propagator_done : (change : Option Spec) (strategy : Strategy) (at : Phase) (behind : Bool) → propagator_event change strategy at behind ≡ None → MatchOption change ⊤ (λ _. IsSwitched at)
propagator_done None strategy at behind e = tt
propagator_done (Some spec) strategy Idle behind e = absurd (cc)
propagator_done (Some spec) strategy Scanning behind e = absurd (cc)
propagator_done (Some spec) strategy Chasing behind e = absurd (cc)
propagator_done (Some spec) strategy Draining behind e = absurd (cc)
propagator_done (Some spec) strategy Late behind e = tt
propagator_done (Some spec) strategy Done behind e = tt

no_next_request : (plan : Plan) (past : List Entry) → open_line plan past ≡ None → least_living past ≡ None → (client : ℕ) → next_request plan client past ≡ None
no_next_request plan past over nobody client = ap (λ next. or_undo next (txn_of past client)) (lines_over plan past over client) ∙ ap (or_undo None) (nobody_among (living past) nobody client)

-- a client's line is open, and so there is a turn
line_made : (client : ℕ) (next : Option Request) → Has next → option_map (client_turn client) next ≡ None → ⊥
line_made client next (has asked is) none = cc

event_none : (next : Option Event) → option_map propagator_turn next ≡ None → next ≡ None
event_none None e = refl
event_none (Some asked) e = absurd (cc)

-- a line of the propagator that makes an event has one
pace_made : (change : Option Spec) (strategy : Strategy) (holds : Bool) (what : PropLine) → makes_event change holds what ≡ true → option_map propagator_turn (pace_event change strategy what) ≡ None → ⊥
pace_made None strategy holds prop.Start makes none = cc
pace_made (Some spec) strategy holds prop.Start makes none = cc
pace_made change strategy holds prop.Check makes none = cc
pace_made change strategy holds prop.Switch makes none = cc
pace_made change strategy holds (prop.Scan n) makes none = cc
pace_made change strategy holds (prop.Fetch n) makes none = cc

-- the first of the lines that are left makes an event
record MakesFirst (change : Option Spec) (paces : List Pace) : Type 0 where
  holds : Bool
  makes : (p : Pace) (rest : List Pace) → paces ≡ p ∷ rest → makes_event change holds p.what ≡ true

first_makes : (change : Option Spec) (holds : Bool) (paces : List Pace) (p : Pace) (rest : List Pace) → from_event change holds paces ≡ p ∷ rest → makes_event change holds p.what ≡ true
first_makes change holds [] p rest e = absurd (cc)
first_makes change holds (x ∷ paces) p rest e = by_cases (makes_event change holds x.what)
    (λ t. let same : x ∷ paces ≡ p ∷ rest = rw t at e in let first : x ≡ p = cc in subst (λ (y : Pace). makes_event change holds y.what ≡ true) first t)
    (λ f. first_makes change holds paces p rest (rw f at e))

left_makes : (plan : Plan) (past : List Entry) → MakesFirst plan.change (paces_left plan past)
left_makes plan [] = record { holds = false; makes = λ p rest e. first_makes plan.change false plan.paces p rest e }
left_makes plan (e ∷ past) = by_cases (e.actor == 0)
    (λ own. rw own (record { holds = holds_image (phase (e ∷ past)); makes = λ p rest is. first_makes plan.change (holds_image (phase (e ∷ past))) (behind_first (paces_left plan past)) p rest is }))
    (λ other. rw other (left_makes plan past))

pace_open : (plan : Plan) (past : List Entry) (p : Pace) (rest : List Pace) → paces_left plan past ≡ p ∷ rest → pace_turn plan p ≡ None → ⊥
pace_open plan past p rest is none = (let m = left_makes plan past in pace_made plan.change plan.strategy m.holds p.what (m.makes p rest is) none)

first_open_turn : (plan : Plan) (past : List Entry) (l : Line) (p : Pace) (rest : List Pace) (b : Bool) → open_line plan past ≡ Some l → paces_left plan past ≡ p ∷ rest → (if b then pace_turn plan p else line_turn plan past l) ≡ None → ⊥
first_open_turn plan past l p rest true is left none = pace_open plan past p rest left none
first_open_turn plan past l p rest false is left none = line_made l.client (next_of_lines plan l.client past) (line_open plan past l is) none

complete_at : (plan : Plan) (past : List Entry) (line : Option Line) (paces : List Pace) (client : Option ℕ) → open_line plan past ≡ line → paces_left plan past ≡ paces → least_living past ≡ client → Stepped plan past → turn_at plan past line paces client ≡ None → IsComplete plan past
complete_at plan past (Some l) [] client is left lives stepped none = absurd (line_made l.client (next_of_lines plan l.client past) (line_open plan past l is) none)
complete_at plan past (Some l) (p ∷ paces) client is left lives stepped none = absurd (first_open_turn plan past l p paces (nat_lt p.line l.command.line) is left none)
complete_at plan past None (p ∷ paces) client is left lives stepped none = absurd (pace_open plan past p paces left none)
complete_at plan past None [] (Some client) is left lives stepped none = absurd (cc)
complete_at plan past None [] None is left lives stepped none = record {
  keeps = stepped_keeps plan past stepped;
  ended = no_next_request plan past is lives;
  switched = propagator_done plan.change plan.strategy (phase past) (is_behind plan past) (event_none (propagator_event plan.change plan.strategy (phase past) (is_behind plan past)) none);
}

-- a journal of one thread without a next turn is complete
pub complete_at_end : (plan : Plan) (past : List Entry) → Stepped plan past → next_turn plan past ≡ None → IsComplete plan past
complete_at_end plan past stepped e = complete_at plan past (open_line plan past) (paces_left plan past) (least_living past) refl refl refl stepped e
