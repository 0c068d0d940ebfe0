-- A client's line on the machine, from its first request until the client has come past it.
use Rattle.std.proofs.Common.{◌≡◌, ◌≤◌, ◌<◌, ◌+◌, ◌==◌, ◌++◌, ℕ, zero, suc, false, List, [], ◌∷◌, length, Option, Some, None, option_map, Result, Ok, Err, refl, sym, ap, ◌∙◌, subst, arith, eqb-true}
use Rattle.std.specs.Prelude.{slice_get, take, drop, IsErrAnd}
use Rattle.std.proofs.lemmas.Bool.Decides.{nat_tests}
use Rattle.sx_journal.specs.declared.entry.Entry.{Entry}
use Rattle.sx_journal.specs.declared.entry.Event.{Event}
use Rattle.sx_journal.specs.declared.entry.Event.TheVariants.{Client}
use Rattle.sx_journal.specs.declared.entry.Request.{Request}
use Rattle.sx_journal.specs.declared.entry.Reply.{Reply}
use Rattle.sx_journal.specs.declared.course.Command.{Command}
use Rattle.sx_journal.specs.declared.course.Standing.{Standing}
use Rattle.sx_journal.specs.declared.course.Standing.TheVariants.{AtLine, GaveUp}
use Rattle.sx_journal.specs.Courses.{Progress, standing_after, request_of, next_at, index_of}
use Rattle.sx_model.specs.Schedules.{Plan, commands_of, standing_of, next_of_lines, client_turn, first_open, open_line, next_turn, Stepped, IsFull}
use Rattle.sx_model.proofs.TestLaws.{by_cases}
use Rattle.sx_model.proofs.ScriptLaws.{count_of}
use Rattle.sx_model.proofs.TurnLaws.{open_behind, none_behind, standing_own, standing_other, standing_forward}
use Rattle.sx_core.specs.Machines.{Machine, Turns}
use Rattle.sx_core.specs.Answers.{Fails}
use Rattle.sx_core.specs.declared.machine.CoreFault.{CoreFault}
use Rattle.sx_core.specs.declared.machine.CoreFault.TheVariants.{Memory, Full}
use Rattle.shiftrun.specs.declared.lines.OwnLine.{OwnLine}
use Rattle.shiftrun.specs.Runs.{Runs, HasStopped, ComesTo}
use Rattle.shiftrun.specs.Lines.{progress_of, clients_of, times, own_lines, WaitsFor, HavePassed, StandsAt, IsDue, IsAhead, GoesOn, IsNoted}
use Rattle.shiftrun.proofs.PaceLaws.{client_rests, line_next}
use Rattle.shiftrun.proofs.PlaceLaws.{split_at, take_next, take_whole, times_own, times_other, times_count, times_all, LineAt, line_at, own_at}

-- the opening of a machine and its turns go on with a turn that is the next one
pub turned : (plan : Plan) (old new : Machine) (actor : ℕ) (event : Event) (answer : Reply) → Runs plan old → next_turn plan old.past ≡ Some (record { actor = actor; event = event }) → Turns old new actor event answer → Runs plan new
turned plan old new actor event answer runs next turn = record {
  opening = turn.opening ∙ runs.opening;
  legal = turn.legal;
  stepped = subst (Stepped plan) (sym turn.entry) (runs.stepped, next);
}

-- the line whose turn has come is the open one, as long as its client hasn't come past it
pub due_open : (plan : Plan) (machine : Machine) (course : Progress) (line : OwnLine) (due : IsDue plan machine course line) (at : LineAt plan.lines due.done line.client) → index_of (standing_of plan line.client machine.past) ≤ line.index → open_line plan machine.past ≡ Some at.line
due_open plan machine course line due at here =
    let passed : ℕ → ℕ = λ client. index_of (standing_of plan client machine.past) in
    let enough : (client : ℕ) → count_of client (take due.done plan.lines) ≤ passed client = λ client. subst (λ n. n ≤ passed client) (times_count client due.done plan.lines) (due.passed client) in
    let is_index : line.index ≡ count_of line.client (take due.done plan.lines) = due.index ∙ times_count line.client due.done plan.lines in
    let few : passed line.client ≤ count_of line.client (take due.done plan.lines) = subst (λ n. passed line.client ≤ n) is_index here in
    let few_there : passed at.line.client ≤ count_of at.line.client (take due.done plan.lines) = subst (λ n. passed n ≤ count_of n (take due.done plan.lines)) (sym at.of_client) few in
    subst (λ lines. first_open lines passed ≡ Some at.line) (split_at plan.lines due.done at.line at.here) (open_behind (take due.done plan.lines) at.line (drop (due.done + 1) plan.lines) passed enough few_there)

-- so the next turn is its client's next request, where the propagator waits for it
pub due_next : (plan : Plan) (machine : Machine) (course : Progress) (line : OwnLine) (asked : Request) → IsAhead plan machine course line → index_of course.standing ≤ line.index → next_at course.commands course.standing ≡ Some asked → next_turn plan machine.past ≡ Some (client_turn line.client asked)
due_next plan machine course line asked ahead here next =
    let due = ahead.due in
    let at = line_at plan.lines due.done line.client due.here in
    let place : index_of (standing_of plan line.client machine.past) ≤ line.index = subst (λ (p : Progress). index_of p.standing ≤ line.index) due.is_course here in
    let own_next : next_of_lines plan line.client machine.past ≡ Some asked = sym (ap (λ (p : Progress). next_at p.commands p.standing) due.is_course) ∙ next in
    line_next plan machine.past at.line (ahead.waits at.line at.here) (due_open plan machine course line due at place)
    ∙ (ap (λ client. option_map (client_turn client) (next_of_lines plan client machine.past)) at.of_client
    ∙ ap (option_map (client_turn line.client)) own_next)

-- a client that has lines left has a next request
some_at : {T : Type 0} (xs : List T) (k : ℕ) → k < length xs → slice_get xs k ≡ None → ⊥
some_at [] k within none = absurd (omega arith)
some_at (x ∷ xs) zero within none = cc
some_at (x ∷ xs) (suc k) within none = some_at xs k (omega arith) none

none_mapped : {A B : Type 0} (f : A → B) (found : Option A) → option_map f found ≡ None → found ≡ None
none_mapped f None none = refl
none_mapped f (Some x) none = absurd (cc)

pub has_next : (commands : List Command) (standing : Standing) → index_of standing < length commands → next_at commands standing ≡ None → ⊥
has_next commands (AtLine index held) within none = some_at commands index within (none_mapped (λ (c : Command). request_of c.what) (slice_get commands index) none)
has_next commands (GaveUp index) within none = cc

-- an entry leads no client back, and only its own client on
pub goes_by : (plan : Plan) (e : Entry) (past : List Entry) → GoesOn plan e.actor past (e ∷ past)
goes_by plan e past = record {
  forward = λ other. standing_forward plan other e past;
  others = λ other one differs. standing_other plan other e past (let swapped : (e.actor == other) ≡ false = grind (arith, nat_tests) in swapped);
}

pub goes_nowhere : (plan : Plan) (client : ℕ) (past : List Entry) → GoesOn plan client past past
goes_nowhere plan client past = record { forward = λ other. omega arith; others = λ other one differs. refl }

pub goes_further : (plan : Plan) (client : ℕ) (before between after : List Entry) → GoesOn plan client before between → GoesOn plan client between after → GoesOn plan client before after
goes_further plan client before between after one two = record {
  forward = λ other. (let h = one.forward other in let more = two.forward other in omega arith);
  others = λ other from differs. two.others other from differs ∙ one.others other from differs;
}

-- the lines that were passed stay so
pub still_passed : (plan : Plan) (client done : ℕ) (before after : List Entry) → GoesOn plan client before after → HavePassed plan done before → HavePassed plan done after
still_passed plan client done before after goes passed = λ other. (let h = passed other in let more = goes.forward other in omega arith)

-- a client's request that was noted leaves the line due, and the propagator waiting
pub noted_due : (plan : Plan) (old new : Machine) (before after : Progress) (line : OwnLine) (asked : Request)
    → 1 ≤ line.client → IsAhead plan old before line → index_of before.standing ≤ line.index → next_at before.commands before.standing ≡ Some asked → IsNoted old new before after line.client asked
    → IsAhead plan new after line
noted_due plan old new before after line asked one ahead here next noted = record {
  due = record {
    runs = turned plan old new line.client (Client asked) noted.reply due.runs (due_next plan old before line asked ahead here next) noted.turn;
    is_course = course;
    done = due.done;
    here = due.here;
    index = due.index;
    passed = still_passed plan line.client due.done old.past new.past goes due.passed;
  };
  waits = λ l at. subst (WaitsFor (Some l.command.line)) (sym (client_rests plan old new line.client asked noted.reply one noted.turn).left) (ahead.waits l at);
}
  where
    due : IsDue plan old before line
    due = ahead.due

    e : Entry
    e = record { actor = line.client; event = Client asked; reply = noted.reply }

    goes : GoesOn plan line.client old.past new.past
    goes = subst (GoesOn plan line.client old.past) (sym noted.turn.entry) (goes_by plan e old.past)

    stands : standing_of plan line.client new.past ≡ standing_after (commands_of plan line.client) plan.retries (standing_of plan line.client old.past) noted.reply
    stands = ap (standing_of plan line.client) noted.turn.entry ∙ standing_own plan line.client e old.past refl

    course : after ≡ progress_of plan line.client new.past
    course = noted.course ∙ (ap (λ (p : Progress). record { commands = p.commands; retries = p.retries; standing = standing_after p.commands p.retries p.standing noted.reply }) due.is_course
        ∙ ap (λ s. record { commands = commands_of plan line.client; retries = plan.retries; standing = s }) (sym stands))

pub noted_goes : (plan : Plan) (old new : Machine) (before after : Progress) (client : ℕ) (asked : Request) → IsNoted old new before after client asked → GoesOn plan client old.past new.past
noted_goes plan old new before after client asked noted = subst (GoesOn plan client old.past) (sym noted.turn.entry) (goes_by plan (record { actor = client; event = Client asked; reply = noted.reply }) old.past)

-- a request that doesn't fit into the journal stops the run
pub stops : (plan : Plan) (machine : Machine) (actor : ℕ) (event : Event) → Runs plan machine → next_turn plan machine.past ≡ Some (record { actor = actor; event = event }) → IsFull machine.opening machine.past actor event → HasStopped plan machine
stops plan machine actor event runs next full = record {
  runs = runs;
  stopped = record {
    due = record { actor = actor; event = event };
    next = next;
    full = subst (λ o. IsFull o machine.past actor event) runs.opening full;
  };
}

-- the first line's client and index, by their place
pub due_at : (plan : Plan) (k : ℕ) (machine : Machine) (courses : List Progress) (line : OwnLine) (course : Progress) → StandsAt plan k machine courses → slice_get (own_lines [] (clients_of plan)) k ≡ Some line → course ≡ progress_of plan line.client machine.past → IsDue plan machine course line
due_at plan k machine courses line course stands is same =
    let at = own_at [] (clients_of plan) k line is in
    record { runs = stands.runs; is_course = same; done = k; here = at.here; index = at.index; passed = stands.passed }

-- a line that is passed brings the machine behind the next place
pub passed_next : (plan : Plan) (k : ℕ) (before after : List Entry) (line : OwnLine) → HavePassed plan k before → GoesOn plan line.client before after → slice_get (own_lines [] (clients_of plan)) k ≡ Some line → line.index < index_of (standing_of plan line.client after) → HavePassed plan (k + 1) after
passed_next plan k before after line passed goes is beyond other =
    let at = own_at [] (clients_of plan) k line is in
    let front : take (k + 1) (clients_of plan) ≡ take k (clients_of plan) ++ line.client ∷ [] = take_next (clients_of plan) k line.client at.here in
    subst (λ clients. times other clients ≤ index_of (standing_of plan other after)) (sym front)
    (by_cases (line.client == other)
    (λ mine.
    let count = times_own other (take k (clients_of plan)) line.client mine in
    let same : line.client ≡ other = eqb-true line.client other mine in
    let index : line.index ≡ times other (take k (clients_of plan)) = at.index ∙ ap (λ n. times n (take k (clients_of plan))) same in
    let more : line.index < index_of (standing_of plan other after) = subst (λ n. line.index < index_of (standing_of plan n after)) same beyond in
    omega arith)
    (λ differs.
    let count = times_other other (take k (clients_of plan)) line.client differs in
    let h = passed other in
    let further = goes.forward other in
    omega arith))

-- behind all lines none is open
pub all_passed : (plan : Plan) (k : ℕ) (past : List Entry) → HavePassed plan k past → length (clients_of plan) ≤ k → open_line plan past ≡ None
all_passed plan k past passed over = none_behind plan.lines (λ client. index_of (standing_of plan client past)) (λ client.
    subst (λ n. n ≤ index_of (standing_of plan client past)) (times_all client plan.lines)
    (subst (λ clients. times client clients ≤ index_of (standing_of plan client past)) (take_whole (clients_of plan) k over) (passed client)))

-- a turn that failed: memory ran out, or the run stops here
pub fails_stop : {A : Type 0} (Reached : A → Type 0) (plan : Plan) (old new : Machine) (actor : ℕ) (event : Event) (fault : CoreFault) → (IsFull old.opening old.past actor event → HasStopped plan old) → Fails old new actor event fault → ComesTo Reached plan new (Err fault)
fails_stop Reached plan old new actor event Memory full fails = tt
fails_stop Reached plan old new actor event Full full fails = subst (HasStopped plan) (sym fails.0) (full fails.1)

pub memory_stops : {A : Type 0} (Reached : A → Type 0) (plan : Plan) (machine : Machine) (fault : CoreFault) → fault ≡ Memory → ComesTo Reached plan machine (Err fault)
memory_stops Reached plan machine fault is = subst (λ f. ComesTo Reached plan machine (Err f)) (sym is) tt

-- a part that failed, within a whole that fails as it did
pub part_stops : {A B : Type 0} (Reached : A → Type 0) (Whole : B → Type 0) (plan : Plan) (machine : Machine) (fault : CoreFault) → ComesTo Reached plan machine (Err fault) → ComesTo Whole plan machine (Err fault)
part_stops Reached Whole plan machine Memory comes = tt
part_stops Reached Whole plan machine Full comes = comes

-- a part that failed, within a whole that hands its fault on
pub hands_on : {A : Type 0} (Reached : A → Type 0) (plan : Plan) (machine : Machine) (result : Result A CoreFault) (fault : CoreFault) → IsErrAnd result (λ e. e ≡ fault) → ComesTo Reached plan machine (Err fault) → ComesTo Reached plan machine result
hands_on Reached plan machine (Ok done) fault is comes = absurd is
hands_on Reached plan machine (Err other) fault is comes = subst (λ f. ComesTo Reached plan machine (Err f)) (sym is) comes

-- the same of a turn
pub turn_fails : {A : Type 0} (Reached : A → Type 0) (plan : Plan) (old new : Machine) (result : Result A CoreFault) (actor : ℕ) (event : Event) (fault : CoreFault) → IsErrAnd result (λ e. e ≡ fault) → (IsFull old.opening old.past actor event → HasStopped plan old) → Fails old new actor event fault → ComesTo Reached plan new result
turn_fails Reached plan old new result actor event fault is full fails = hands_on Reached plan new result fault is (fails_stop Reached plan old new actor event fault full fails)
