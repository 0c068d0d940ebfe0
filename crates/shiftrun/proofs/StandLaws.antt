-- The clients' courses beside the machine, line by line.
use Rattle.std.proofs.Common.{◌≡◌, ◌≢◌, ◌≤◌, ◌<◌, ◌+◌, ◌-◌, ◌==◌, ◌++◌, ℕ, zero, suc, true, false, List, [], ◌∷◌, length, get_or, reverse, Some, None, refl, sym, ap, ◌∙◌, subst, arith, eqb-true}
use Rattle.std.specs.Prelude.{slice_get, take, filter}
use Rattle.std.specs.List.{AllByRecursion}
use Rattle.std.proofs.Math.ListN.{set}
use Rattle.std.proofs.lemmas.Bool.Decides.{nat_tests}
use Rattle.std.proofs.lemmas.List.{length-map, length-reverse, length-set, get_or-set_same, get_or-set_other, reverse-append}
use Rattle.std.proofs.lemmas.Option.{slice_get_within, slice_get-get_or, get_or_from_slice_get}
use Rattle.sx_journal.specs.declared.entry.Entry.{Entry}
use Rattle.sx_journal.specs.declared.entry.Event.{Event}
use Rattle.sx_journal.specs.declared.entry.Event.TheVariants.{Client}
use Rattle.sx_journal.specs.declared.entry.Request.{Request}
use Rattle.sx_journal.specs.declared.entry.Reply.{Reply}
use Rattle.sx_journal.specs.declared.course.Standing.{Standing}
use Rattle.sx_journal.specs.declared.course.Command.{Command}
use Rattle.sx_journal.specs.Courses.{Progress, standing_after, index_of}
use Rattle.sx_model.specs.Legal.{Legal}
use Rattle.sx_model.specs.Schedules.{Plan, Line, opening_of, commands_of, open_line}
use Rattle.sx_model.proofs.TestLaws.{by_cases}
use Rattle.sx_model.proofs.ScriptLaws.{count_of}
use Rattle.sx_model.proofs.TurnLaws.{legal_bounded}
use Rattle.sx_script.specs.Sound.{IsClients}
use Rattle.sx_core.specs.Machines.{Machine, Turns}
use Rattle.shiftrun.specs.declared.lines.OwnLine.{OwnLine}
use Rattle.shiftrun.specs.Lines.{progress_of, clients_of, times, own_lines, AreCourses, StandsAt, IsDue, IsPassed, IsNoted}
use Rattle.shiftrun.proofs.PlaceLaws.{times_within, times_all, own_at, own_lines_length, line_at, all_at}
use Rattle.shiftrun.proofs.LineLaws.{due_at, passed_next, all_passed}

-- items in front, and one behind them
front_item : {T : Type 0} (xs : List T) (x : T) (k : ℕ) → k < length xs → slice_get (xs ++ x ∷ []) k ≡ slice_get xs k
front_item [] x k within = absurd (omega arith)
front_item (y ∷ ys) x zero within = refl
front_item (y ∷ ys) x (suc k) within = front_item ys x k (omega arith)

last_item : {T : Type 0} (xs : List T) (x : T) (k : ℕ) → k ≡ length xs → slice_get (xs ++ x ∷ []) k ≡ Some x
last_item [] x zero is = refl
last_item [] x (suc k) is = absurd (omega arith)
last_item (y ∷ ys) x zero is = absurd (omega arith)
last_item (y ∷ ys) x (suc k) is = last_item ys x k (omega arith)

longer : {T : Type 0} (xs : List T) (x : T) → length (xs ++ x ∷ []) ≡ suc (length xs)
longer [] x = refl
longer (y ∷ ys) x = ap suc (longer ys x)

-- the last of a journal, seen from the oldest entry on, is its newest
pub newest_last : {T : Type 0} (xs : List T) (x : T) (items : List T) (d : T) → items ≡ reverse (x ∷ xs) → get_or items (length items - 1) d ≡ x
newest_last xs x items d is =
    let shown : items ≡ reverse xs ++ x ∷ [] = is ∙ reverse-append (x ∷ []) xs in
    let long : length items ≡ length (reverse xs ++ x ∷ []) = ap length shown in
    get_or_from_slice_get items (length items - 1) x d (ap (λ ys. slice_get ys (length items - 1)) shown ∙ last_item (reverse xs) x (length items - 1) (by long (longer (reverse xs) x)))
  where
    by : length items ≡ length (reverse xs ++ x ∷ []) → length (reverse xs ++ x ∷ []) ≡ suc (length (reverse xs)) → length items - 1 ≡ length (reverse xs)
    by e f = omega arith

-- one more course, of the next client
abbrev pub HaveCourses : (ℕ → Progress) → ℕ → List Progress → Type 0
HaveCourses of_client client courses = (other : ℕ) → 1 ≤ other → other < client → slice_get courses (other - 1) ≡ Some (of_client other)

pub courses_more : (of_client : ℕ → Progress) (client : ℕ) (courses : List Progress) (course : Progress) → length courses + 1 ≡ client → HaveCourses of_client client courses → course ≡ of_client client → HaveCourses of_client (client + 1) (courses ++ course ∷ [])
courses_more of_client client courses course count have is other from below =
    by_cases (other == client)
    (λ mine.
    let same : other ≡ client = eqb-true other client mine in
    last_item courses course (other - 1) (omega arith) ∙ ap Some (is ∙ ap of_client (sym same)))
    (λ differs.
    let less : other < client = grind (arith, nat_tests) in
    front_item courses course (other - 1) (omega arith) ∙ have other from less)

-- a course in the place of another
set_same : {T : Type 0} (xs : List T) (k : ℕ) (x y : T) → slice_get xs k ≡ Some y → slice_get (set xs k x) k ≡ Some x
set_same xs k x y is =
    let within = slice_get_within xs k y is in
    let still : k < length (set xs k x) = omega (arith, length-set xs k x) in
    slice_get-get_or (set xs k x) k x still ∙ ap Some (get_or-set_same xs k x x within)

set_other : {T : Type 0} (xs : List T) (k j : ℕ) (x y : T) → (j ≢ k) → slice_get xs j ≡ Some y → slice_get (set xs k x) j ≡ Some y
set_other xs k j x y differs is =
    let within = slice_get_within xs j y is in
    let still : j < length (set xs k x) = omega (arith, length-set xs k x) in
    slice_get-get_or (set xs k x) j y still ∙ (ap Some (get_or-set_other xs k j x y differs) ∙ ap Some (get_or_from_slice_get xs j y y is))

-- a line that was passed brings the machine and the courses behind it
pub stands_next : (plan : Plan) (k : ℕ) (old new : Machine) (courses : List Progress) (line : OwnLine) (course : Progress)
    → StandsAt plan k old courses → slice_get (own_lines [] (clients_of plan)) k ≡ Some line → 1 ≤ line.client → line.client ≤ 8 → IsPassed plan old.past new course line
    → StandsAt plan (k + 1) new (set courses (line.client - 1) course)
stands_next plan k old new courses line course stands here from to passed = record {
  runs = passed.runs;
  passed = passed_next plan k old.past new.past line stands.passed passed.goes_on here (subst (λ (p : Progress). line.index < index_of p.standing) passed.is_course passed.passed);
  are_courses = λ client one eight. by_cases (line.client == client)
      (λ mine.
      let same : line.client ≡ client = eqb-true line.client client mine in
      subst (λ n. slice_get (set courses (line.client - 1) course) (n - 1) ≡ Some (progress_of plan n new.past)) same
      (set_same courses (line.client - 1) course (progress_of plan line.client old.past) (stands.are_courses line.client from to) ∙ ap Some passed.is_course))
      (λ differs.
      let other : (client == line.client) ≡ false = grind (arith, nat_tests) in
      let apart : client - 1 ≢ line.client - 1 = λ e. absurd (places_differ line.client client from one differs e) in
      set_other courses (line.client - 1) (client - 1) course (progress_of plan client old.past) apart (stands.are_courses client one eight)
      ∙ ap (λ s. Some (record { commands = commands_of plan client; retries = plan.retries; standing = s })) (sym (passed.goes_on.others client one other)));
}
  where
    places_differ : (a b : ℕ) → 1 ≤ a → 1 ≤ b → (a == b) ≡ false → b - 1 ≡ a - 1 → ⊥
    places_differ a b p q e f = let same : a ≡ b = omega arith in (let test : (a == b) ≡ true = grind (arith, nat_tests) in cc)

-- before the first line
no_times : (client : ℕ) (clients : List ℕ) → times client (take 0 clients) ≡ 0
no_times client [] = refl
no_times client (x ∷ clients) = refl

pub stands_first : (plan : Plan) (machine : Machine) (courses : List Progress) → machine ≡ record { opening = opening_of plan; past = [] } → AreCourses plan [] courses → StandsAt plan 0 machine courses
stands_first plan machine courses is are = subst (λ (m : Machine). StandsAt plan 0 m courses) (sym is) (record {
  runs = record { opening = refl; legal = tt; stepped = tt };
  passed = λ client. (let none = no_times client (clients_of plan) in omega arith);
  are_courses = are;
})

-- behind the last one
pub stands_last : (plan : Plan) (k : ℕ) (machine : Machine) (courses : List Progress) → StandsAt plan k machine courses → length (own_lines [] (clients_of plan)) ≤ k → open_line plan machine.past ≡ None
stands_last plan k machine courses stands over = all_passed plan k machine.past stands.passed (let long = own_lines_length [] (clients_of plan) in omega arith)

-- a client's place lies within its lines
pub line_within : (plan : Plan) (k : ℕ) (line : OwnLine) → slice_get (own_lines [] (clients_of plan)) k ≡ Some line → line.index < length (commands_of plan line.client)
line_within plan k line here =
    let at = own_at [] (clients_of plan) k line here in
    let within = times_within line.client (clients_of plan) k at.here in
    let index = at.index in
    let all = times_all line.client plan.lines in
    let count : length (commands_of plan line.client) ≡ count_of line.client plan.lines = length-map (filter (λ (l : Line). l.client == line.client) plan.lines) (λ (l : Line). l.command) in
    omega arith

-- the line at a place
pub line_here : (plan : Plan) (items : List OwnLine) (k : ℕ) (d : OwnLine) → items ≡ own_lines [] (clients_of plan) → k < length items → slice_get (own_lines [] (clients_of plan)) k ≡ Some (get_or items k d)
line_here plan items k d is within = subst (λ lines. slice_get lines k ≡ Some (get_or items k d)) is (slice_get-get_or items k d within)

-- its client is one from 1 to 8
pub line_client : (plan : Plan) (k : ℕ) (line : OwnLine) → AllByRecursion IsClients plan.lines → slice_get (own_lines [] (clients_of plan)) k ≡ Some line → (1 ≤ line.client) × (line.client ≤ 8)
line_client plan k line all here =
    let at = own_at [] (clients_of plan) k line here in
    let there = line_at plan.lines k line.client at.here in
    let is = all_at IsClients plan.lines k there.line all there.here in
    (subst (λ n. 1 ≤ n) there.of_client is.from_one, subst (λ n. n ≤ 8) there.of_client is.to_eight)

-- the course of a client
pub has_course : (plan : Plan) (k client : ℕ) (machine : Machine) (courses : List Progress) → StandsAt plan k machine courses → 1 ≤ client → client ≤ 8 → client - 1 < length courses
has_course plan k client machine courses stands from to = slice_get_within courses (client - 1) (progress_of plan client machine.past) (stands.are_courses client from to)

pub course_there : (plan : Plan) (k client : ℕ) (machine : Machine) (courses : List Progress) (course : Progress) → StandsAt plan k machine courses → 1 ≤ client → client ≤ 8 → course ≡ get_or courses (client - 1) course → course ≡ progress_of plan client machine.past
course_there plan k client machine courses course stands from to is = is ∙ get_or_from_slice_get courses (client - 1) (progress_of plan client machine.past) course (stands.are_courses client from to)

-- the line at a place with its client's course
pub record IsNow (plan : Plan) (k : ℕ) (machine : Machine) (course : Progress) (line : OwnLine) : Type 0 where
  pub here : slice_get (own_lines [] (clients_of plan)) k ≡ Some line
  pub from_one : 1 ≤ line.client
  pub to_eight : line.client ≤ 8
  pub within : line.index < length course.commands
  pub due : IsDue plan machine course line

pub line_now : (plan : Plan) (k : ℕ) (machine : Machine) (courses : List Progress) (items : List OwnLine) (d : OwnLine) (course : Progress) → StandsAt plan k machine courses → AllByRecursion IsClients plan.lines → items ≡ own_lines [] (clients_of plan) → k < length items
    → course ≡ get_or courses ((get_or items k d).client - 1) course → IsNow plan k machine course (get_or items k d)
line_now plan k machine courses items d course stands clients is within at =
    let line = get_or items k d in
    let here = line_here plan items k d is within in
    let one = line_client plan k (get_or items k d) clients here in
    let same = course_there plan k (get_or items k d).client machine courses course stands one.0 one.1 at in
    let long : length course.commands ≡ length (commands_of plan (get_or items k d).client) = ap (λ (p : Progress). length p.commands) same in
    record {
      here = here;
      from_one = one.0;
      to_eight = one.1;
      within = omega (arith, long, line_within plan k (get_or items k d) here);
      due = due_at plan k machine courses (get_or items k d) course stands here same;
    }

-- a course, by its parts
progress_is : (p : Progress) (commands : List Command) (retries : ℕ) (standing : Standing) → p.commands ≡ commands → p.retries ≡ retries → p.standing ≡ standing → p ≡ record { commands = commands; retries = retries; standing = standing }
progress_is p commands retries standing a b c =
    ap (λ x. record { commands = x; retries = p.retries; standing = p.standing }) a
    ∙ (ap (λ x. record { commands = commands; retries = x; standing = p.standing }) b
    ∙ ap (λ x. record { commands = commands; retries = retries; standing = x }) c)

-- the answer of a client's request, which its course noted
pub noted : (old new : Machine) (before after : Progress) (client : ℕ) (asked : Request) (reply : Reply) (e : Entry)
    → Turns old new client (Client asked) reply → e ≡ record { actor = client; event = Client asked; reply = reply }
    → after.commands ≡ before.commands → after.retries ≡ before.retries → after.standing ≡ standing_after before.commands before.retries before.standing e.reply
    → IsNoted old new before after client asked
noted old new before after client asked reply e turn is commands retries standing = record {
  reply = reply;
  turn = turn;
  course = progress_is after before.commands before.retries (standing_after before.commands before.retries before.standing reply) commands retries
      (standing ∙ ap (λ (x : Entry). standing_after before.commands before.retries before.standing x.reply) is);
}

-- the newest entry of a machine's journal, seen from the oldest on
pub newest_entry : (old new : Machine) (client : ℕ) (asked : Request) (reply : Reply) (newest items : List Entry) (d : Entry) → Turns old new client (Client asked) reply → newest ≡ new.past → items ≡ reverse newest → get_or items (length items - 1) d ≡ record { actor = client; event = Client asked; reply = reply }
newest_entry old new client asked reply newest items d turn is shown = newest_last old.past (record { actor = client; event = Client asked; reply = reply }) items d (shown ∙ ap reverse (is ∙ turn.entry))

-- and there is one
pub some_entry : (old new : Machine) (client : ℕ) (asked : Request) (reply : Reply) (newest items : List Entry) → Turns old new client (Client asked) reply → newest ≡ new.past → items ≡ reverse newest → items ≡ [] → ⊥
some_entry old new client asked reply newest items turn is shown none =
    let e : Entry = record { actor = client; event = Client asked; reply = reply } in
    let long : length items ≡ suc (length old.past) = ap length (shown ∙ ap reverse (is ∙ turn.entry)) ∙ length-reverse (e ∷ old.past) in
    let empty : length items ≡ 0 = ap length none in
    absurd (omega arith)

-- a machine's journal is bounded, and a turn makes it longer
pub shorter_rest : (old new : Machine) (actor : ℕ) (event : Event) (reply : Reply) → Legal old.opening old.past → Turns old new actor event reply → 60000 - length new.past < 60000 - length old.past
shorter_rest old new actor event reply legal turn =
    let bound = legal_bounded old.opening old.past legal in
    let longer : length new.past ≡ suc (length old.past) = ap length turn.entry in
    omega arith
