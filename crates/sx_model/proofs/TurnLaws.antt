-- The turns of clients: which line is open, how a client's standing goes on, and whose rollback comes next.
use Rattle.std.proofs.Common.{◌≡◌, ◌≤◌, ◌<◌, ◌+◌, ◌==◌, ◌++◌, ℕ, suc, Bool, true, false, List, [], ◌∷◌, length, map, min, Option, Some, None, refl, sym, ap, ◌∙◌, subst, inl, inr, arith, eqb-true, if◌then◌else◌}
use Rattle.std.specs.Prelude.{slice_get, drop, nat_lt}
use Rattle.std.specs.List.{AllByRecursion}
use Rattle.std.proofs.lemmas.Bool.Decides.{nat_tests}
use Rattle.sx_journal.specs.declared.entry.Entry.{Entry}
use Rattle.sx_journal.specs.declared.entry.Event.{Event}
use Rattle.sx_journal.specs.declared.entry.Event.TheVariants as event
use Rattle.sx_journal.specs.declared.entry.Reply.{Reply}
use Rattle.sx_journal.specs.declared.entry.Reply.TheVariants as reply
use Rattle.sx_journal.specs.declared.entry.Request.{Request}
use Rattle.sx_journal.specs.declared.entry.Request.TheVariants.{Undo}
use Rattle.sx_journal.specs.declared.entry.What.{What}
use Rattle.sx_journal.specs.declared.entry.What.TheVariants.{Ask, Abort}
use Rattle.sx_journal.specs.declared.course.Command.{Command}
use Rattle.sx_journal.specs.declared.course.Standing.{Standing}
use Rattle.sx_journal.specs.declared.course.Standing.TheVariants.{AtLine, GaveUp}
use Rattle.sx_journal.specs.Courses.{is_held, is_doomed, is_aborted, ends_abort, passed_over, after_ask, after_what, after_line, standing_after, index_of}
use Rattle.sx_model.specs.Effects.{Effect, Nothing, Reads, Begins, Writes, Undoes, Commits, Aborts, Starts, Sees, Fetches, Checks, Conflicts, Violates, Switches, Cancels, effect}
use Rattle.sx_model.specs.Openings.{Opening}
use Rattle.sx_model.specs.Leaves.{Living, living, living_after, without, txn_among, txn_of, begun, started, phase, phase_after}
use Rattle.sx_model.specs.Clients.{IsLiving}
use Rattle.sx_sync.specs.Ready.{lesser, least}
use Rattle.sx_model.specs.Legal.{Allows, is_committed, HasRoom, Legal}
use Rattle.sx_model.specs.Schedules.{Line, Plan, commands_of, standing_of, client_turn, one_less, first_open, open_line, least_living, turn_at, next_turn, paces_left}
use Rattle.sx_model.proofs.TestLaws.{by_cases}
use Rattle.sx_model.proofs.Outcomes.{Outcome, rests, begins, reads, writes, commits, undoes, aborts, starts, sees, fetches, conflicts, switches, outcome}
use Rattle.sx_model.proofs.LivingLaws.{legal_living}
use Rattle.sx_model.proofs.ScriptLaws.{count_of, none_open, least_among, IsIn}

-- a line behind others: its client has come past those that it has among them, and so have the clients of the others
one_less_enough : (x : Line) (front : List Line) (passed : ℕ → ℕ) → ((client : ℕ) → count_of client (x ∷ front) ≤ passed client) → (client : ℕ) → count_of client front ≤ one_less x.client passed client
one_less_enough x front passed enough client =
    let h = enough client in
    by_cases (x.client == client)
    (λ mine.
    let same : (client == x.client) ≡ true = grind (arith, nat_tests) in
    let more : suc (count_of client front) ≤ passed client = rw mine at h in
    rw same (omega arith))
    (λ other.
    let differs : (client == x.client) ≡ false = grind (arith, nat_tests) in
    let as_many : count_of client front ≤ passed client = rw other at h in
    rw differs as_many)

-- its client has come past that line
some_passed_first : (x : Line) (front : List Line) (passed : ℕ → ℕ) → ((client : ℕ) → count_of client (x ∷ front) ≤ passed client) → (passed x.client == 0) ≡ false
some_passed_first x front passed enough =
    let h = enough x.client in
    let here : (x.client == x.client) ≡ true = grind (arith, nat_tests) in
    let more : suc (count_of x.client front) ≤ passed x.client = rw here at h in
    grind (arith, nat_tests)

-- as many lines as a client has in front are taken off
less_at_least : (x : Line) (front : List Line) (client n : ℕ) (passed : ℕ → ℕ) → passed client ≤ count_of client (x ∷ front) → one_less x.client passed client ≤ count_of client front
less_at_least x front client n passed few =
    by_cases (x.client == client)
    (λ mine.
    let same : (client == x.client) ≡ true = grind (arith, nat_tests) in
    let most : passed client ≤ suc (count_of client front) = rw mine at few in
    rw same (omega arith))
    (λ other.
    let differs : (client == x.client) ≡ false = grind (arith, nat_tests) in
    let most : passed client ≤ count_of client front = rw other at few in
    rw differs most)

-- behind lines that their clients have come past, a line whose client has come past no more is the open one
pub open_behind : (front : List Line) (l : Line) (rest : List Line) (passed : ℕ → ℕ) → ((client : ℕ) → count_of client front ≤ passed client) → passed l.client ≤ count_of l.client front → first_open (front ++ l ∷ rest) passed ≡ Some l
open_behind [] l rest passed enough here = (let none : (passed l.client == 0) ≡ true = grind (arith, nat_tests) in rw none refl)
open_behind (x ∷ front) l rest passed enough here =
    let some = some_passed_first x front passed enough in
    rw some (open_behind front l rest (one_less x.client passed) (one_less_enough x front passed enough) (less_at_least x front l.client 0 passed here))

-- and where the clients have come past all lines none is open
pub none_behind : (lines : List Line) (passed : ℕ → ℕ) → ((client : ℕ) → count_of client lines ≤ passed client) → first_open lines passed ≡ None
none_behind [] passed enough = refl
none_behind (x ∷ lines) passed enough =
    let some = some_passed_first x lines passed enough in
    rw some (none_behind lines (one_less x.client passed) (one_less_enough x lines passed enough))

-- a client's standing never goes back
ask_forward : (retries index held : ℕ) (answer : Reply) → index ≤ index_of (after_ask retries index held answer)
ask_forward retries index held answer = by (is_held answer) (nat_lt held retries) (is_doomed answer)
  where
    by : (kept left doomed : Bool) → index ≤ index_of (if kept then (if left then AtLine index (held + 1) else GaveUp index) else if doomed then GaveUp index else AtLine (index + 1) 0)
    by true true doomed = omega arith
    by true false doomed = omega arith
    by false left true = omega arith
    by false left false = omega arith

abort_forward : (index : ℕ) (ends : Bool) → index ≤ index_of (if ends then AtLine (index + 1) 0 else AtLine index 0)
abort_forward index true = omega arith
abort_forward index false = omega arith

what_forward : (what : What) (retries index held : ℕ) (answer : Reply) → index ≤ index_of (after_what what retries index held answer)
what_forward (Ask asked) retries index held answer = ask_forward retries index held answer
what_forward Abort retries index held answer = abort_forward index (ends_abort answer)

line_forward : (line : Option Command) (retries index held : ℕ) (answer : Reply) → index ≤ index_of (after_line line retries index held answer)
line_forward None retries index held answer = omega arith
line_forward (Some command) retries index held answer = what_forward command.what retries index held answer

undo_forward : (index over : ℕ) (aborted : Bool) → index ≤ index_of (if aborted then AtLine (index + over) 0 else GaveUp index)
undo_forward index over true = omega arith
undo_forward index over false = omega arith

pub answer_forward : (commands : List Command) (retries : ℕ) (standing : Standing) (answer : Reply) → index_of standing ≤ index_of (standing_after commands retries standing answer)
answer_forward commands retries (AtLine index held) answer = line_forward (slice_get commands index) retries index held answer
answer_forward commands retries (GaveUp index) answer = undo_forward index (passed_over (drop index commands)) (is_aborted answer)

-- behind an entry of a client it stands where the answer leaves it
pub standing_own : (plan : Plan) (client : ℕ) (e : Entry) (past : List Entry) → e.actor ≡ client → standing_of plan client (e ∷ past) ≡ standing_after (commands_of plan client) plan.retries (standing_of plan client past) e.reply
standing_own plan client e past is = (let mine : (e.actor == client) ≡ true = grind (arith, nat_tests) in rw mine refl)

-- and behind an entry of another where it stood
pub standing_other : (plan : Plan) (client : ℕ) (e : Entry) (past : List Entry) → (e.actor == client) ≡ false → standing_of plan client (e ∷ past) ≡ standing_of plan client past
standing_other plan client e past other = rw other refl

-- so no entry leads a client back
pub standing_forward : (plan : Plan) (client : ℕ) (e : Entry) (past : List Entry) → index_of (standing_of plan client past) ≤ index_of (standing_of plan client (e ∷ past))
standing_forward plan client e past =
    by_cases (e.actor == client)
    (λ mine. subst (λ (s : Standing). index_of (standing_of plan client past) ≤ index_of s) (sym (standing_own plan client e past (eqb-true e.actor client mine))) (answer_forward (commands_of plan client) plan.retries (standing_of plan client past) e.reply))
    (λ other. subst (λ (s : Standing). index_of (standing_of plan client past) ≤ index_of s) (sym (standing_other plan client e past other)) (omega arith))

-- and lines that are worked through stay so
pub stay_over : (plan : Plan) (e : Entry) (past : List Entry) → open_line plan past ≡ None → open_line plan (e ∷ past) ≡ None
stay_over plan e past over = none_behind plan.lines (λ client. index_of (standing_of plan client (e ∷ past))) (λ client.
    let before = none_open plan.lines (λ other. index_of (standing_of plan other past)) over client in
    let forward = standing_forward plan client e past in
    omega arith)

-- the propagator's lines that are worked through stay so too
pub paces_stay_over : (plan : Plan) (e : Entry) (past : List Entry) → paces_left plan past ≡ [] → paces_left plan (e ∷ past) ≡ []
paces_stay_over plan e past over = by_cases (e.actor == 0) (λ own. rw (own, over) refl) (λ other. rw other over)

-- a client's entry leaves the lines of the propagator
pub paces_kept : (plan : Plan) (e : Entry) (past : List Entry) → 1 ≤ e.actor → paces_left plan (e ∷ past) ≡ paces_left plan past
paces_kept plan e past one = (let other : (e.actor == 0) ≡ false = grind (arith, nat_tests) in rw other refl)

-- each of the living is a client with a transaction
other_first : (x : Living) (xs : List Living) (client : ℕ) → (x.client == client) ≡ false → txn_among (x ∷ xs) client ≡ txn_among xs client
other_first x xs client other = rw other refl

own_first : (x : Living) (xs : List Living) → txn_among (x ∷ xs) x.client ≡ Some x.txn
own_first x xs = (let here : (x.client == x.client) ≡ true = grind (arith, nat_tests) in rw here refl)

-- who isn't among these isn't the first either
pub not_first : (x : Living) (xs : List Living) (client : ℕ) → txn_among (x ∷ xs) client ≡ None → (x.client == client) ≡ false
not_first x xs client none = by_cases (x.client == client) (λ mine. absurd (let found : txn_among (x ∷ xs) client ≡ Some x.txn = rw mine refl in cc)) (λ other. other)

-- leaving one client out leaves the others
without_other : (actor client : ℕ) (xs : List Living) → (actor == client) ≡ false → txn_among (without actor xs) client ≡ txn_among xs client
without_other actor client [] other = refl
without_other actor client (x ∷ xs) other =
    let rest = without_other actor client xs other in
    by_cases (x.client == actor)
    (λ mine. let differs : (x.client == client) ≡ false = grind (arith, nat_tests) in rw mine (rest ∙ sym (other_first x xs client differs)))
    (λ kept. rw kept (ap (λ t. if x.client == client then Some x.txn else t) rest))

begun_other : (actor client txn : ℕ) (xs : List Living) → (actor == client) ≡ false → txn_among (record { client = actor; txn = txn } ∷ xs) client ≡ txn_among xs client
begun_other actor client txn xs other = rw other refl

after_other : (actor client : ℕ) (f : Effect) (xs : List Living) → (actor == client) ≡ false → txn_among (living_after actor f xs) client ≡ txn_among xs client
after_other actor client Nothing xs other = refl
after_other actor client Reads xs other = refl
after_other actor client (Begins txn) xs other = begun_other actor client txn xs other
after_other actor client Writes xs other = refl
after_other actor client Undoes xs other = refl
after_other actor client Commits xs other = without_other actor client xs other
after_other actor client Aborts xs other = without_other actor client xs other
after_other actor client (Starts mark) xs other = refl
after_other actor client (Sees lsns last) xs other = refl
after_other actor client (Fetches place) xs other = refl
after_other actor client Checks xs other = refl
after_other actor client Conflicts xs other = refl
after_other actor client Violates xs other = refl
after_other actor client Switches xs other = refl
after_other actor client Cancels xs other = refl

-- another's entry leaves a client its transaction
pub txn_other : (client : ℕ) (e : Entry) (past : List Entry) → (e.actor == client) ≡ false → txn_of (e ∷ past) client ≡ txn_of past client
txn_other client e past other = after_other e.actor client (effect e.reply) (living past) other

-- the least of the living, where none lives below
lesser_first : (n : ℕ) (rest : Option ℕ) → ((other : ℕ) → rest ≡ Some other → n ≤ other) → lesser n rest ≡ n
lesser_first n None least_one = refl
lesser_first n (Some other) least_one = (let h = least_one other refl in omega arith)

lesser_rest : (n other : ℕ) (rest : Option ℕ) → rest ≡ Some other → other ≤ n → lesser n rest ≡ other
lesser_rest n other rest is h = (let told : lesser n rest ≡ min n other = ap (lesser n) is in omega arith)

not_below : (x : Living) (xs : List Living) (client : ℕ) → ((other : ℕ) → other < client → txn_among (x ∷ xs) other ≡ None) → client ≤ x.client
not_below x xs client below = grind (arith, own_first x xs, below x.client)

-- behind the first of the living: those that live below still do
below_rest : (x : Living) (xs : List Living) (client : ℕ) → ((other : ℕ) → other < client → txn_among (x ∷ xs) other ≡ None) → (other : ℕ) → other < client → txn_among xs other ≡ None
below_rest x xs client below other less =
    let none = below other less in
    sym (other_first x xs other (not_first x xs other none)) ∙ none

-- a client that lives isn't below one under which nobody does
lives_above : (xs : List Living) (client other : ℕ) → ((one : ℕ) → one < client → txn_among xs one ≡ None) → IsIn xs other → client ≤ other
lives_above xs client other below i =
    by_cases (nat_lt other client)
    (λ less. absurd (let none = below other (grind (arith, nat_tests)) in let some = i.is in cc))
    (λ more. grind (arith, nat_tests))

in_first : (x : Living) (xs : List Living) → IsIn (x ∷ xs) x.client
in_first x xs = record { txn = x.txn; is = own_first x xs }

in_rest : (x : Living) (xs : List Living) (client : ℕ) → (x.client == client) ≡ false → IsIn (x ∷ xs) client → IsIn xs client
in_rest x xs client other i = record { txn = i.txn; is = sym (other_first x xs client other) ∙ i.is }

in_later : (x : Living) (xs : List Living) (client : ℕ) → IsIn xs client → IsIn (x ∷ xs) client
in_later x xs client i = by_cases (x.client == client) (λ t. record { txn = x.txn; is = rw t refl }) (λ f. record { txn = i.txn; is = rw f i.is })

in_longer : (x : Living) (xs : List Living) (clients : List ℕ) → AllByRecursion (IsIn xs) clients → AllByRecursion (IsIn (x ∷ xs)) clients
in_longer x xs [] all = tt
in_longer x xs (client ∷ clients) all = (in_later x xs client all.0, in_longer x xs clients all.1)

each_in : (xs : List Living) → AllByRecursion (IsIn xs) (map (λ (l : Living). l.client) xs)
each_in [] = tt
each_in (x ∷ xs) = (in_first x xs, in_longer x xs (map (λ (l : Living). l.client) xs) (each_in xs))

least_at : (xs : List Living) (client : ℕ) → IsIn xs client → ((other : ℕ) → other < client → txn_among xs other ≡ None) → least (map (λ (l : Living). l.client) xs) ≡ Some client
least_at [] client i below = absurd (let some = i.is in cc)
least_at (x ∷ xs) client i below =
    by_cases (x.client == client)
    (λ mine.
    let same : x.client ≡ client = eqb-true x.client client mine in
    ap Some (lesser_first x.client (least (map (λ (l : Living). l.client) xs)) (λ other found.
    let above = lives_above (x ∷ xs) client other below (in_later x xs other (least_among (IsIn xs) (map (λ (l : Living). l.client) xs) other (each_in xs) found)) in
    omega arith) ∙ same))
    (λ other.
    let found = least_at xs client (in_rest x xs client other i) (below_rest x xs client below) in
    ap Some (lesser_rest x.client client (least (map (λ (l : Living). l.client) xs)) found (lives_above (x ∷ xs) client x.client below (in_first x xs))))

-- behind the lines the next turn is an Undo of a client that lives, where none lives below
pub undo_next : (plan : Plan) (past : List Entry) (client txn : ℕ) → open_line plan past ≡ None → paces_left plan past ≡ [] → txn_of past client ≡ Some txn → ((other : ℕ) → other < client → txn_of past other ≡ None) → next_turn plan past ≡ Some (client_turn client Undo)
undo_next plan past client txn over passed lives below =
    let least_one : least_living past ≡ Some client = least_at (living past) client (record { txn = txn; is = lives }) below in
    ap (λ line. turn_at plan past line (paces_left plan past) (least_living past)) over ∙ ap (λ paces. turn_at plan past None paces (least_living past)) passed ∙ ap (turn_at plan past None []) least_one

-- where no client from 1 to 8 has a transaction nobody lives
nobody : (begun : ℕ) (xs : List Living) → AllByRecursion (IsLiving begun) xs → ((client : ℕ) → client < 9 → txn_among xs client ≡ None) → xs ≡ []
nobody begun [] all none = refl
nobody begun (x ∷ xs) all none =
    absurd (let gone = none x.client (let h = all.0.client.to_eight in omega arith) in let here = own_first x xs in cc)

pub nobody_lives : (o : Opening) (past : List Entry) → Legal o past → ((client : ℕ) → client < 9 → txn_of past client ≡ None) → living past ≡ []
nobody_lives o past legal none = nobody (begun past) (living past) (legal_living o past legal).each none

-- a legal journal's entries and live transactions number 50,001 at most
without_fewer : (client : ℕ) (xs : List Living) → length (without client xs) ≤ length xs
without_fewer client [] = omega arith
without_fewer client (x ∷ xs) =
    let rest = without_fewer client xs in
    by_cases (x.client == client) (λ mine. rw mine (omega arith)) (λ kept. rw kept (omega arith))

without_one : (client txn : ℕ) (xs : List Living) → txn_among xs client ≡ Some txn → suc (length (without client xs)) ≤ length xs
without_one client txn [] is = absurd (cc)
without_one client txn (x ∷ xs) is =
    by_cases (x.client == client)
    (λ mine. let rest = without_fewer client xs in rw mine (omega arith))
    (λ kept. let rest = without_one client txn xs (rw kept at is) in rw kept (omega arith))

one_more : (actor : ℕ) (f : Effect) (xs : List Living) → length (living_after actor f xs) ≤ suc (length xs)
one_more actor Nothing xs = omega arith
one_more actor Reads xs = omega arith
one_more actor (Begins txn) xs = omega arith
one_more actor Writes xs = omega arith
one_more actor Undoes xs = omega arith
one_more actor Commits xs = (let h = without_fewer actor xs in omega arith)
one_more actor Aborts xs = (let h = without_fewer actor xs in omega arith)
one_more actor (Starts mark) xs = omega arith
one_more actor (Sees lsns last) xs = omega arith
one_more actor (Fetches place) xs = omega arith
one_more actor Checks xs = omega arith
one_more actor Conflicts xs = omega arith
one_more actor Violates xs = omega arith
one_more actor Switches xs = omega arith
one_more actor Cancels xs = omega arith

commits_told : (answer : Reply) → is_committed answer ≡ true → effect answer ≡ Commits
unfolding effect is_committed
commits_told (reply.Committed lsn) e = refl
commits_told other e = absurd (cc)

-- an entry that is answered Committed has ended a transaction
ends_one : (o : Opening) (past : List Entry) (e : Entry) → effect e.reply ≡ Commits → Outcome o past e → suc (length (living (e ∷ past))) ≤ length (living past)
ends_one o past e is (commits c) = subst (λ f. suc (length (living_after e.actor f (living past))) ≤ length (living past)) (sym c.told) (without_one e.actor c.txn (living past) c.inside)
ends_one o past e is (rests told) = absurd (cc)
ends_one o past e is (begins b) = absurd (let told = b.told in cc)
ends_one o past e is (reads r) = absurd (let told = r.told in cc)
ends_one o past e is (writes w) = absurd (let told = w.told in cc)
ends_one o past e is (undoes u) = absurd (let told = u.told in cc)
ends_one o past e is (aborts a) = absurd (let told = a.told in cc)
ends_one o past e is (starts s) = absurd (let told = s.told in cc)
ends_one o past e is (sees s) = absurd (let told = s.told in cc)
ends_one o past e is (fetches f) = absurd (let told = f.told in cc)
ends_one o past e is (conflicts a told) = absurd (cc)
ends_one o past e is (switches w) = absurd (let told = w.told in cc)

room_left : (o : Opening) (past : List Entry) (e : Entry) → Legal o (e ∷ past) → length past + length (living past) ≤ 50001 → HasRoom past e.reply → length (e ∷ past) + length (living (e ∷ past)) ≤ 50001
room_left o past e legal before (inl room) = (let more = one_more e.actor (effect e.reply) (living past) in omega arith)
room_left o past e legal before (inr committed) = (let fewer = ends_one o past e (commits_told e.reply committed) (outcome o past e legal) in omega arith)

pub legal_bounded : (o : Opening) (past : List Entry) → Legal o past → length past + length (living past) ≤ 50001
legal_bounded o [] legal = omega arith
legal_bounded o (e ∷ past) legal = room_left o past e legal (legal_bounded o past legal.0) legal.1.room

-- the phase behind an entry with this effect
phase_by : (past : List Entry) (e : Entry) (f : Effect) → effect e.reply ≡ f → phase (e ∷ past) ≡ phase_after (started past) f (phase past)
phase_by past e f told = ap (λ g. phase_after (started past) g (phase past)) told

-- a client is an actor from 1 on
from_one : (o : Opening) (past : List Entry) (actor : ℕ) (asked : Event) (answer : Reply) (request : Request) → asked ≡ event.Client request → Allows o past actor asked answer → 1 ≤ actor
unfolding Allows
from_one o past actor (event.Client other) answer request is a = a.from_one
from_one o past actor (event.Start spec strategy) answer request is a = absurd (cc)
from_one o past actor (event.Scan n) answer request is a = absurd (cc)
from_one o past actor event.Switch answer request is a = absurd (cc)
from_one o past actor (event.Fetch n) answer request is a = absurd (cc)
from_one o past actor (event.Check group) answer request is a = absurd (cc)
from_one o past actor event.Cancel answer request is a = absurd (cc)

-- a client's entry leaves the phase
phase_kept : (o : Opening) (past : List Entry) (e : Entry) → 1 ≤ e.actor → Outcome o past e → phase (e ∷ past) ≡ phase past
phase_kept o past e one (rests told) = phase_by past e Nothing told
phase_kept o past e one (begins b) = phase_by past e (Begins (begun past + 1)) b.told
phase_kept o past e one (reads r) = phase_by past e Reads r.told
phase_kept o past e one (writes w) = phase_by past e Writes w.told
phase_kept o past e one (commits c) = phase_by past e Commits c.told
phase_kept o past e one (undoes u) = phase_by past e Undoes u.told
phase_kept o past e one (aborts a) = phase_by past e Aborts a.told
phase_kept o past e one (starts s) = absurd (let own = s.own in omega arith)
phase_kept o past e one (sees s) = absurd (let own = s.own in omega arith)
phase_kept o past e one (fetches f) = absurd (let own = f.own in omega arith)
phase_kept o past e one (conflicts a told) = absurd (let own = a.own in omega arith)
phase_kept o past e one (switches w) = absurd (let own = w.attempt.own in omega arith)

pub client_keeps_phase : (o : Opening) (past : List Entry) (e : Entry) (request : Request) → Legal o (e ∷ past) → e.event ≡ event.Client request → phase (e ∷ past) ≡ phase past
client_keeps_phase o past e request legal is = phase_kept o past e (from_one o past e.actor e.event e.reply request is legal.1.allowed) (outcome o past e legal)

-- client 0 never lives
none_outside : (begun : ℕ) (xs : List Living) (client : ℕ) → AllByRecursion (IsLiving begun) xs → client < 1 → txn_among xs client ≡ None
none_outside begun [] client all none = refl
none_outside begun (x ∷ xs) client all none =
    let other : (x.client == client) ≡ false = (let h = all.0.client.from_one in grind (arith, nat_tests)) in
    other_first x xs client other ∙ none_outside begun xs client all.1 none

pub no_client_lives : (o : Opening) (past : List Entry) (client : ℕ) → Legal o past → client < 1 → txn_of past client ≡ None
no_client_lives o past client legal none = none_outside (begun past) (living past) client (legal_living o past legal).each none
