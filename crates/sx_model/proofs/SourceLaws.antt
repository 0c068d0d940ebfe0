-- Locks on the sources: a lock on a key of a table shows in its client's entries, and behind a switch under blocking commit nobody has one on a source.
use Rattle.std.proofs.Common.{◌≡◌, ◌≤◌, ◌+◌, ◌==◌, ◌&&◌, ◌||◌, ◌⊎◌, inl, inr, ◌∷◌, [], ℕ, List, length, map, Bool, true, false, Option, Some, None, refl, sym, ap, ◌∙◌, subst, arith, if◌then◌else◌}
use Rattle.std.specs.Prelude.{filter}
use Rattle.std.proofs.lemmas.Bool.{eqb-true, false≢true}
use Rattle.std.proofs.lemmas.Bool.Decides.{nat_tests}
use Rattle.sx_values.specs.declared.value.Value.{Value}
use Rattle.sx_values.specs.declared.catalog.Declared.{Declared}
use Rattle.sx_values.specs.Names.{same_name, has_name}
use Rattle.sx_values.specs.Values.{values_eq}
use Rattle.sx_values.proofs.KeyLaws.{same_name_tells}
use Rattle.sx_log.specs.State.{is_place}
use Rattle.sx_locks.specs.declared.mode.Mode.{Mode}
use Rattle.sx_locks.specs.declared.mode.Mode.TheVariants.{Shared, Exclusive}
use Rattle.sx_locks.specs.Modes.{stronger}
use Rattle.sx_sync.specs.Ready.{least, is_blocking}
use Rattle.sx_sync.specs.declared.Strategy.TheVariants.{Blocking}
use Rattle.sx_sync.specs.declared.Phase.TheVariants.{Chasing, Draining, Done}
use Rattle.sx_ops.specs.Operators.{sources_of, targets_of}
use Rattle.sx_journal.specs.declared.entry.Entry.{Entry}
use Rattle.sx_journal.specs.declared.entry.Event.{Event}
use Rattle.sx_journal.specs.declared.entry.Event.TheVariants as event
use Rattle.sx_journal.specs.declared.entry.Request.{Request}
use Rattle.sx_journal.specs.declared.entry.Request.TheVariants as request
use Rattle.sx_model.specs.Effects.{Effect, Nothing, Reads, Begins, Writes, Undoes, Commits, Aborts, Starts, Sees, Fetches, Checks, Conflicts, Violates, Switches, Cancels, effect}
use Rattle.sx_model.specs.Openings.{Opening, key_in}
use Rattle.sx_model.specs.Known.{known}
use Rattle.sx_model.specs.Leaves.{Living, living, living_after, txn_among, txn_of, begun, begun_after, drains, Started, started, phase}
use Rattle.sx_model.specs.Held.{asks_for_key, is_for_key, lock_after, is_txn, lock_of}
use Rattle.sx_model.specs.Closed.{if_gone, closed_in, closed_by, closed}
use Rattle.sx_model.specs.Switches.{takes_lock, begins as begins_one, request_names, event_names, has_lock_on, conflicts as hinders, conflict, position}
use Rattle.sx_model.specs.Logs.{log_of, next_lsn}
use Rattle.sx_model.specs.Legal.{Legal}
use Rattle.sx_model.proofs.TestLaws.{by_cases, chosen, passed, and_first, and_second, or_rest}
use Rattle.sx_model.proofs.Outcomes.{Outcome, rests, begins, reads, writes, commits, undoes, aborts, starts, sees, fetches, conflicts, switches, Switching, outcome}
use Rattle.sx_model.proofs.EntryLaws.{living_by}
use Rattle.sx_model.proofs.LivingLaws.{legal_living, txn_begun}
use Rattle.sx_model.proofs.StateLaws.{values_eq-refl}
use Rattle.sx_model.proofs.LivesLaws.{one_client, without_own}
use Rattle.sx_model.proofs.LegalLaws.{Progress, before, under_way, legal_progress}
use Rattle.sx_model.proofs.TurnLaws.{txn_other}
use Rattle.sx_model.proofs.FitLaws.{done_stays, is_done, phase_by, started_is}

-- ** a lock shows in the entries of its client **

-- what is asked of a key is asked of its table
place_named : (written : List ℕ) (at : List Value) (table : List ℕ) (key : List Value) (tables : List (List ℕ)) → is_place written at table key ≡ true → has_name tables table ≡ true → has_name tables written ≡ true
place_named written at table key tables here among = subst (λ n. has_name tables n ≡ true) (sym (same_name_tells written table (and_first (same_name written table) (values_eq at key) here))) among

request_named : (catalog : List Declared) (asked : Request) (table : List ℕ) (key : List Value) (tables : List (List ℕ)) → asks_for_key catalog asked table key ≡ true → has_name tables table ≡ true → request_names tables asked ≡ true
unfolding asks_for_key request_names
request_named catalog (request.Read named at) table key tables here among = place_named named at table key tables here among
request_named catalog (request.Insert named row) table key tables here among = place_named named (key_in catalog named row) table key tables here among
request_named catalog (request.Update named row) table key tables here among = place_named named (key_in catalog named row) table key tables here among
request_named catalog (request.Delete named at) table key tables here among = place_named named at table key tables here among
request_named catalog request.Begin table key tables here among = absurd (cc)
request_named catalog request.Commit table key tables here among = absurd (cc)
request_named catalog request.Undo table key tables here among = absurd (cc)

event_named : (catalog : List Declared) (asked : Event) (table : List ℕ) (key : List Value) (tables : List (List ℕ)) → is_for_key catalog asked table key ≡ true → has_name tables table ≡ true → event_names tables asked ≡ true
unfolding is_for_key event_names
event_named catalog (event.Client asked) table key tables here among = request_named catalog asked table key tables here among
event_named catalog (event.Start spec strategy) table key tables here among = absurd (cc)
event_named catalog (event.Scan n) table key tables here among = absurd (cc)
event_named catalog (event.Fetch n) table key tables here among = absurd (cc)
event_named catalog (event.Check group) table key tables here among = absurd (cc)
event_named catalog event.Switch table key tables here among = absurd (cc)
event_named catalog event.Cancel table key tables here among = absurd (cc)

-- the lock behind an entry with this effect was there, or the entry asks for the key
data Locked (catalog : List Declared) (asked : Event) (f : Effect) (table : List ℕ) (key : List Value) (held : Option Mode) : Type 0 where
  was : (mode : Mode) → held ≡ Some mode → Locked catalog asked f table key held
  taken : takes_lock f ≡ true → is_for_key catalog asked table key ≡ true → Locked catalog asked f table key held

locked_by : (catalog : List Declared) (asked : Event) (f : Effect) (table : List ℕ) (key : List Value) (held : Option Mode) (mode : Mode) → lock_after catalog asked f table key held ≡ Some mode → Locked catalog asked f table key held
locked_by catalog asked Writes table key held mode e = by_cases (is_for_key catalog asked table key) (λ here. taken refl here) (λ away. was mode (sym (passed (is_for_key catalog asked table key) (Some Exclusive) held away) ∙ e))
locked_by catalog asked Reads table key held mode e = by_cases (is_for_key catalog asked table key) (λ here. taken refl here) (λ away. was mode (sym (passed (is_for_key catalog asked table key) (Some (stronger held Shared)) held away) ∙ e))
locked_by catalog asked Commits table key held mode e = absurd (cc)
locked_by catalog asked Aborts table key held mode e = absurd (cc)
locked_by catalog asked Nothing table key held mode e = was mode e
locked_by catalog asked (Begins txn) table key held mode e = was mode e
locked_by catalog asked Undoes table key held mode e = was mode e
locked_by catalog asked (Starts mark) table key held mode e = was mode e
locked_by catalog asked (Sees lsns last) table key held mode e = was mode e
locked_by catalog asked (Fetches place) table key held mode e = was mode e
locked_by catalog asked Checks table key held mode e = was mode e
locked_by catalog asked Conflicts table key held mode e = was mode e
locked_by catalog asked Violates table key held mode e = was mode e
locked_by catalog asked Switches table key held mode e = was mode e
locked_by catalog asked Cancels table key held mode e = was mode e

-- only a transaction that has begun has a lock
lock_begun : (o : Opening) (past : List Entry) (txn : ℕ) (table : List ℕ) (key : List Value) (mode : Mode) → Legal o past → lock_of o past txn table key ≡ Some mode → txn ≤ begun past
lock_begun o [] txn table key mode legal e = absurd (cc)
lock_begun o (x ∷ past) txn table key mode legal e = by_cases (is_txn txn (txn_of past x.actor))
    (λ own. fewer (own_begun (txn_of past x.actor) refl own))
    (λ other. fewer (lock_begun o past txn table key mode legal.0 (sym (passed (is_txn txn (txn_of past x.actor)) (lock_after (known o past) x.event (effect x.reply) table key (lock_of o past txn table key)) (lock_of o past txn table key) other) ∙ e)))
  where
    own_begun : (is : Option ℕ) → txn_of past x.actor ≡ is → is_txn txn is ≡ true → txn ≤ begun past
    own_begun None is own = absurd (cc)
    own_begun (Some other) is own =
        let number = txn_begun (begun past) (living past) x.actor other (legal_living o past legal.0).each is in
        let same = eqb-true txn other own in
        let most = number.to_begun in
        omega arith

    more : (f : Effect) → begun past ≤ begun_after f (begun past)
    more Nothing = omega arith
    more Reads = omega arith
    more (Begins t) = omega arith
    more Writes = omega arith
    more Undoes = omega arith
    more Commits = omega arith
    more Aborts = omega arith
    more (Starts mark) = omega arith
    more (Sees lsns last) = omega arith
    more (Fetches place) = omega arith
    more Checks = omega arith
    more Conflicts = omega arith
    more Violates = omega arith
    more Switches = omega arith
    more Cancels = omega arith

    fewer : txn ≤ begun past → txn ≤ begun (x ∷ past)
    fewer within = (let h = more (effect x.reply) in omega arith)

-- a client that goes on is in the transaction that it was in
goes_on : (client txn : ℕ) (f : Effect) (xs : List Living) → txn_among (living_after client f xs) client ≡ Some txn → (begins_one f ≡ true) ⊎ (txn_among xs client ≡ Some txn)
goes_on client txn Nothing xs e = inr e
goes_on client txn Reads xs e = inr e
goes_on client txn (Begins t) xs e = inl refl
goes_on client txn Writes xs e = inr e
goes_on client txn Undoes xs e = inr e
goes_on client txn Commits xs e = absurd (let gone = without_own client xs in cc)
goes_on client txn Aborts xs e = absurd (let gone = without_own client xs in cc)
goes_on client txn (Starts mark) xs e = inr e
goes_on client txn (Sees lsns last) xs e = inr e
goes_on client txn (Fetches place) xs e = inr e
goes_on client txn Checks xs e = inr e
goes_on client txn Conflicts xs e = inr e
goes_on client txn Violates xs e = inr e
goes_on client txn Switches xs e = inr e
goes_on client txn Cancels xs e = inr e

-- a transaction that begins is a new one
begins_new : (o : Opening) (past : List Entry) (e : Entry) (txn : ℕ) → begins_one (effect e.reply) ≡ true → txn_of (e ∷ past) e.actor ≡ Some txn → Outcome o past e → (txn ≡ begun past + 1) × (txn_of past e.actor ≡ None)
begins_new o past e txn b is (begins t) =
    let first : txn_of (e ∷ past) e.actor ≡ Some (begun past + 1) =
    ap (λ xs. txn_among xs e.actor) (living_by past e (Begins (begun past + 1)) t.told) ∙ chosen (e.actor == e.actor) (Some (begun past + 1)) (txn_among (living past) e.actor) (grind (arith, nat_tests)) in
    (let same : Some txn ≡ Some (begun past + 1) = sym is ∙ first in cc, t.outside)
begins_new o past e txn b is (rests told) = absurd (cc)
begins_new o past e txn b is (reads r) = absurd (let told = r.told in cc)
begins_new o past e txn b is (writes w) = absurd (let told = w.told in cc)
begins_new o past e txn b is (commits c) = absurd (let told = c.told in cc)
begins_new o past e txn b is (undoes u) = absurd (let told = u.told in cc)
begins_new o past e txn b is (aborts a) = absurd (let told = a.told in cc)
begins_new o past e txn b is (starts s) = absurd (let told = s.told in cc)
begins_new o past e txn b is (sees s) = absurd (let told = s.told in cc)
begins_new o past e txn b is (fetches f) = absurd (let told = f.told in cc)
begins_new o past e txn b is (conflicts a told) = absurd (cc)
begins_new o past e txn b is (switches w) = absurd (let told = w.told in cc)

-- what a client's entries so far say of the tables, behind one more entry
own_lock : (tables : List (List ℕ)) (past : List Entry) (e : Entry) (client : ℕ) → e.actor ≡ client → begins_one (effect e.reply) ≡ false → has_lock_on tables client (e ∷ past) ≡ ((takes_lock (effect e.reply) && event_names tables e.event) || has_lock_on tables client past)
own_lock tables past e client is b = (let mine : (e.actor == client) ≡ true = grind (arith, nat_tests) in rw (mine, b) refl)

begun_lock : (tables : List (List ℕ)) (past : List Entry) (e : Entry) (client : ℕ) → e.actor ≡ client → begins_one (effect e.reply) ≡ true → has_lock_on tables client (e ∷ past) ≡ false
begun_lock tables past e client is b = (let mine : (e.actor == client) ≡ true = grind (arith, nat_tests) in rw (mine, b) refl)

other_lock : (tables : List (List ℕ)) (past : List Entry) (e : Entry) (client : ℕ) → (e.actor == client) ≡ false → has_lock_on tables client (e ∷ past) ≡ has_lock_on tables client past
other_lock tables past e client away = rw away refl

or_true : (a b : Bool) → b ≡ true → (a || b) ≡ true
or_true true b e = refl
or_true false b e = e

-- an entry of another client leaves the lock and the transaction
kept_lock : (o : Opening) (past : List Entry) (e : Entry) (txn : ℕ) (table : List ℕ) (key : List Value) (mode : Mode) → lock_of o (e ∷ past) txn table key ≡ Some mode → is_txn txn (txn_of past e.actor) ≡ false → lock_of o past txn table key ≡ Some mode
kept_lock o past e txn table key mode lock other = sym (passed (is_txn txn (txn_of past e.actor)) (lock_after (known o past) e.event (effect e.reply) table key (lock_of o past txn table key)) (lock_of o past txn table key) other) ∙ lock

foreign : (o : Opening) (past : List Entry) (actor client txn : ℕ) (is : Option ℕ) → Legal o past → (actor == client) ≡ false → txn_of past actor ≡ is → txn_of past client ≡ Some txn → is_txn txn is ≡ false
foreign o past actor client txn None legal away is prior = refl
foreign o past actor client txn (Some t) legal away is prior = by_cases (txn == t)
    (λ same. absurd (let one = one_client (living past) actor client txn (legal_living o past legal).txns (is ∙ ap Some (sym (eqb-true txn t same))) prior in let off : (actor == client) ≡ true = grind (arith, nat_tests) in cc))
    (λ differs. differs)

shown : (o : Opening) (past : List Entry) (tables : List (List ℕ)) (e : Entry) (client : ℕ) (table : List ℕ) (key : List Value) (held : Option Mode) → has_name tables table ≡ true → ((mode : Mode) → held ≡ Some mode → has_lock_on tables client past ≡ true) → Locked (known o past) e.event (effect e.reply) table key held → ((takes_lock (effect e.reply) && event_names tables e.event) || has_lock_on tables client past) ≡ true
shown o past tables e client table key held among earlier (was m is) = or_true (takes_lock (effect e.reply) && event_names tables e.event) (has_lock_on tables client past) (earlier m is)
shown o past tables e client table key held among earlier (taken takes asks) = rw (takes, event_named (known o past) e.event table key tables asks among) refl

-- an entry of the client itself
mine_shows : (o : Opening) (past : List Entry) (tables : List (List ℕ)) (e : Entry) (txn : ℕ) (table : List ℕ) (key : List Value) (mode : Mode) → Legal o (e ∷ past) → txn_of (e ∷ past) e.actor ≡ Some txn → has_name tables table ≡ true → lock_of o (e ∷ past) txn table key ≡ Some mode
    → (txn_of past e.actor ≡ Some txn → (m : Mode) → lock_of o past txn table key ≡ Some m → has_lock_on tables e.actor past ≡ true) → (begins_one (effect e.reply) ≡ true) ⊎ (txn_among (living past) e.actor ≡ Some txn) → has_lock_on tables e.actor (e ∷ past) ≡ true
mine_shows o past tables e txn table key mode legal here among lock earlier (inl began) =
    let new = begins_new o past e txn began here (outcome o past e legal) in
    let none : is_txn txn (txn_of past e.actor) ≡ false = ap (is_txn txn) new.1 in
    let most = lock_begun o past txn table key mode legal.0 (kept_lock o past e txn table key mode lock none) in
    absurd (let number = new.0 in omega arith)
mine_shows o past tables e txn table key mode legal here among lock earlier (inr prior) =
    let itself : (txn == txn) ≡ true = grind (arith, nat_tests) in
    let own : is_txn txn (txn_of past e.actor) ≡ true = ap (is_txn txn) prior ∙ itself in
    let after = sym (chosen (is_txn txn (txn_of past e.actor)) (lock_after (known o past) e.event (effect e.reply) table key (lock_of o past txn table key)) (lock_of o past txn table key) own) ∙ lock in
    by_cases (begins_one (effect e.reply))
    (λ began. absurd (let new = begins_new o past e txn began here (outcome o past e legal) in let gone = new.1 in cc))
    (λ going. own_lock tables past e e.actor refl going ∙ shown o past tables e e.actor table key (lock_of o past txn table key) among (earlier prior) (locked_by (known o past) e.event (effect e.reply) table key (lock_of o past txn table key) mode after))

-- a lock of a live transaction on a key of one of several tables
pub lock_shows : (o : Opening) (past : List Entry) (tables : List (List ℕ)) (client txn : ℕ) (table : List ℕ) (key : List Value) (mode : Mode) → Legal o past → txn_of past client ≡ Some txn → has_name tables table ≡ true → lock_of o past txn table key ≡ Some mode → has_lock_on tables client past ≡ true
lock_shows o [] tables client txn table key mode legal inside among lock = absurd (cc)
lock_shows o (e ∷ past) tables client txn table key mode legal inside among lock = by_cases (e.actor == client)
    (λ same.
    let is : e.actor ≡ client = eqb-true e.actor client same in
    let here : txn_of (e ∷ past) e.actor ≡ Some txn = subst (λ n. txn_of (e ∷ past) n ≡ Some txn) (sym is) inside in
    subst (λ n. has_lock_on tables n (e ∷ past) ≡ true) is
    (mine_shows o past tables e txn table key mode legal here among lock (λ prior m held. lock_shows o past tables e.actor txn table key m legal.0 prior among held) (goes_on e.actor txn (effect e.reply) (living past) here)))
    (λ away.
    let prior : txn_of past client ≡ Some txn = sym (txn_other client e past away) ∙ inside in
    other_lock tables past e client away
    ∙ lock_shows o past tables client txn table key mode legal.0 prior among (kept_lock o past e txn table key mode lock (foreign o past e.actor client txn (txn_of past e.actor) legal.0 away refl prior)))

-- ** behind the switch nobody has a lock on a source **

-- where nobody stands against the switch none of the living does
none_hinders : (p : Living → Bool) (xs : List Living) (client txn : ℕ) → least (map (λ (l : Living). l.txn) (filter p xs)) ≡ None → txn_among xs client ≡ Some txn → p (record { client = client; txn = txn }) ≡ false
none_hinders p [] client txn none e = absurd (cc)
none_hinders p (x ∷ xs) client txn none e = by_cases (p x)
    (λ t. absurd (let found = rw t at none in cc))
    (λ f. by_cases (x.client == client)
    (λ here. let same : Some x.txn ≡ Some txn = rw here at e in first x client txn f (eqb-true x.client client here) (cc))
    (λ away. none_hinders p xs client txn (rw f at none) (rw away at e)))
  where
    first : (x : Living) (client txn : ℕ) → p x ≡ false → x.client ≡ client → x.txn ≡ txn → p (record { client = client; txn = txn }) ≡ false
    first x client txn f same number = subst (λ (l : Living). p l ≡ false) (λ i. record { client = same i; txn = number i }) f

-- a table that isn't gone is no source
not_source : (is_source : Bool) → if_gone is_source ≡ None → is_source ≡ false
not_source true e = absurd (cc)
not_source false e = refl

pub open_elsewhere : (past : List Entry) (client : ℕ) (table : List ℕ) (s : Started) → phase past ≡ Done → started past ≡ Some s → closed past client table ≡ None → has_name (sources_of s.spec) table ≡ false
open_elsewhere past client table s done is opened =
    not_source (has_name (sources_of s.spec) table)
    (sym (ap (closed_by past client table) is ∙ ap (λ at. closed_in at (has_name (targets_of s.spec) table) (has_name (sources_of s.spec) table) (has_lock_on (sources_of s.spec) client past)) done) ∙ opened)

-- at the switch
free_at_switch : (o : Opening) (past : List Entry) (e : Entry) (client txn : ℕ) (s : Started) → started past ≡ Some s → Progress o.catalog (phase past) (started past) (position o past) (length (log_of o past)) → Switching o past e → txn_of past client ≡ Some txn → has_lock_on (sources_of s.spec) client past ≡ false
free_at_switch o past e client txn s is (before idle none) w inside = absurd (let this = w.attempt.is in cc)
free_at_switch o past e client txn s is (under_way u) w inside =
    let same : w.attempt.s ≡ s = one w.attempt.s s (sym w.attempt.is ∙ is) in
    let this : u.s ≡ s = one u.s s (sym u.this ∙ is) in
    let free : conflict o past s ≡ None = subst (λ (t : Started). conflict o past t ≡ None) same w.free in
    let clear = none_hinders (hinders o past s) (living past) client txn free inside in
    let blocking : is_blocking s.strategy ≡ true = ap is_blocking (subst (λ (t : Started). t.strategy ≡ Blocking) this u.blocking) in
    rw blocking at clear
  where
    one : (a b : Started) → Some a ≡ Some b → a ≡ b
    one a b e = cc

-- an entry that takes no lock on a source leaves its client without one
still_free : (tables : List (List ℕ)) (past : List Entry) (e : Entry) (client txn : ℕ) → txn_of (e ∷ past) client ≡ Some txn → (takes_lock (effect e.reply) && event_names tables e.event) ≡ false → ((t : ℕ) → txn_of past client ≡ Some t → has_lock_on tables client past ≡ false) → has_lock_on tables client (e ∷ past) ≡ false
still_free tables past e client txn inside takes earlier = by_cases (e.actor == client)
    (λ same.
    let is : e.actor ≡ client = eqb-true e.actor client same in
    let here : txn_of (e ∷ past) e.actor ≡ Some txn = subst (λ n. txn_of (e ∷ past) n ≡ Some txn) (sym is) inside in
    by_cases (begins_one (effect e.reply)) (λ began. begun_lock tables past e client is began) (λ going. own_lock tables past e client is going ∙ rw takes (goes is going (goes_on e.actor txn (effect e.reply) (living past) here))))
    (λ away. other_lock tables past e client away ∙ earlier txn (sym (txn_other client e past away) ∙ inside))
  where
    goes : e.actor ≡ client → begins_one (effect e.reply) ≡ false → (begins_one (effect e.reply) ≡ true) ⊎ (txn_among (living past) e.actor ≡ Some txn) → has_lock_on tables client past ≡ false
    goes is going (inl began) = absurd (cc)
    goes is going (inr was_in) = earlier txn (subst (λ n. txn_of past n ≡ Some txn) is was_in)

-- what a request asks for behind the switch is no source
takes_none : (o : Opening) (past : List Entry) (e : Entry) (s : Started) → phase past ≡ Done → started past ≡ Some s → Outcome o past e → (takes_lock (effect e.reply) && event_names (sources_of s.spec) e.event) ≡ false
unfolding event_names request_names
takes_none o past e s done is (rests told) = rw told refl
takes_none o past e s done is (begins b) = rw b.told refl
takes_none o past e s done is (reads r) = rw (r.told, r.asked) (open_elsewhere past e.actor r.table s done is r.opened)
takes_none o past e s done is (writes w) = rw w.told (w.names (sources_of s.spec) ∙ open_elsewhere past e.actor w.table s done is w.opened)
takes_none o past e s done is (commits c) = rw c.told refl
takes_none o past e s done is (undoes u) = rw u.told refl
takes_none o past e s done is (aborts a) = rw a.told refl
takes_none o past e s done is (starts t) = rw t.told refl
takes_none o past e s done is (sees t) = rw t.told refl
takes_none o past e s done is (fetches f) = rw f.told refl
takes_none o past e s done is (conflicts a told) = rw told refl
takes_none o past e s done is (switches w) = rw w.told refl

-- an entry that ends before the switch is the switch
switched_now : (o : Opening) (past : List Entry) (e : Entry) (s : Started) (client txn : ℕ) → Legal o (e ∷ past) → (phase past ≡ Done → ⊥) → phase (e ∷ past) ≡ Done → started (e ∷ past) ≡ Some s → txn_of (e ∷ past) client ≡ Some txn → Outcome o past e → has_lock_on (sources_of s.spec) client (e ∷ past) ≡ false
switched_now o past e s client txn legal undone done is inside (switches w) =
    let same : started past ≡ Some s = sym (started_is past e Switches w.told) ∙ is in
    let none : (takes_lock (effect e.reply) && event_names (sources_of s.spec) e.event) ≡ false = rw w.told refl in
    still_free (sources_of s.spec) past e client txn inside none (λ t within. free_at_switch o past e client t s same (legal_progress o past legal.0) w within)
switched_now o past e s client txn legal undone done is inside (rests told) = absurd (undone (sym (phase_by past e Nothing told) ∙ done))
switched_now o past e s client txn legal undone done is inside (begins b) = absurd (undone (sym (phase_by past e (Begins (begun past + 1)) b.told) ∙ done))
switched_now o past e s client txn legal undone done is inside (reads r) = absurd (undone (sym (phase_by past e Reads r.told) ∙ done))
switched_now o past e s client txn legal undone done is inside (writes w) = absurd (undone (sym (phase_by past e Writes w.told) ∙ done))
switched_now o past e s client txn legal undone done is inside (commits c) = absurd (undone (sym (phase_by past e Commits c.told) ∙ done))
switched_now o past e s client txn legal undone done is inside (undoes u) = absurd (undone (sym (phase_by past e Undoes u.told) ∙ done))
switched_now o past e s client txn legal undone done is inside (aborts a) = absurd (undone (sym (phase_by past e Aborts a.told) ∙ done))
switched_now o past e s client txn legal undone done is inside (starts t) = absurd (let now = phase_by past e (Starts (next_lsn o past)) t.told in cc)
switched_now o past e s client txn legal undone done is inside (sees t) = absurd (seen_undone t.last (phase_by past e (Sees t.lsns t.last) t.told))
  where
    seen_undone : (last : Bool) → phase (e ∷ past) ≡ (if last then Chasing else phase past) → ⊥
    seen_undone true now = cc
    seen_undone false now = undone (sym now ∙ done)
switched_now o past e s client txn legal undone done is inside (fetches f) = absurd (undone (sym (phase_by past e (Fetches f.place) f.told) ∙ done))
switched_now o past e s client txn legal undone done is inside (conflicts a told) = absurd (drained (drains (started past)) (phase_by past e Conflicts told))
  where
    drained : (drain : Bool) → phase (e ∷ past) ≡ (if drain then Draining else phase past) → ⊥
    drained true now = cc
    drained false now = undone (sym now ∙ done)

-- behind the switch nobody has a lock on a source
pub none_on_sources : (o : Opening) (past : List Entry) (s : Started) (client txn : ℕ) → Legal o past → phase past ≡ Done → started past ≡ Some s → txn_of past client ≡ Some txn → has_lock_on (sources_of s.spec) client past ≡ false
none_on_sources o [] s client txn legal done is inside = absurd (cc)
none_on_sources o (e ∷ past) s client txn legal done is inside = by (is_done (phase past)) (λ prior same t within. none_on_sources o past s client t legal.0 prior same within)
  where
    by : (phase past ≡ Done) ⊎ (phase past ≡ Done → ⊥) → (phase past ≡ Done → started past ≡ Some s → (t : ℕ) → txn_of past client ≡ Some t → has_lock_on (sources_of s.spec) client past ≡ false) → has_lock_on (sources_of s.spec) client (e ∷ past) ≡ false
    by (inl prior) earlier =
        let stays = done_stays o past e prior (outcome o past e legal) in
        let same = sym stays.is ∙ is in
        still_free (sources_of s.spec) past e client txn inside (takes_none o past e s prior same (outcome o past e legal)) (earlier prior same)
    by (inr undone) earlier = switched_now o past e s client txn legal undone done is inside (outcome o past e legal)

-- ** and what its entries show is a lock **

-- a request that names a table asks for a key of it
record AsksThere (catalog : List Declared) (asked : Event) (table : List ℕ) : Type 0 where
  key : List Value
  here : is_for_key catalog asked table key ≡ true

own_place : (named table : List ℕ) (at : List Value) → has_name (table ∷ []) named ≡ true → is_place named at table at ≡ true
own_place named table at among = rw (first (same_name named table) among, values_eq-refl at) refl
  where
    first : (b : Bool) → (b || false) ≡ true → b ≡ true
    first true e = refl
    first false e = absurd (cc)

request_there : (catalog : List Declared) (asked : Request) (table : List ℕ) → request_names (table ∷ []) asked ≡ true → AsksThere catalog (event.Client asked) table
unfolding request_names is_for_key asks_for_key
request_there catalog (request.Read named at) table among = record { key = at; here = own_place named table at among }
request_there catalog (request.Insert named row) table among = record { key = key_in catalog named row; here = own_place named table (key_in catalog named row) among }
request_there catalog (request.Update named row) table among = record { key = key_in catalog named row; here = own_place named table (key_in catalog named row) among }
request_there catalog (request.Delete named at) table among = record { key = at; here = own_place named table at among }
request_there catalog request.Begin table among = absurd (cc)
request_there catalog request.Commit table among = absurd (cc)
request_there catalog request.Undo table among = absurd (cc)

event_there : (catalog : List Declared) (asked : Event) (table : List ℕ) → event_names (table ∷ []) asked ≡ true → AsksThere catalog asked table
unfolding event_names
event_there catalog (event.Client asked) table among = request_there catalog asked table among
event_there catalog (event.Start spec strategy) table among = absurd (cc)
event_there catalog (event.Scan n) table among = absurd (cc)
event_there catalog (event.Fetch n) table among = absurd (cc)
event_there catalog (event.Check group) table among = absurd (cc)
event_there catalog event.Switch table among = absurd (cc)
event_there catalog event.Cancel table among = absurd (cc)

-- a lock on a key of the table
pub record LocksThere (o : Opening) (past : List Entry) (txn : ℕ) (table : List ℕ) : Type 0 where
  pub key : List Value
  pub mode : Mode
  pub is : lock_of o past txn table key ≡ Some mode

-- a lock behind an entry of the transaction that takes none away
record Keeps (catalog : List Declared) (asked : Event) (f : Effect) (table : List ℕ) (key : List Value) (held : Option Mode) : Type 0 where
  mode : Mode
  is : lock_after catalog asked f table key held ≡ Some mode

taken_lock : (catalog : List Declared) (asked : Event) (f : Effect) (table : List ℕ) (key : List Value) (held : Option Mode) → takes_lock f ≡ true → is_for_key catalog asked table key ≡ true → Keeps catalog asked f table key held
taken_lock catalog asked Writes table key held takes here = record { mode = Exclusive; is = chosen (is_for_key catalog asked table key) (Some Exclusive) held here }
taken_lock catalog asked Reads table key held takes here = record { mode = stronger held Shared; is = chosen (is_for_key catalog asked table key) (Some (stronger held Shared)) held here }
taken_lock catalog asked Nothing table key held takes here = absurd (cc)
taken_lock catalog asked (Begins txn) table key held takes here = absurd (cc)
taken_lock catalog asked Undoes table key held takes here = absurd (cc)
taken_lock catalog asked Commits table key held takes here = absurd (cc)
taken_lock catalog asked Aborts table key held takes here = absurd (cc)
taken_lock catalog asked (Starts mark) table key held takes here = absurd (cc)
taken_lock catalog asked (Sees lsns last) table key held takes here = absurd (cc)
taken_lock catalog asked (Fetches place) table key held takes here = absurd (cc)
taken_lock catalog asked Checks table key held takes here = absurd (cc)
taken_lock catalog asked Conflicts table key held takes here = absurd (cc)
taken_lock catalog asked Violates table key held takes here = absurd (cc)
taken_lock catalog asked Switches table key held takes here = absurd (cc)
taken_lock catalog asked Cancels table key held takes here = absurd (cc)

-- effects that end a transaction
abbrev ends_one : Effect → Bool
ends_one Commits = true
ends_one Aborts = true
ends_one other = false

kept_on : (catalog : List Declared) (asked : Event) (f : Effect) (table : List ℕ) (key : List Value) (held : Option Mode) (mode : Mode) → ends_one f ≡ false → held ≡ Some mode → Keeps catalog asked f table key held
kept_on catalog asked Writes table key held mode going is = by_cases (is_for_key catalog asked table key)
    (λ here. record { mode = Exclusive; is = chosen (is_for_key catalog asked table key) (Some Exclusive) held here })
    (λ away. record { mode = mode; is = passed (is_for_key catalog asked table key) (Some Exclusive) held away ∙ is })
kept_on catalog asked Reads table key held mode going is = by_cases (is_for_key catalog asked table key)
    (λ here. record { mode = stronger held Shared; is = chosen (is_for_key catalog asked table key) (Some (stronger held Shared)) held here })
    (λ away. record { mode = mode; is = passed (is_for_key catalog asked table key) (Some (stronger held Shared)) held away ∙ is })
kept_on catalog asked Commits table key held mode going is = absurd (cc)
kept_on catalog asked Aborts table key held mode going is = absurd (cc)
kept_on catalog asked Nothing table key held mode going is = record { mode = mode; is = is }
kept_on catalog asked (Begins txn) table key held mode going is = record { mode = mode; is = is }
kept_on catalog asked Undoes table key held mode going is = record { mode = mode; is = is }
kept_on catalog asked (Starts mark) table key held mode going is = record { mode = mode; is = is }
kept_on catalog asked (Sees lsns last) table key held mode going is = record { mode = mode; is = is }
kept_on catalog asked (Fetches place) table key held mode going is = record { mode = mode; is = is }
kept_on catalog asked Checks table key held mode going is = record { mode = mode; is = is }
kept_on catalog asked Conflicts table key held mode going is = record { mode = mode; is = is }
kept_on catalog asked Violates table key held mode going is = record { mode = mode; is = is }
kept_on catalog asked Switches table key held mode going is = record { mode = mode; is = is }
kept_on catalog asked Cancels table key held mode going is = record { mode = mode; is = is }

-- an entry of the transaction
own_after : (o : Opening) (past : List Entry) (e : Entry) (txn : ℕ) (table : List ℕ) (key : List Value) → txn_of past e.actor ≡ Some txn → lock_of o (e ∷ past) txn table key ≡ lock_after (known o past) e.event (effect e.reply) table key (lock_of o past txn table key)
own_after o past e txn table key is =
    let itself : (txn == txn) ≡ true = grind (arith, nat_tests) in
    chosen (is_txn txn (txn_of past e.actor)) (lock_after (known o past) e.event (effect e.reply) table key (lock_of o past txn table key)) (lock_of o past txn table key) (ap (is_txn txn) is ∙ itself)

-- a client that goes on has not ended
going_on : (client txn : ℕ) (f : Effect) (xs : List Living) → txn_among (living_after client f xs) client ≡ Some txn → ends_one f ≡ false
going_on client txn Commits xs e = absurd (let gone = without_own client xs in cc)
going_on client txn Aborts xs e = absurd (let gone = without_own client xs in cc)
going_on client txn Nothing xs e = refl
going_on client txn Reads xs e = refl
going_on client txn (Begins t) xs e = refl
going_on client txn Writes xs e = refl
going_on client txn Undoes xs e = refl
going_on client txn (Starts mark) xs e = refl
going_on client txn (Sees lsns last) xs e = refl
going_on client txn (Fetches place) xs e = refl
going_on client txn Checks xs e = refl
going_on client txn Conflicts xs e = refl
going_on client txn Violates xs e = refl
going_on client txn Switches xs e = refl
going_on client txn Cancels xs e = refl

mine_there : (o : Opening) (past : List Entry) (e : Entry) (txn : ℕ) (table : List ℕ) → Legal o (e ∷ past) → txn_of (e ∷ past) e.actor ≡ Some txn → has_lock_on (table ∷ []) e.actor (e ∷ past) ≡ true
    → (txn_of past e.actor ≡ Some txn → has_lock_on (table ∷ []) e.actor past ≡ true → LocksThere o past txn table) → LocksThere o (e ∷ past) txn table
mine_there o past e txn table legal here shows earlier = by_cases (begins_one (effect e.reply))
    (λ began. absurd (false≢true (sym (begun_lock (table ∷ []) past e e.actor refl began) ∙ shows)))
    (λ going. still going (goes_on e.actor txn (effect e.reply) (living past) here))
  where
    later : txn_of past e.actor ≡ Some txn → (key : List Value) → Keeps (known o past) e.event (effect e.reply) table key (lock_of o past txn table key) → LocksThere o (e ∷ past) txn table
    later is key k = record { key = key; mode = k.mode; is = own_after o past e txn table key is ∙ k.is }

    still : begins_one (effect e.reply) ≡ false → (begins_one (effect e.reply) ≡ true) ⊎ (txn_among (living past) e.actor ≡ Some txn) → LocksThere o (e ∷ past) txn table
    still going (inl began) = absurd (cc)
    still going (inr is) = by_cases (takes_lock (effect e.reply) && event_names (table ∷ []) e.event)
        (λ takes.
        let a = event_there (known o past) e.event table (and_second (takes_lock (effect e.reply)) (event_names (table ∷ []) e.event) takes) in
        later is a.key (taken_lock (known o past) e.event (effect e.reply) table a.key (lock_of o past txn table a.key) (and_first (takes_lock (effect e.reply)) (event_names (table ∷ []) e.event) takes) a.here))
        (λ none.
        let was = or_rest (takes_lock (effect e.reply) && event_names (table ∷ []) e.event) (has_lock_on (table ∷ []) e.actor past) none (sym (own_lock (table ∷ []) past e e.actor refl going) ∙ shows) in
        let l = earlier is was in
        later is l.key (kept_on (known o past) e.event (effect e.reply) table l.key (lock_of o past txn table l.key) l.mode (going_on e.actor txn (effect e.reply) (living past) here) l.is))

pub lock_there : (o : Opening) (past : List Entry) (client txn : ℕ) (table : List ℕ) → Legal o past → txn_of past client ≡ Some txn → has_lock_on (table ∷ []) client past ≡ true → LocksThere o past txn table
lock_there o [] client txn table legal inside shows = absurd (cc)
lock_there o (e ∷ past) client txn table legal inside shows = by_cases (e.actor == client)
    (λ same.
    let is : e.actor ≡ client = eqb-true e.actor client same in
    mine_there o past e txn table legal (subst (λ n. txn_of (e ∷ past) n ≡ Some txn) (sym is) inside) (subst (λ n. has_lock_on (table ∷ []) n (e ∷ past) ≡ true) (sym is) shows) (λ before_it was. lock_there o past e.actor txn table legal.0 before_it was))
    (λ away.
    let inside_it : txn_of past client ≡ Some txn = sym (txn_other client e past away) ∙ inside in
    let l = lock_there o past client txn table legal.0 inside_it (sym (other_lock (table ∷ []) past e client away) ∙ shows) in
    record { key = l.key; mode = l.mode; is = passed (is_txn txn (txn_of past e.actor)) (lock_after (known o past) e.event (effect e.reply) table l.key (lock_of o past txn table l.key)) (lock_of o past txn table l.key) (foreign o past e.actor client txn (txn_of past e.actor) legal.0 away refl inside_it) ∙ l.is })
