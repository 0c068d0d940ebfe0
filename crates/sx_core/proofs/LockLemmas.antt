-- The locks of a journal, entry by entry: only live transactions have any.
use Rattle.std.proofs.Common.{◌≡◌, ◌≤◌, ◌+◌, ◌==◌, ◌&&◌, ◌||◌, ℕ, Bool, true, false, List, [], ◌∷◌, Option, Some, None, refl, sym, ap, ◌∙◌, subst, arith, if◌then◌else◌}
use Rattle.std.proofs.lemmas.Bool.Decides.{nat_tests}
use Rattle.sx_values.specs.declared.value.Value.{Value}
use Rattle.sx_locks.specs.declared.mode.Mode.{Mode}
use Rattle.sx_journal.specs.declared.entry.Entry.{Entry}
use Rattle.sx_model.specs.Effects.{Effect, Nothing, Reads, Begins, Writes, Undoes, Commits, Aborts, Starts, Sees, Fetches, Checks, Conflicts, Violates, Switches, Cancels, effect}
use Rattle.sx_model.specs.Openings.{Opening}
use Rattle.sx_model.specs.Leaves.{living, living_after, without, txn_of, begun, begun_after}
use Rattle.sx_model.specs.Known.{known}
use Rattle.sx_model.specs.Held.{lock_after, lock_of, is_txn, is_ending, undoes}
use Rattle.sx_model.specs.Clients.{AreLiving}
use Rattle.sx_model.specs.Logs.{next_lsn}
use Rattle.sx_model.specs.Legal.{Legal}
use Rattle.sx_model.proofs.TestLaws.{by_cases}
use Rattle.sx_model.proofs.LivingLaws.{legal_living, txn_begun}
use Rattle.sx_model.proofs.Outcomes as out
use Rattle.sx_model.proofs.Outcomes.{Outcome, outcome}
use Rattle.sx_core.proofs.LivingLemmas.{numbers, among, ended_same, txn_is_among, among_but}

-- the lock behind an entry with this effect
abbrev pub lock_behind : Opening → List Entry → Entry → Effect → ℕ → List ℕ → List Value → Option Mode
lock_behind o past e f t table key =
    if is_txn t (txn_of past e.actor) then lock_after (known o past) e.event f table key (lock_of o past t table key) else lock_of o past t table key

pub lock_by : (o : Opening) (past : List Entry) (e : Entry) (f : Effect) (t : ℕ) (table : List ℕ) (key : List Value) → effect e.reply ≡ f
    → lock_of o (e ∷ past) t table key ≡ lock_behind o past e f t table key
lock_by o past e f t table key told = ap (λ g. lock_behind o past e g t table key) told

either : {T : Type 0} (b : Bool) (x : T) → (if b then x else x) ≡ x
either true x = refl
either false x = refl

-- an effect that leaves each lock
pub lock-same : (o : Opening) (past : List Entry) (e : Entry) (f : Effect) (t : ℕ) (table : List ℕ) (key : List Value) → effect e.reply ≡ f
    → lock_after (known o past) e.event f table key (lock_of o past t table key) ≡ lock_of o past t table key
    → lock_of o (e ∷ past) t table key ≡ lock_of o past t table key
lock-same o past e f t table key told stays =
    lock_by o past e f t table key told
    ∙ (ap (λ held. if is_txn t (txn_of past e.actor) then held else lock_of o past t table key) stays ∙ either (is_txn t (txn_of past e.actor)) (lock_of o past t table key))

-- ** who has a lock lives **

-- a lock that stays, or that the client's transaction has got
lock_got : (past : List Entry) (t txn : ℕ) (actor : ℕ) (held after : Option Mode) (mode : Mode) → txn_of past actor ≡ Some txn
    → (held ≡ Some mode → among (numbers (living past)) t ≡ true) → (if is_txn t (txn_of past actor) then after else held) ≡ Some mode → among (numbers (living past)) t ≡ true
lock_got past t txn actor held after mode inside was is =
    let shown : (if (t == txn) then after else held) ≡ Some mode = rw inside at is in
    by_cases (t == txn)
    (λ same. let e : txn ≡ t = grind (arith, nat_tests) in subst (λ n. among (numbers (living past)) n ≡ true) e (txn_is_among (living past) actor txn inside))
    (λ other. was (rw other at shown))

lock_freed : (past : List Entry) (begun t txn : ℕ) (actor : ℕ) (held : Option Mode) (mode : Mode) → AreLiving begun (living past) → txn_of past actor ≡ Some txn
    → (held ≡ Some mode → among (numbers (living past)) t ≡ true) → (if is_txn t (txn_of past actor) then None else held) ≡ Some mode
    → among (numbers (without actor (living past))) t ≡ true
lock_freed past begun t txn actor held mode differ inside was is =
    let shown : (if (t == txn) then None else held) ≡ Some mode = rw inside at is in
    by_cases (t == txn)
    (λ same. let none : None ≡ Some mode = rw same at shown in absurd (cc))
    (λ other.
    let apart : (txn == t) ≡ false = grind (arith, nat_tests) in
    let rest = among_but (numbers (living past)) txn t apart (was (rw other at shown)) in
    subst (λ ns. among ns t ≡ true) (sym (ended_same (living past) actor txn differ.clients differ.txns inside)) rest)

among_more : (n : ℕ) (ns : List ℕ) (t : ℕ) → among ns t ≡ true → among (n ∷ ns) t ≡ true
among_more n ns t is = by_cases (n == t) (λ here. rw here refl) (λ other. rw other is)

-- who lives behind an entry with this effect
abbrev AmongAfter : List Entry → Entry → Effect → ℕ → Type 0
AmongAfter past e f t = among (numbers (living_after e.actor f (living past))) t ≡ true

locked_by : (past : List Entry) (e : Entry) (f : Effect) (t : ℕ) → effect e.reply ≡ f → AmongAfter past e f t → among (numbers (living (e ∷ past))) t ≡ true
locked_by past e f t told is = subst (λ g. AmongAfter past e g t) (sym told) is

locked_next : (o : Opening) (past : List Entry) (e : Entry) (t : ℕ) (table : List ℕ) (key : List Value) (mode : Mode) → AreLiving (begun past) (living past) → Outcome o past e
    → (lock_of o past t table key ≡ Some mode → among (numbers (living past)) t ≡ true)
    → lock_of o (e ∷ past) t table key ≡ Some mode → among (numbers (living (e ∷ past))) t ≡ true
locked_next o past e t table key mode differ (out.rests told) was is =
    locked_by past e Nothing t told (was (sym (lock-same o past e Nothing t table key told refl) ∙ is))
locked_next o past e t table key mode differ (out.begins b) was is =
    locked_by past e (Begins (begun past + 1)) t b.told (among_more (begun past + 1) (numbers (living past)) t (was (sym (lock-same o past e (Begins (begun past + 1)) t table key b.told refl) ∙ is)))
locked_next o past e t table key mode differ (out.reads r) was is =
    locked_by past e Reads t r.told (lock_got past t r.txn e.actor (lock_of o past t table key) (lock_after (known o past) e.event Reads table key (lock_of o past t table key)) mode r.inside was (sym (lock_by o past e Reads t table key r.told) ∙ is))
locked_next o past e t table key mode differ (out.writes w) was is =
    locked_by past e Writes t w.told (lock_got past t w.txn e.actor (lock_of o past t table key) (lock_after (known o past) e.event Writes table key (lock_of o past t table key)) mode w.inside was (sym (lock_by o past e Writes t table key w.told) ∙ is))
locked_next o past e t table key mode differ (out.commits c) was is =
    locked_by past e Commits t c.told (lock_freed past (begun past) t c.txn e.actor (lock_of o past t table key) mode differ c.inside was (sym (lock_by o past e Commits t table key c.told) ∙ is))
locked_next o past e t table key mode differ (out.aborts a) was is =
    locked_by past e Aborts t a.told (lock_freed past (begun past) t a.txn e.actor (lock_of o past t table key) mode differ a.inside was (sym (lock_by o past e Aborts t table key a.told) ∙ is))
locked_next o past e t table key mode differ (out.undoes u) was is =
    locked_by past e Undoes t u.told (was (sym (lock-same o past e Undoes t table key u.told refl) ∙ is))
locked_next o past e t table key mode differ (out.starts s) was is =
    locked_by past e (Starts (next_lsn o past)) t s.told (was (sym (lock-same o past e (Starts (next_lsn o past)) t table key s.told refl) ∙ is))
locked_next o past e t table key mode differ (out.sees s) was is =
    locked_by past e (Sees s.lsns s.last) t s.told (was (sym (lock-same o past e (Sees s.lsns s.last) t table key s.told refl) ∙ is))
locked_next o past e t table key mode differ (out.conflicts a told) was is =
    locked_by past e Conflicts t told (was (sym (lock-same o past e Conflicts t table key told refl) ∙ is))
locked_next o past e t table key mode differ (out.fetches f) was is =
    locked_by past e (Fetches f.place) t f.told (was (sym (lock-same o past e (Fetches f.place) t table key f.told refl) ∙ is))
locked_next o past e t table key mode differ (out.switches w) was is =
    locked_by past e Switches t w.told (was (sym (lock-same o past e Switches t table key w.told refl) ∙ is))

pub locked_live : (o : Opening) (past : List Entry) (t : ℕ) (table : List ℕ) (key : List Value) (mode : Mode) → Legal o past → lock_of o past t table key ≡ Some mode → among (numbers (living past)) t ≡ true
locked_live o [] t table key mode legal is = absurd (cc)
locked_live o (e ∷ past) t table key mode legal is =
    locked_next o past e t table key mode (legal_living o past legal.0) (outcome o past e legal) (locked_live o past t table key mode legal.0) is

-- ** who is ending was begun **

begun_more : (f : Effect) (n : ℕ) → n ≤ begun_after f n
begun_more (Begins txn) n = omega arith
begun_more Nothing n = omega arith
begun_more Reads n = omega arith
begun_more Writes n = omega arith
begun_more Undoes n = omega arith
begun_more Commits n = omega arith
begun_more Aborts n = omega arith
begun_more (Starts mark) n = omega arith
begun_more (Sees lsns last) n = omega arith
begun_more (Fetches place) n = omega arith
begun_more Checks n = omega arith
begun_more Conflicts n = omega arith
begun_more Violates n = omega arith
begun_more Switches n = omega arith
begun_more Cancels n = omega arith

pub ending_begun : (o : Opening) (past : List Entry) (t : ℕ) → Legal o past → is_ending past t ≡ true → t ≤ begun past
ending_begun o [] t legal is = absurd (cc)
ending_begun o (e ∷ past) t legal is =
    let more = begun_more (effect e.reply) (begun past) in
    by_cases (is_ending past t)
    (λ was. let h = ending_begun o past t legal.0 was in omega arith)
    (λ never. let now = first_of_or (is_txn t (txn_of past e.actor) && undoes (effect e.reply)) (is_ending past t) never is in
    let h = this_begun (txn_of past e.actor) refl (first_of_and (is_txn t (txn_of past e.actor)) (undoes (effect e.reply)) now) in
    omega arith)
  where
    first_of_or : (a b : Bool) → b ≡ false → (a || b) ≡ true → a ≡ true
    first_of_or true b f e = refl
    first_of_or false b f e = absurd (cc)

    first_of_and : (a b : Bool) → (a && b) ≡ true → a ≡ true
    first_of_and true b e = refl
    first_of_and false b e = absurd (cc)

    this_begun : (here : Option ℕ) → txn_of past e.actor ≡ here → is_txn t here ≡ true → t ≤ begun past
    this_begun None inside same = absurd (cc)
    this_begun (Some txn) inside same =
        let lives = txn_begun (begun past) (living past) e.actor txn (legal_living o past legal.0).each inside in
        let h = lives.to_begun in
        let same_txn : t ≡ txn = grind (arith, nat_tests) in
        omega arith
