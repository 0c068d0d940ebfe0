-- A scan that walks a table by a cursor while the table changes: what it has seen is behind the cursor, and each key behind it is covered.
use Rattle.std.proofs.Common.{◌≡◌, ◌≤◌, ◌+◌, ◌-◌, ◌==◌, ◌&&◌, ◌||◌, ◌++◌, ◌∷◌, [], ℕ, suc, List, length, drop, Bool, true, false, Option, Some, None, refl, sym, ap, ◌∙◌, subst, arith, if◌then◌else◌}
use Rattle.std.specs.List.{AllByRecursion}
use Rattle.std.proofs.lemmas.Bool.{false≢true, eqb-true}
use Rattle.std.proofs.lemmas.Bool.Decides.{nat_tests}
use Rattle.std.proofs.lemmas.List.Folds.{list_any-append}
use Rattle.sx_lists.specs.Places.{numbered}
use Rattle.sx_values.specs.declared.value.Value.{Value}
use Rattle.sx_log.specs.declared.record.Rec.{Rec}
use Rattle.sx_log.specs.State.{Stored, after_body, state_at, oldest}
use Rattle.sx_model.specs.Scans.{has_lsn, is_about, reading, IsRowNow}
use Rattle.sx_model.specs.Cursors.{IsSeen, IsWalked}
use Rattle.sx_model.proofs.AllLaws.{all_append, all_each}
use Rattle.sx_model.proofs.TestLaws.{by_cases, passed}
use Rattle.sx_model.proofs.LsnLaws.{record_of, numbered-here, numbered-earlier, numbered_within, about_one}
use Rattle.sx_model.proofs.ScanLaws.{oldest_all, IsListed, read_listed, IsUnread, unread_earlier, listed_row}

-- before the first turn
pub walked_start : (log : List Rec) (mark : ℕ) (table : List ℕ) → IsWalked log mark [] table (λ key. false)
walked_start log mark table = record { seen_behind = tt; covered = λ key e. absurd (cc) }

-- ** a record more **

seen_later : (r : Rec) (log : List Rec) (table : List ℕ) (behind : List Value → Bool) (lsn : ℕ) → IsSeen log table behind lsn → IsSeen (r ∷ log) table behind lsn
seen_later r log table behind lsn s = record { rec = s.rec; is = numbered-earlier r log lsn (numbered_within log lsn s.rec s.is) ∙ s.is; key = s.key; about = s.about; passed_it = s.passed_it }

-- an LSN among those that were seen
seen_one : (log : List Rec) (lsns table : List ℕ) (behind : List Value → Bool) (n : ℕ) → AllByRecursion (IsSeen log table behind) lsns → has_lsn lsns n ≡ true → IsSeen log table behind n
seen_one log [] table behind n all has = absurd (cc)
seen_one log (lsn ∷ lsns) table behind n all has = by_cases (n == lsn)
    (λ t. subst (IsSeen log table behind) (sym (eqb-true n lsn t)) all.0)
    (λ f. seen_one log lsns table behind n all.1 (rw f at has))

-- it isn't a later one's
not_newest : (log : List Rec) (lsns table : List ℕ) (behind : List Value → Bool) → AllByRecursion (IsSeen log table behind) lsns → has_lsn lsns (length log + 1) ≡ false
not_newest log lsns table behind all = by_cases (has_lsn lsns (length log + 1))
    (λ t. absurd (let s = seen_one log lsns table behind (length log + 1) all t in let w = numbered_within log (length log + 1) s.rec s.is in omega arith))
    (λ f. f)

place_still : (r : Rec) (log : List Rec) (place : ℕ) → place ≤ length log → oldest place (r ∷ log) ≡ oldest place log
place_still r log place within = (let one : length (r ∷ log) - place ≡ suc (length log - place) = omega arith in ap (λ k. drop k (r ∷ log)) one)

pub walked_grows : (r : Rec) (log : List Rec) (mark : ℕ) (lsns table : List ℕ) (behind : List Value → Bool) → IsWalked log mark lsns table behind → IsWalked (r ∷ log) mark lsns table behind
walked_grows r log mark lsns table behind w = record {
  seen_behind = all_each (IsSeen log table behind) (IsSeen (r ∷ log) table behind) (seen_later r log table behind) lsns w.seen_behind;
  covered = λ key e.
      let c = w.covered key e in
      let away = not_newest log lsns table behind w.seen_behind in
      record {
        place = c.place;
        from_mark = c.from_mark;
        until_now = (let h = c.until_now in omega arith);
        same = passed (has_lsn lsns (length log + 1) && is_about r.body table key) (after_body (length log + 1) r.body table key None) (reading log lsns table key) (rw away refl)
            ∙ c.same ∙ sym (ap (λ l. state_at l table key) (place_still r log c.place c.until_now));
      };
}

-- ** a turn **

has_both : (lsns more : List ℕ) (n : ℕ) → has_lsn (lsns ++ more) n ≡ (has_lsn lsns n || has_lsn more n)
has_both lsns more n = list_any-append (λ m. n == m) lsns more

-- LSNs whose records aren't about a key tell nothing of it
reading_ignores : (log : List Rec) (lsns more table : List ℕ) (key : List Value) → IsUnread log more table key → reading log (lsns ++ more) table key ≡ reading log lsns table key
reading_ignores [] lsns more table key u = refl
reading_ignores (r ∷ log) lsns more table key u =
    let rest = reading_ignores log lsns more table key (unread_earlier r log more table key u) in
    ap (λ b. if b && is_about r.body table key then after_body (length log + 1) r.body table key None else reading log (lsns ++ more) table key) (has_both lsns more (length log + 1))
    ∙ by_cases (is_about r.body table key)
    (λ a.
    let none : has_lsn more (length log + 1) ≡ false = by_cases (has_lsn more (length log + 1)) (λ h. absurd (u.none (length log + 1) r (numbered-here r log (length log + 1) refl) a h)) (λ f. f) in
    ap (λ b. if (has_lsn lsns (length log + 1) || b) && is_about r.body table key then after_body (length log + 1) r.body table key None else reading log (lsns ++ more) table key) none
    ∙ ap (λ b. if b && is_about r.body table key then after_body (length log + 1) r.body table key None else reading log (lsns ++ more) table key) (or_none (has_lsn lsns (length log + 1)))
    ∙ ap (λ x. if has_lsn lsns (length log + 1) && is_about r.body table key then after_body (length log + 1) r.body table key None else x) rest)
    (λ f. rw f (away (has_lsn lsns (length log + 1) || has_lsn more (length log + 1)) (has_lsn lsns (length log + 1)) _ _ _ rest))
  where
    or_none : (b : Bool) → (b || false) ≡ b
    or_none true = refl
    or_none false = refl

    away : (a b : Bool) (x y z : Option Stored) → y ≡ z → (if a && false then x else y) ≡ (if b && false then x else z)
    away true true x y z same = same
    away true false x y z same = same
    away false true x y z same = same
    away false false x y z same = same

-- what a turn hands out: rows that the table has now in the range between the cursors, and all of them
pub record IsTurn (log : List Rec) (table turn : List ℕ) (behind next : List Value → Bool) : Type 0 where
  pub rows : AllByRecursion (λ lsn. IsRowNow log table lsn) turn
  pub ahead : (lsn : ℕ) (key row : List Value) → has_lsn turn lsn ≡ true → state_at log table key ≡ Some (row, lsn) → (behind key ≡ false) × (next key ≡ true)
  pub all : (lsn : ℕ) (key row : List Value) → behind key ≡ false → next key ≡ true → state_at log table key ≡ Some (row, lsn) → has_lsn turn lsn ≡ true
  pub more : (key : List Value) → behind key ≡ true → next key ≡ true

-- the record of a row that was handed out is about its key
turn_seen : (log : List Rec) (table turn : List ℕ) (behind next : List Value → Bool) (lsn : ℕ) → IsTurn log table turn behind next → has_lsn turn lsn ≡ true → IsSeen log table next lsn
turn_seen log table turn behind next lsn t has =
    let n = listed_row log table turn lsn t.rows has in
    let r = record_of log table n.key n.row lsn n.now in
    record { rec = r.rec; is = r.has_number; key = n.key; about = r.about; passed_it = (t.ahead lsn n.key n.row has n.now).1 }

turn_all_seen : (log : List Rec) (table turn some : List ℕ) (behind next : List Value → Bool) → IsTurn log table turn behind next → ((lsn : ℕ) → has_lsn some lsn ≡ true → has_lsn turn lsn ≡ true) → AllByRecursion (IsSeen log table next) some
turn_all_seen log table turn [] behind next t among = tt
turn_all_seen log table turn (lsn ∷ some) behind next t among =
    let itself : (lsn == lsn) ≡ true = grind (arith, nat_tests) in
    (turn_seen log table turn behind next lsn t (among lsn (rw itself refl)), turn_all_seen log table turn some behind next t (λ n has. among n (or_true (n == lsn) (has_lsn some n) has)))
  where
    or_true : (a b : Bool) → b ≡ true → (a || b) ≡ true
    or_true true b e = refl
    or_true false b e = e

-- a record about a key is that of the row that was handed out for it
turn_about : (log : List Rec) (table turn : List ℕ) (behind next : List Value → Bool) (n : ℕ) (r : Rec) (key : List Value) → IsTurn log table turn behind next → has_lsn turn n ≡ true → numbered log n ≡ Some r → is_about r.body table key ≡ true → (k : IsRowNow log table n) → k.key ≡ key
turn_about log table turn behind next n r key t has is about k =
    let found = record_of log table k.key k.row n k.now in
    let same : found.rec ≡ r = one found.rec r (sym found.has_number ∙ is) in
    about_one r.body table k.key key (subst (λ (x : Rec). is_about x.body table k.key ≡ true) same found.about) about
  where
    one : (a b : Rec) → Some a ≡ Some b → a ≡ b
    one a b e = cc

-- a key that was behind the cursor is told of by no row of the turn
turn_ignores : (log : List Rec) (table turn : List ℕ) (behind next : List Value → Bool) (key : List Value) → IsTurn log table turn behind next → behind key ≡ true → IsUnread log turn table key
turn_ignores log table turn behind next key t passed_it = record {
  none = λ n r is about has.
      let k = listed_row log table turn n t.rows has in
      let same = turn_about log table turn behind next n r key t has is about k in
      let away = (t.ahead n k.key k.row has k.now).0 in
      absurd (false≢true (sym away ∙ ap behind same ∙ passed_it));
}

-- what was seen before tells nothing of a key ahead
seen_ignores : (log : List Rec) (lsns table : List ℕ) (behind : List Value → Bool) (n : ℕ) (r : Rec) (key : List Value) → AllByRecursion (IsSeen log table behind) lsns → behind key ≡ false → numbered log n ≡ Some r → is_about r.body table key ≡ true → has_lsn lsns n ≡ false
seen_ignores log lsns table behind n r key all ahead is about = by_cases (has_lsn lsns n)
    (λ has.
    let s = seen_one log lsns table behind n all has in
    let same : s.rec ≡ r = one s.rec r (sym s.is ∙ is) in
    let key_is = about_one r.body table s.key key (subst (λ (x : Rec). is_about x.body table s.key ≡ true) same s.about) about in
    absurd (false≢true (sym ahead ∙ ap behind (sym key_is) ∙ s.passed_it)))
    (λ f. f)
  where
    one : (a b : Rec) → Some a ≡ Some b → a ≡ b
    one a b e = cc

-- a key in the range of the turn is read as it is now
turn_reads : (log : List Rec) (mark : ℕ) (lsns turn table : List ℕ) (behind next : List Value → Bool) (key : List Value) → IsWalked log mark lsns table behind → IsTurn log table turn behind next → behind key ≡ false → next key ≡ true → IsListed log (lsns ++ turn) table key
turn_reads log mark lsns turn table behind next key w t ahead now = record {
  saw = λ row lsn e. has_both lsns turn lsn ∙ or_second (has_lsn lsns lsn) (has_lsn turn lsn) (t.all lsn key row ahead now e);
  only = λ n r is about has.
      let old = seen_ignores log lsns table behind n r key w.seen_behind ahead is about in
      let new : has_lsn turn n ≡ true = or_rest_of (has_lsn lsns n) (has_lsn turn n) old (sym (has_both lsns turn n) ∙ has) in
      let k = listed_row log table turn n t.rows new in
      let same = turn_about log table turn behind next n r key t new is about k in
      record { row = k.row; has = ap (state_at log table) (sym same) ∙ k.now };
}
  where
    or_second : (a b : Bool) → b ≡ true → (a || b) ≡ true
    or_second true b e = refl
    or_second false b e = e

    or_rest_of : (a b : Bool) → a ≡ false → (a || b) ≡ true → b ≡ true
    or_rest_of true b d e = absurd (cc)
    or_rest_of false b d e = e

pub walked_turn : (log : List Rec) (mark : ℕ) (lsns turn table : List ℕ) (behind next : List Value → Bool) → mark ≤ length log → IsWalked log mark lsns table behind → IsTurn log table turn behind next → IsWalked log mark (lsns ++ turn) table next
walked_turn log mark lsns turn table behind next within w t = record {
  seen_behind = all_append (IsSeen log table next) lsns turn (all_each (IsSeen log table behind) (IsSeen log table next) (λ lsn s. record { rec = s.rec; is = s.is; key = s.key; about = s.about; passed_it = t.more s.key s.passed_it }) lsns w.seen_behind)
      (turn_all_seen log table turn turn behind next t (λ lsn has. has));
  covered = λ key now. by_cases (behind key)
      (λ passed_it.
      let c = w.covered key passed_it in
      record { place = c.place; from_mark = c.from_mark; until_now = c.until_now; same = reading_ignores log lsns turn table key (turn_ignores log table turn behind next key t passed_it) ∙ c.same })
      (λ ahead. record {
        place = length log;
        from_mark = within;
        until_now = omega arith;
        same = read_listed log (lsns ++ turn) table key (turn_reads log mark lsns turn table behind next key w t ahead now) ∙ sym (ap (λ l. state_at l table key) (oldest_all log));
      });
}

-- a row ahead of the cursor was not seen
pub unseen_ahead : (log : List Rec) (mark : ℕ) (lsns table : List ℕ) (behind : List Value → Bool) (key row : List Value) (lsn : ℕ) → IsWalked log mark lsns table behind → behind key ≡ false → state_at log table key ≡ Some (row, lsn) → has_lsn lsns lsn ≡ false
unseen_ahead log mark lsns table behind key row lsn w ahead now =
    let r = record_of log table key row lsn now in
    seen_ignores log lsns table behind lsn r.rec key w.seen_behind ahead r.has_number r.about
