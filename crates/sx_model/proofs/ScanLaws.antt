-- A scan that saw each row that its table has, and those alone, has read the state.
use Rattle.std.proofs.Common.{◌≡◌, ◌≤◌, ◌+◌, ◌-◌, ◌&&◌, ℕ, true, false, List, [], ◌∷◌, length, drop, Option, Some, None, refl, sym, ap, ◌∙◌, subst, arith, eqb-true}
use Rattle.std.specs.Prelude.{nat_eq}
use Rattle.std.specs.List.{AllByRecursion}
use Rattle.sx_lists.specs.Places.{numbered}
use Rattle.sx_values.specs.declared.value.Value.{Value}
use Rattle.sx_log.specs.declared.record.Rec.{Rec}
use Rattle.sx_log.specs.State.{Stored, stored, after_body, oldest, state_at}
use Rattle.sx_model.specs.Scans.{is_about, has_lsn, reading, Covers, IsRowNow, SawAll}
use Rattle.sx_model.proofs.StateLaws.{image_of, after_elsewhere, after_there}
use Rattle.sx_model.proofs.TestLaws.{by_cases, chosen, passed, and_false_first, and_false_second, and_both, or_rest}
use Rattle.sx_model.proofs.LsnLaws.{record_of, about_one, numbered_within, numbered-here, numbered-earlier}

-- no listed LSN is that of a record about a key
pub record IsUnread (log : List Rec) (lsns table : List ℕ) (key : List Value) : Type 0 where
  pub none : (n : ℕ) (r : Rec) → numbered log n ≡ Some r → is_about r.body table key ≡ true → has_lsn lsns n ≡ true → ⊥

pub unread_earlier : (r : Rec) (past : List Rec) (lsns table : List ℕ) (key : List Value) → IsUnread (r ∷ past) lsns table key → IsUnread past lsns table key
unread_earlier r past lsns table key u = record { none = λ n x e. u.none n x (numbered-earlier r past n (numbered_within past n x e) ∙ e) }

reading_skips : (r : Rec) (past : List Rec) (lsns table : List ℕ) (key : List Value) → (has_lsn lsns (length past + 1) && is_about r.body table key) ≡ false → reading (r ∷ past) lsns table key ≡ reading past lsns table key
reading_skips r past lsns table key e = passed (has_lsn lsns (length past + 1) && is_about r.body table key) (after_body (length past + 1) r.body table key None) (reading past lsns table key) e

-- of a key without a listed record nothing was read
pub reading_none : (log : List Rec) (lsns table : List ℕ) (key : List Value) → IsUnread log lsns table key → reading log lsns table key ≡ None
reading_none [] lsns table key u = refl
reading_none (r ∷ past) lsns table key u =
    let skipped : (has_lsn lsns (length past + 1) && is_about r.body table key) ≡ false =
    by_cases (has_lsn lsns (length past + 1)) (λ h. by_cases (is_about r.body table key) (λ a. absurd (u.none (length past + 1) r (numbered-here r past (length past + 1) refl) a h)) (and_false_second (has_lsn lsns (length past + 1)) (is_about r.body table key))) (and_false_first (has_lsn lsns (length past + 1)) (is_about r.body table key)) in
    reading_skips r past lsns table key skipped ∙ reading_none past lsns table key (unread_earlier r past lsns table key u)

-- the row that a key has
pub record HasRow (log : List Rec) (table : List ℕ) (key : List Value) (lsn : ℕ) : Type 0 where
  pub row : List Value
  pub has : state_at log table key ≡ Some (row, lsn)

-- what the listed LSNs say of a key: that of its row is listed, and no other one of its records
pub record IsListed (log : List Rec) (lsns table : List ℕ) (key : List Value) : Type 0 where
  pub saw : (row : List Value) (lsn : ℕ) → state_at log table key ≡ Some (row, lsn) → has_lsn lsns lsn ≡ true
  pub only : (n : ℕ) (r : Rec) → numbered log n ≡ Some r → is_about r.body table key ≡ true → has_lsn lsns n ≡ true → HasRow log table key n

-- where the newest record left a key's row, its LSN is listed and it is read
read_here : (r : Rec) (past : List Rec) (lsns table : List ℕ) (key : List Value) → IsListed (r ∷ past) lsns table key → is_about r.body table key ≡ true → reading (r ∷ past) lsns table key ≡ state_at (r ∷ past) table key
read_here r past lsns table key l about = by_image (image_of r.body) refl
  where
    there : (earlier : Option Stored) → after_body (length past + 1) r.body table key earlier ≡ stored (length past + 1) (image_of r.body)
    there earlier = after_there (length past + 1) r.body table key earlier about

    listed : (row : List Value) → image_of r.body ≡ Some row → has_lsn lsns (length past + 1) ≡ true
    listed row e = l.saw row (length past + 1) (there (state_at past table key) ∙ ap (stored (length past + 1)) e)

    absent : image_of r.body ≡ None → IsUnread (r ∷ past) lsns table key
    absent e =
        let nothing : state_at (r ∷ past) table key ≡ None = there (state_at past table key) ∙ ap (stored (length past + 1)) e in
        record { none = λ n x m a h. (let some = (l.only n x m a h).has in cc) }

    by_image : (image : Option (List Value)) → image_of r.body ≡ image → reading (r ∷ past) lsns table key ≡ state_at (r ∷ past) table key
    by_image (Some row) e =
        chosen (has_lsn lsns (length past + 1) && is_about r.body table key) (after_body (length past + 1) r.body table key None) (reading past lsns table key) (and_both (has_lsn lsns (length past + 1)) (is_about r.body table key) (listed row e) about)
        ∙ (there None ∙ sym (there (state_at past table key)))
    by_image None e = reading_none (r ∷ past) lsns table key (absent e) ∙ sym (there (state_at past table key) ∙ ap (stored (length past + 1)) e)

listed_earlier : (r : Rec) (past : List Rec) (lsns table : List ℕ) (key : List Value) → is_about r.body table key ≡ false → IsListed (r ∷ past) lsns table key → IsListed past lsns table key
listed_earlier r past lsns table key about l =
    let same = after_elsewhere (length past + 1) r.body table key (state_at past table key) about in
    record {
      saw = λ row lsn e. l.saw row lsn (same ∙ e);
      only = λ n x e a h. let f = l.only n x (numbered-earlier r past n (numbered_within past n x e) ∙ e) a h in record { row = f.row; has = sym same ∙ f.has };
    }

-- what the listed LSNs say of a key is what it has
pub read_listed : (log : List Rec) (lsns table : List ℕ) (key : List Value) → IsListed log lsns table key → reading log lsns table key ≡ state_at log table key
read_listed [] lsns table key l = refl
read_listed (r ∷ past) lsns table key l =
    by_cases (is_about r.body table key) (read_here r past lsns table key l) (λ a.
    reading_skips r past lsns table key (and_false_second (has_lsn lsns (length past + 1)) (is_about r.body table key) a)
    ∙ (read_listed past lsns table key (listed_earlier r past lsns table key a l) ∙ sym (after_elsewhere (length past + 1) r.body table key (state_at past table key) a)))

-- a listed LSN is that of a row that the table has
pub listed_row : (log : List Rec) (table lsns : List ℕ) (n : ℕ) → AllByRecursion (IsRowNow log table) lsns → has_lsn lsns n ≡ true → IsRowNow log table n
listed_row log table [] n all e = absurd (cc)
listed_row log table (lsn ∷ lsns) n all e =
    by_cases (nat_eq n lsn) (λ same. subst (IsRowNow log table) (sym (eqb-true n lsn same)) all.0) (λ other. listed_row log table lsns n all.1 (or_rest (nat_eq n lsn) (has_lsn lsns n) other e))

-- a record about a key whose LSN is that of a row that the table has left the key's row
pub row_of_record : (log : List Rec) (table : List ℕ) (key : List Value) (n : ℕ) (r : Rec) → IsRowNow log table n → numbered log n ≡ Some r → is_about r.body table key ≡ true → HasRow log table key n
row_of_record log table key n r now m about =
    let f = record_of log table now.key now.row n now.now in
    let p = f.has_number in
    let same : f.rec ≡ r = cc in
    let one = about_one r.body table now.key key (subst (λ (x : Rec). is_about x.body table now.key ≡ true) same f.about) about in
    record { row = now.row; has = subst (λ k. state_at log table k ≡ Some (now.row, n)) one now.now }

-- so the listed LSNs say of each key what its row is
listed : (log : List Rec) (lsns table : List ℕ) (key : List Value) → AllByRecursion (IsRowNow log table) lsns → SawAll log lsns table → IsListed log lsns table key
listed log lsns table key all saw = record {
  saw = λ row lsn e. saw key row lsn e;
  only = λ n r m about h. row_of_record log table key n r (listed_row log table lsns n all h) m about;
}

-- a scan that saw each row that the table has, and those alone, has read the state
pub reading_whole : (log : List Rec) (lsns table : List ℕ) → AllByRecursion (IsRowNow log table) lsns → SawAll log lsns table → (key : List Value) → reading log lsns table key ≡ state_at log table key
reading_whole log lsns table all saw key = read_listed log lsns table key (listed log lsns table key all saw)

pub oldest_all : (log : List Rec) → oldest (length log) log ≡ log
oldest_all log = let e : length log - length log ≡ 0 = omega arith in ap (λ n. drop n log) e

-- and so it covers the table from every mark on
pub covers_whole : (log : List Rec) (mark : ℕ) (lsns table : List ℕ) → mark ≤ length log → AllByRecursion (IsRowNow log table) lsns → SawAll log lsns table → Covers log mark lsns table
covers_whole log mark lsns table h all saw key = record {
  place = length log;
  from_mark = h;
  until_now = omega arith;
  same = reading_whole log lsns table all saw key ∙ ap (λ l. state_at l table key) (sym (oldest_all log));
}
