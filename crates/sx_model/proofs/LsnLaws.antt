-- Whose LSN a row has: that of the record about its key with that number.
use Rattle.std.proofs.Common.{◌≡◌, ◌≤◌, ◌+◌, ℕ, true, List, [], ◌∷◌, length, Option, Some, None, refl, sym, ap, ◌∙◌, subst, arith, Ordering, Less, Equal, Greater, is_eq}
use Rattle.std.proofs.lemmas.Bool.Decides.{nat_tests}
use Rattle.sx_lists.specs.Places.{numbered}
use Rattle.sx_values.specs.declared.value.Value.{Value}
use Rattle.sx_values.specs.Names.{same_name}
use Rattle.sx_values.specs.Values.{values_cmp, values_eq}
use Rattle.sx_values.proofs.KeyLaws.{values_tie}
use Rattle.sx_log.specs.declared.record.Rec.{Rec}
use Rattle.sx_log.specs.declared.record.Body.{Body}
use Rattle.sx_log.specs.declared.record.Body.TheVariants.{Write, Undo, Commit, Abort, Mark, Check, Switch}
use Rattle.sx_log.specs.State.{Stored, stored, state_at}
use Rattle.sx_model.specs.Scans.{is_about}
use Rattle.sx_model.proofs.StateLaws.{image_of, after_elsewhere, after_there}
use Rattle.sx_model.proofs.TestLaws.{and_second, by_cases}

-- the record of a row's LSN
pub record IsRecordOf (log : List Rec) (table : List ℕ) (key row : List Value) (lsn : ℕ) : Type 0 where
  pub first : 1 ≤ lsn
  pub last : lsn ≤ length log
  pub rec : Rec
  pub has_number : numbered log lsn ≡ Some rec
  pub about : is_about rec.body table key ≡ true
  pub image : image_of rec.body ≡ Some row

pub record Halves (lsn n : ℕ) (image : Option (List Value)) (row : List Value) : Type 0 where
  pub same_lsn : lsn ≡ n
  pub same_row : image ≡ Some row

pub halves : (lsn n : ℕ) (image : Option (List Value)) (row : List Value) → stored n image ≡ Some (row, lsn) → Halves lsn n image row
halves lsn n None row e = absurd (cc)
halves lsn n (Some r) row e =
    let pair : ◌≡◌ {A = Stored} (r, n) (row, lsn) = cc in
    record { same_lsn = sym (ap (λ (s : Stored). s.1) pair); same_row = ap (λ (s : Stored). Some s.0) pair }

pub numbered-here : (r : Rec) (past : List Rec) (n : ℕ) → n ≡ length past + 1 → numbered (r ∷ past) n ≡ Some r
numbered-here r past n e = grind (arith, nat_tests)

pub numbered-earlier : (r : Rec) (past : List Rec) (n : ℕ) → n ≤ length past → numbered (r ∷ past) n ≡ numbered past n
numbered-earlier r past n h = grind (arith, nat_tests)

pub numbered_within : (log : List Rec) (n : ℕ) (r : Rec) → numbered log n ≡ Some r → n ≤ length log
numbered_within [] n r e = absurd (cc)
numbered_within (x ∷ past) n r e = let more = numbered_within past n r in grind (arith, nat_tests)

-- a row that the newest record left
record_here : (r : Rec) (past : List Rec) (table : List ℕ) (key row : List Value) (lsn : ℕ) → state_at (r ∷ past) table key ≡ Some (row, lsn) → is_about r.body table key ≡ true → IsRecordOf (r ∷ past) table key row lsn
record_here r past table key row lsn e about =
    let h = halves lsn (length past + 1) (image_of r.body) row (sym (after_there (length past + 1) r.body table key (state_at past table key) about) ∙ e) in
    let l = h.same_lsn in
    record {
      first = omega arith;
      last = omega arith;
      rec = r;
      has_number = numbered-here r past lsn l;
      about = about;
      image = h.same_row;
    }

-- a record of an older log is one of the log
record_earlier : (r : Rec) (past : List Rec) (table : List ℕ) (key row : List Value) (lsn : ℕ) → IsRecordOf past table key row lsn → IsRecordOf (r ∷ past) table key row lsn
record_earlier r past table key row lsn f =
    let within = f.last in
    record {
      first = f.first;
      last = omega arith;
      rec = f.rec;
      has_number = numbered-earlier r past lsn within ∙ f.has_number;
      about = f.about;
      image = f.image;
    }

-- a row that a key has came with the record of its LSN
pub record_of : (log : List Rec) (table : List ℕ) (key row : List Value) (lsn : ℕ) → state_at log table key ≡ Some (row, lsn) → IsRecordOf log table key row lsn
record_of [] table key row lsn e = absurd (cc)
record_of (r ∷ past) table key row lsn e =
    by_cases (is_about r.body table key) (record_here r past table key row lsn e) (λ a.
    record_earlier r past table key row lsn (record_of past table key row lsn (sym (after_elsewhere (length past + 1) r.body table key (state_at past table key) a) ∙ e)))

-- an LSN is from 1 to the log's length
pub lsn_from_one : (log : List Rec) (table : List ℕ) (key row : List Value) (lsn : ℕ) → state_at log table key ≡ Some (row, lsn) → 1 ≤ lsn
lsn_from_one log table key row lsn e = (record_of log table key row lsn e).first

pub lsn_within : (log : List Rec) (table : List ℕ) (key row : List Value) (lsn : ℕ) → state_at log table key ≡ Some (row, lsn) → lsn ≤ length log
lsn_within log table key row lsn e = (record_of log table key row lsn e).last

tie_from_eq : (r : Ordering) → is_eq r ≡ true → r ≡ Equal
tie_from_eq Less e = absurd (cc)
tie_from_eq Equal e = refl
tie_from_eq Greater e = absurd (cc)

-- keys that are equal by their order are one key
pub values_eq_tells : (key other : List Value) → values_eq key other ≡ true → key ≡ other
values_eq_tells key other e = values_tie key other (tie_from_eq (values_cmp key other) e)

-- a record is about one key of a table
pub about_one : (body : Body) (table : List ℕ) (key other : List Value) → is_about body table key ≡ true → is_about body table other ≡ true → key ≡ other
unfolding is_about
about_one (Write written at before after) table key other d e =
    sym (values_eq_tells at key (and_second (same_name written table) (values_eq at key) d)) ∙ values_eq_tells at other (and_second (same_name written table) (values_eq at other) e)
about_one (Undo undoes written at before after) table key other d e =
    sym (values_eq_tells at key (and_second (same_name written table) (values_eq at key) d)) ∙ values_eq_tells at other (and_second (same_name written table) (values_eq at other) e)
about_one Commit table key other d e = absurd (cc)
about_one Abort table key other d e = absurd (cc)
about_one Mark table key other d e = absurd (cc)
about_one (Check group dep) table key other d e = absurd (cc)
about_one Switch table key other d e = absurd (cc)

-- two keys of one table that have one LSN are one key
pub one_key : (log : List Rec) (table : List ℕ) (key other row shown : List Value) (lsn : ℕ) → state_at log table key ≡ Some (row, lsn) → state_at log table other ≡ Some (shown, lsn) → key ≡ other
one_key log table key other row shown lsn d e =
    let f = record_of log table key row lsn d in
    let g = record_of log table other shown lsn e in
    let p = f.has_number in
    let q = g.has_number in
    let same : f.rec ≡ g.rec = cc in
    about_one g.rec.body table key other (subst (λ (r : Rec). is_about r.body table key ≡ true) same f.about) g.about
