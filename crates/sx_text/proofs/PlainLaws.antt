-- A record without quotes is the fields between its commas.
use Rattle.std.proofs.Common.{◌≡◌, ◌≤◌, ◌<◌, ◌==◌, ◌&&◌, ◌||◌, ◌++◌, ℕ, suc, Bool, true, false, List, [], ◌∷◌, length, Some, None, refl, sym, ap, ◌∙◌, arith, position, take, drop, inl, inr, eqb-true, if◌then◌else◌}
use Rattle.std.specs.List.{list_all, list_any}
use Rattle.std.proofs.lemmas.Bool.Decides.{nat_tests}
use Rattle.std.proofs.lemmas.Bool.{cases_Bool}
use Rattle.std.proofs.lemmas.List.{append-nil, append_assoc}
use Rattle.csv.specs.Machine.{next_record}
use Rattle.csv.specs.Reading.{default_config, strip_bom}
use Rattle.csv.specs.declared.parser.State.TheVariants as st
use Rattle.sx_values.specs.Texts.{is_printable}
use Rattle.sx_text.specs.Words.{before, behind}
use Rattle.sx_text.specs.Records.{record_fields}
use Rattle.sx_text.proofs.WordLaws.{parted_at, place, placed, unplaced}

-- what stands between the commas of a text, of which a front of the first piece was read
abbrev pub pieces : List ℕ → List ℕ → List (List ℕ)
pieces front [] = front ∷ []
pieces front (b ∷ rest) = if b == 44 then front ∷ pieces [] rest else pieces (front ++ b ∷ []) rest

-- a byte that csv takes as it is, but for a comma
record Plain (b : ℕ) : Type 0 where
  quote : (b == 34) ≡ false
  return : (b == 13) ≡ false
  feed : (b == 10) ≡ false
  mark : (b == 0xEF) ≡ false

plain : (b : ℕ) → is_printable b ≡ true → (b == 34) ≡ false → Plain b
plain b printable unquoted =
    let low : 0x20 ≤ b = grind (arith, nat_tests) in
    let high : b ≤ 0x7E = grind (arith, nat_tests) in
    record { quote = unquoted; return = grind (arith, nat_tests); feed = grind (arith, nat_tests); mark = grind (arith, nat_tests) }

abbrev AllPlain : List ℕ → Type 0
AllPlain [] = Unit {0}
AllPlain (b ∷ rest) = Plain b × AllPlain rest

and_left : (a b : Bool) → (a && b) ≡ true → (a ≡ true) × (b ≡ true)
and_left true true e = (refl, refl)
and_left true false e = absurd (cc)
and_left false b e = absurd (cc)

neither : (a b : Bool) → (a || b) ≡ false → (a ≡ false) × (b ≡ false)
neither true b e = absurd (cc)
neither false b e = (refl, e)

all_plain : (text : List ℕ) → list_all is_printable text ≡ true → list_any (λ b. b == 34) text ≡ false → AllPlain text
all_plain [] printable unquoted = tt
all_plain (b ∷ rest) printable unquoted =
    let p = and_left (is_printable b) (list_all is_printable rest) printable in
    let u = neither (b == 34) (list_any (λ c. c == 34) rest) unquoted in
    (plain b p.0 u.0, all_plain rest p.1 u.1)

-- ---- csv's reader over plain bytes

start-plain : (fields : List (List ℕ)) (front text : List ℕ) → AllPlain text
    → next_record default_config st.StartField fields front text ≡ next_record default_config st.InField fields front text
unfolding next_record
start-plain fields front [] p = refl
start-plain fields front (b ∷ rest) p = rw p.0.quote refl

plain-run : (fields : List (List ℕ)) (front text : List ℕ) → AllPlain text
    → next_record default_config st.InField fields front text ≡ Some (fields ++ pieces front text, st.StartRecord, [])
unfolding next_record
plain-run fields front [] p = refl
plain-run fields front (b ∷ rest) p = elim (cases_Bool (b == 44)) [
  | inl comma ↦
      rw comma (start-plain (fields ++ front ∷ []) [] rest p.1 ∙ plain-run (fields ++ front ∷ []) [] rest p.1
      ∙ ap (λ (f : List (List ℕ)). Some (f, st.StartRecord, [])) (append_assoc fields (front ∷ []) (pieces [] rest)))
  | inr other ↦ rw (other, p.0.return, p.0.feed) (plain-run fields (front ++ b ∷ []) rest p.1)
]

record-plain : (b : ℕ) (rest : List ℕ) → AllPlain (b ∷ rest)
    → next_record default_config st.StartRecord [] [] (b ∷ rest) ≡ next_record default_config st.InField [] [] (b ∷ rest)
unfolding next_record
record-plain b rest p = rw (p.0.return, p.0.feed, p.0.quote) refl

pub no_fields : (text : List ℕ) → (length text == 0) ≡ true → record_fields text ≡ []
unfolding next_record
no_fields [] e = refl
no_fields (b ∷ rest) e = let n = eqb-true (suc (length rest)) 0 e in absurd (omega arith)

-- a record without quotes is the pieces between its commas
pub plain_record : (text : List ℕ) → list_all is_printable text ≡ true → list_any (λ b. b == 34) text ≡ false → (length text == 0) ≡ false
    → record_fields text ≡ pieces [] text
plain_record [] printable unquoted some = absurd (cc)
plain_record (b ∷ rest) printable unquoted some =
    let p = all_plain (b ∷ rest) printable unquoted in
    rw (record-plain b rest p, plain-run [] [] (b ∷ rest) p) refl

-- printable bytes begin with no byte order mark
pub strip_bom_printable : (text : List ℕ) → list_all is_printable text ≡ true → strip_bom text ≡ text
unfolding strip_bom
strip_bom_printable [] printable = refl
strip_bom_printable (a ∷ []) printable = refl
strip_bom_printable (a ∷ b ∷ []) printable = refl
strip_bom_printable (a ∷ b ∷ c ∷ rest) printable =
    let p = and_left (is_printable a) (list_all is_printable (b ∷ c ∷ rest)) printable in
    let no_mark : (a == 0xEF) ≡ false = (let q = p.0 in grind (arith, nat_tests)) in
    rw no_mark refl

-- ---- the pieces at the next comma

pieces-some : (front xs : List ℕ) → place 44 xs < length xs → pieces front xs ≡ (front ++ before 44 xs) ∷ pieces [] (behind 44 xs)
pieces-some front [] h = absurd (omega arith)
pieces-some front (b ∷ rest) h = elim (cases_Bool (b == 44)) [
  | inl comma ↦ rw comma (ap (λ (f : List ℕ). f ∷ pieces [] rest) (sym (append-nil front)))
  | inr other ↦
      let more = rw other at h in
      rw other (pieces-some (front ++ b ∷ []) rest (omega arith)
      ∙ ap (λ (f : List ℕ). f ∷ pieces [] (behind 44 rest)) (append_assoc front (b ∷ []) (before 44 rest)))
]

pieces-none : (front xs : List ℕ) → length xs ≤ place 44 xs → pieces front xs ≡ (front ++ xs) ∷ []
pieces-none front [] h = ap (λ (f : List ℕ). f ∷ []) (sym (append-nil front))
pieces-none front (b ∷ rest) h = elim (cases_Bool (b == 44)) [
  | inl comma ↦ let less = rw comma at h in absurd (omega arith)
  | inr other ↦
      let more = rw other at h in
      rw other (pieces-none (front ++ b ∷ []) rest (omega arith) ∙ ap (λ (f : List ℕ). f ∷ []) (append_assoc front (b ∷ []) rest))
]

pub next_piece : (xs : List ℕ) (k : ℕ) → position (λ b. b == 44) xs ≡ Some k → pieces [] xs ≡ take k xs ∷ pieces [] (drop 1 (drop k xs))
next_piece xs k e =
    let parts = parted_at 44 xs k e in
    rw (parts.front, parts.back) (pieces-some [] xs (placed 44 xs k e))

pub last_piece : (xs : List ℕ) → position (λ b. b == 44) xs ≡ None → pieces [] xs ≡ xs ∷ []
last_piece xs e = pieces-none [] xs (unplaced 44 xs e)

-- one more piece is taken from the front
pub piece_taken : (taken : List (List ℕ)) (xs : List ℕ) (k : ℕ) → position (λ b. b == 44) xs ≡ Some k
    → (taken ++ take k xs ∷ []) ++ pieces [] (drop 1 (drop k xs)) ≡ taken ++ pieces [] xs
piece_taken taken xs k e = append_assoc taken (take k xs ∷ []) (pieces [] (drop 1 (drop k xs))) ∙ ap (λ (p : List (List ℕ)). taken ++ p) (sym (next_piece xs k e))
