-- Names and fronts of texts.
use Rattle.std.proofs.Common.{◌≡◌, ◌≤◌, ◌<◌, ◌+◌, ◌&&◌, ℕ, suc, Bool, true, false, nat_le, List, [], ◌∷◌, length, take, take_while, drop, Some, refl, ap, ◌∙◌, arith, inl, inr}
use Rattle.std.specs.List.{list_all, prefix_len}
use Rattle.std.proofs.lemmas.Bool.Decides.{nat_tests}
use Rattle.std.proofs.lemmas.Bool.{cases_Bool}
use Rattle.sx_values.specs.declared.text.TextFault.{TextFault}
use Rattle.sx_values.specs.TextFaults.{text_fault}
use Rattle.sx_values.specs.Texts.{is_lower, is_name, is_name_byte, is_text}
use Rattle.sx_text.proofs.FieldLaws as fields
use Rattle.sx_lang.specs.Parts.{back, front, is_short_name}

pub is_text_false : (bytes : List ℕ) (fault : TextFault) → text_fault bytes ≡ Some fault → is_text bytes ≡ false
is_text_false bytes fault e = fields.is_text_false bytes fault e

-- a name of up to 16 bytes is a name
names_parts : (a b c d : Bool) → (c ≡ true → b ≡ true) → (a && c && d) ≡ ((a && b && d) && c)
names_parts true true true true h = refl
names_parts true true true false h = refl
names_parts true true false true h = refl
names_parts true true false false h = refl
names_parts true false true d h = let t = h refl in absurd (cc)
names_parts true false false d h = refl
names_parts false b c d h = refl

name_lengths : (bytes : List ℕ) → is_short_name bytes ≡ (is_name bytes && nat_le (length bytes) 16)
name_lengths [] = refl
name_lengths (b ∷ rest) =
    let same : nat_le (length rest) 15 ≡ nat_le (suc (length rest)) 16 = grind (arith, nat_tests) in
    names_parts (is_lower b) (nat_le (length rest) 31) (nat_le (length rest) 15) (list_all is_name_byte rest) (λ t. grind (arith, nat_tests))
    ∙ ap (λ t. (is_lower b && nat_le (length rest) 31 && list_all is_name_byte rest) && t) same

and_false : (a b : Bool) → b ≡ false → (a && b) ≡ false
and_false true b e = e
and_false false b e = refl

pub long_name : (bytes : List ℕ) → 16 < length bytes → is_short_name bytes ≡ false
long_name bytes h = let t : nat_le (length bytes) 16 ≡ false = grind (arith, nat_tests) in name_lengths bytes ∙ and_false (is_name bytes) (nat_le (length bytes) 16) t

pub short_name : (bytes : List ℕ) → length bytes ≤ 16 → is_name bytes ≡ true → is_short_name bytes ≡ true
short_name bytes h e = let t : nat_le (length bytes) 16 ≡ true = grind (arith, nat_tests) in name_lengths bytes ∙ rw (e, t) refl

pub bad_name : (bytes : List ℕ) → is_name bytes ≡ false → is_short_name bytes ≡ false
bad_name bytes e = name_lengths bytes ∙ rw e refl

-- the front of a text by its length, as a chain counts it
length_front : (p : ℕ → Bool) (text : List ℕ) → length (take_while p text) ≡ length (front p text)
length_front p [] = refl
length_front p (b ∷ rest) = elim (cases_Bool (p b)) [
  | inl passes ↦ let one : 1 + prefix_len p rest ≡ suc (prefix_len p rest) = omega arith in rw (passes, one) (ap suc (length_front p rest))
  | inr stops ↦ rw stops refl
]

take_length : (p : ℕ → Bool) (text : List ℕ) → take (length (front p text)) text ≡ front p text
take_length p [] = refl
take_length p (b ∷ rest) = elim (cases_Bool (p b)) [
  | inl passes ↦ rw passes (ap (λ l. b ∷ l) (take_length p rest))
  | inr stops ↦ rw stops refl
]

drop_length : (p : ℕ → Bool) (text : List ℕ) → drop (length (front p text)) text ≡ back p text
drop_length p [] = refl
drop_length p (b ∷ rest) = elim (cases_Bool (p b)) [
  | inl passes ↦ rw passes (drop_length p rest)
  | inr stops ↦ rw stops refl
]

le_length : (p : ℕ → Bool) (text : List ℕ) → length (front p text) ≤ length text
le_length p [] = omega arith
le_length p (b ∷ rest) = elim (cases_Bool (p b)) [
  | inl passes ↦ let h = le_length p rest in rw passes (omega arith)
  | inr stops ↦ rw stops (omega arith)
]

pub take_front : (p : ℕ → Bool) (text : List ℕ) → take (length (take_while p text)) text ≡ front p text
take_front p text = ap (λ n. take n text) (length_front p text) ∙ take_length p text

pub drop_front : (p : ℕ → Bool) (text : List ℕ) → drop (length (take_while p text)) text ≡ back p text
drop_front p text = ap (λ n. drop n text) (length_front p text) ∙ drop_length p text

pub front_le : (p : ℕ → Bool) (text : List ℕ) → length (take_while p text) ≤ length text
front_le p text = let e = length_front p text in let h = le_length p text in omega arith
