-- Fields and the values that they show.
use Rattle.std.proofs.Common.{◌≡◌, ◌≤◌, ◌<◌, ◌+◌, ◌==◌, ◌&&◌, ◌++◌, ℕ, zero, suc, Bool, true, false, not, cond, nat_lt, nat_le, List, [], ◌∷◌, length, drop, drop-cons, get_or, Option, Some, None, option_map, slice_get, Result, Ok, Err, refl, sym, ap, ◌∙◌, arith, position}
use Rattle.std.specs.List.{filter_map, list_all, prefix_len}
use Rattle.std.specs.Cmp.Lexicographic.{pointwise}
use Rattle.std.proofs.lemmas.Bool.Decides.{nat_tests}
use Rattle.std.proofs.lemmas.List.{append_assoc}
use Rattle.std.proofs.lemmas.Option.{slice_get-get_or}
use Rattle.csv.specs.Machine.{Read}
use Rattle.csv.specs.Records.{field_at}
use Rattle.sx_values.specs.declared.text.TextFault.{TextFault}
use Rattle.sx_values.specs.declared.value.Value.{Value}
use Rattle.sx_values.specs.declared.schema.Kind.{Kind}
use Rattle.sx_values.specs.declared.schema.Column.{Column}
use Rattle.sx_values.specs.Texts.{is_printable, is_text, null_word}
use Rattle.sx_values.specs.TextFaults.{text_fault}
use Rattle.sx_text.specs.declared.fault.FieldFault.{FieldFault}
use Rattle.sx_text.specs.declared.fault.FieldFault.TheVariants as fault
use Rattle.sx_text.specs.Records.{fields_given}
use Rattle.sx_text.specs.Reading.{kinds_of, value_before, value_of, values_from}

-- ---- the fields of a record

pub drop-field : (fields : List (List ℕ)) (i : ℕ) (x : List ℕ) → field_at fields i ≡ Some x → drop i fields ≡ x ∷ drop (suc i) fields
unfolding field_at
drop-field [] i x e = absurd (cc)
drop-field (f ∷ fields) zero x e = ap (λ y. y ∷ fields) (cc)
drop-field (f ∷ fields) (suc i) x e = drop-field fields i x e

pub drop-past : (fields : List (List ℕ)) (i : ℕ) → field_at fields i ≡ None → drop i fields ≡ []
unfolding field_at
drop-past [] zero e = refl
drop-past [] (suc i) e = refl
drop-past (f ∷ fields) zero e = absurd (cc)
drop-past (f ∷ fields) (suc i) e = drop-past fields i e

pub given_fields : (read : Option Read) (fields : List (List ℕ)) → Some fields ≡ option_map (λ p. p.0) read → fields ≡ fields_given read
given_fields None fields e = absurd (cc)
given_fields (Some p) fields e = cc

pub none_given : (read : Option Read) → None ≡ option_map (λ p. p.0) read → fields_given read ≡ []
none_given None e = refl
none_given (Some p) e = absurd (cc)

-- the kind of a column that was found
pub kind_found : (columns : List Column) (place : ℕ) (places : List ℕ) (column : Column) → slice_get columns place ≡ Some column
    → kinds_of (filter_map (slice_get columns) (place ∷ places)) ≡ column.kind ∷ kinds_of (filter_map (slice_get columns) places)
kind_found columns place places column e = rw e refl

-- one more kind is taken from the front
pub kind_taken : (front : List Kind) (columns : List Column) (places : List ℕ) (i : ℕ) (d : Column) → i < length places → get_or places i 0 < length columns
    → (front ++ (get_or columns (get_or places i 0) d).kind ∷ []) ++ kinds_of (filter_map (slice_get columns) (drop (suc i) places))
    ≡ front ++ kinds_of (filter_map (slice_get columns) (drop i places))
kind_taken front columns places i d within there =
    let place = get_or places i 0 in
    let rest = drop (suc i) places in
    let column = get_or columns place d in
    let one = kind_found columns place rest column (slice_get-get_or columns place d there) in
    append_assoc front (column.kind ∷ []) (kinds_of (filter_map (slice_get columns) rest))
    ∙ ap (λ (kinds : List Kind). front ++ kinds) (sym one ∙ ap (λ (ps : List ℕ). kinds_of (filter_map (slice_get columns) ps)) (sym (drop-cons places i 0 within)))

-- ---- texts

and_parts : (a b c : Bool) → (a && b && not c) ≡ true → (a ≡ true) × (b ≡ true) × (c ≡ false)
and_parts true true true e = absurd (cc)
and_parts true true false e = (refl, refl, refl)
and_parts true false c e = absurd (cc)
and_parts false b c e = absurd (cc)

and_left : (a b : Bool) → (a && b) ≡ true → (a ≡ true) × (b ≡ true)
and_left true true e = (refl, refl)
and_left true false e = absurd (cc)
and_left false b e = absurd (cc)

length-prefix : (p : ℕ → Bool) (xs : List ℕ) → list_all p xs ≡ true → length xs ≤ prefix_len (λ x. not (not (p x))) xs
length-prefix p [] e = omega arith
length-prefix p (x ∷ xs) e =
    let both = and_left (p x) (list_all p xs) e in
    let more = length-prefix p xs both.1 in
    rw both.0 (omega arith)

no_position : (a b : ℕ) → b ≤ a → cond (nat_lt a b) (Some a) None ≡ None
no_position a b h = let t : nat_lt a b ≡ false = grind (arith, nat_tests) in rw t refl

-- none of the bytes is the first that isn't printable
all_printable : (bytes : List ℕ) → list_all is_printable bytes ≡ true → position (λ b. not (is_printable b)) bytes ≡ None
all_printable bytes e = no_position (prefix_len (λ b. not (not (is_printable b))) bytes) (length bytes) (length-prefix is_printable bytes e)

-- a text has no fault
pub text_fault-None : (bytes : List ℕ) → is_text bytes ≡ true → text_fault bytes ≡ None
text_fault-None bytes e =
    let parts = and_parts (nat_le (length bytes) 64) (list_all is_printable bytes) (pointwise ◌==◌ bytes null_word) e in
    let short : nat_lt 64 (length bytes) ≡ false = (let s = parts.0 in grind (arith, nat_tests)) in
    rw (short, all_printable bytes parts.1, parts.2) refl

not_true : (t : Bool) → (t ≡ true → ⊥) → t ≡ false
not_true true never = absurd (never refl)
not_true false never = refl

-- what has a fault is no text
pub is_text_false : (bytes : List ℕ) (fault : TextFault) → text_fault bytes ≡ Some fault → is_text bytes ≡ false
is_text_false bytes fault e = not_true (is_text bytes) (λ t. let n = text_fault-None bytes t in cc)

-- ---- the values of fields

-- values before those that were read behind them
abbrev pub with_front : List Value → Result (List Value) FieldFault → Result (List Value) FieldFault
with_front front (Ok values) = Ok (front ++ values)
with_front front (Err fault) = Err fault

front_before : (number : ℕ) (front : List Value) (value : Value) (behind : Result (List Value) FieldFault) → with_front front (value_before number (Some value) behind) ≡ with_front (front ++ value ∷ []) behind
front_before number front value (Ok values) = ap Ok (sym (append_assoc front (value ∷ []) values))
front_before number front value (Err fault) = refl

-- one more field shows a value
pub one_more : (front : List Value) (number : ℕ) (kinds : List Kind) (fields : List (List ℕ)) (kind : Kind) (field : List ℕ) (value : Value)
    → value_of kind field ≡ Some value
    → with_front front (values_from number (kind ∷ kinds) (field ∷ fields)) ≡ with_front (front ++ value ∷ []) (values_from (number + 1) kinds fields)
one_more front number kinds fields kind field value e = rw e (front_before number front value (values_from (number + 1) kinds fields))

-- a field that shows none
pub at_fault : (front : List Value) (number : ℕ) (kinds : List Kind) (fields : List (List ℕ)) (kind : Kind) (field : List ℕ)
    → value_of kind field ≡ None
    → with_front front (values_from number (kind ∷ kinds) (field ∷ fields)) ≡ Err (fault.Value number)
at_fault front number kinds fields kind field e = rw e refl
