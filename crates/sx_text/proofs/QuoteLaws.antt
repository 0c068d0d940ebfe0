-- Fields without quotes, as csv's writer writes them.
use Rattle.std.proofs.Common.{◌≡◌, ◌<◌, ◌+◌, ◌==◌, ◌||◌, ◌++◌, ℕ, suc, drop, get_or, arith, Bool, true, false, List, [], ◌∷◌, length, refl, sym, ap, ◌∙◌, if◌then◌else◌}
use Rattle.std.proofs.Math.Seq.{drop-cons}
use Rattle.std.proofs.lemmas.List.{append-nil, append_assoc}
use Rattle.csv.specs.Writing.{default_writer, needs_byte, field_text, fields_text, is_blank, quoted, row_body}
use Rattle.sx_values.specs.declared.value.Value.{Value}
use Rattle.sx_text.specs.Records.{BeginsWith, IsPlain, record_of}

or_none : (a b c d : Bool) → (a || b || c || d) ≡ (a || b || (c || d) || false || false)
or_none true b c d = refl
or_none false true c d = refl
or_none false false true d = refl
or_none false false false true = refl
or_none false false false false = refl

-- the bytes that call for quotes
pub quote_byte : (b : ℕ) → ((b == 44) || (b == 34) || (b == 13) || (b == 10)) ≡ needs_byte default_writer b
quote_byte b = or_none (b == 44) (b == 34) (b == 13) (b == 10)

-- a plain field stands as it is
plain_field : (field : List ℕ) → IsPlain field → field_text default_writer field ≡ field
plain_field field p = ap (λ (needs : Bool). if needs then quoted default_writer field else field) p.unquoted

-- the first field, behind what was there
pub first_field : (old text field : List ℕ) (rest : List (List ℕ)) → IsPlain field → text ≡ old ++ field → text ++ fields_text default_writer rest ≡ old ++ row_body default_writer (field ∷ rest)
first_field old text field rest p e =
    ap (λ t. t ++ fields_text default_writer rest) e ∙ (append_assoc old field (fields_text default_writer rest) ∙ ap (λ f. old ++ (f ++ fields_text default_writer rest)) (sym (plain_field field p)))

-- behind some text, one more field
pub one_field : (text body field : List ℕ) (rest : List (List ℕ)) → IsPlain field → text ++ fields_text default_writer (field ∷ rest) ≡ body → ((text ++ 44 ∷ []) ++ field) ++ fields_text default_writer rest ≡ body
unfolding fields_text
one_field text body field rest p e =
    append_assoc (text ++ 44 ∷ []) field (fields_text default_writer rest)
    ∙ (append_assoc text (44 ∷ []) (field ++ fields_text default_writer rest)
    ∙ (ap (λ f. text ++ (44 ∷ (f ++ fields_text default_writer rest))) (sym (plain_field field p)) ∙ e))

-- a record whose first field is plain shows some byte
pub shows_some : (field : List ℕ) (rest : List (List ℕ)) → IsPlain field → is_blank default_writer (field ∷ rest) ≡ false
unfolding is_blank
shows_some field [] p = ap (λ f. length f == 0) (plain_field field p) ∙ p.shown
shows_some field (other ∷ rest) p = refl

-- once no field is left, it is the record
pub whole_record : (old text : List ℕ) (fields : List (List ℕ)) → text ++ fields_text default_writer [] ≡ old ++ row_body default_writer fields → is_blank default_writer fields ≡ false → text ≡ old ++ record_of fields
unfolding fields_text
whole_record old text fields e shown =
    sym (append-nil text) ∙ (e ∙ ap (λ body. old ++ body) (sym (append-nil (row_body default_writer fields)) ∙ ap (λ (blank : Bool). row_body default_writer fields ++ (if blank then 34 ∷ 34 ∷ [] else [])) (sym shown)))

-- what begins with a text begins with its front
pub begins_further : (front bytes more : List ℕ) → BeginsWith front bytes → BeginsWith bytes more → BeginsWith front more
begins_further front bytes more one other = (one.0 ++ other.0, other.1 ∙ (ap (λ b. b ++ other.0) one.1 ∙ append_assoc front one.0 other.0))

pub begins_longer : (front bytes more : List ℕ) (b : ℕ) → BeginsWith front bytes → more ≡ bytes ++ b ∷ [] → BeginsWith front more
begins_longer front bytes more b one is = begins_further front bytes more one (b ∷ [], is)

-- the items from a place on
pub values_at : (values : List Value) (i : ℕ) (value : Value) → i < length values → value ≡ get_or values i value → drop i values ≡ value ∷ drop (i + 1) values
values_at values i value within is = drop-cons values i value within ∙ (ap (λ first. first ∷ drop (suc i) values) (sym is) ∙ ap (λ n. value ∷ drop n values) next)
  where
    next : suc i ≡ i + 1
    next = omega arith
