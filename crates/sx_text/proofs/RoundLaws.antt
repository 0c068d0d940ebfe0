-- The record that shows values is read as these values.
use Rattle.std.proofs.Common.{◌≡◌, ◌==◌, ◌++◌, ℕ, false, List, [], ◌∷◌, Option, Some, None, refl, sym, ap, ◌∙◌, inl, inr, if◌then◌else◌}
use Rattle.std.proofs.lemmas.Bool.{cases_Bool}
use Rattle.std.proofs.lemmas.List.{append_assoc}
use Rattle.csv.specs.Machine.{Read, field_after, fields_after, is_end, next_record, step}
use Rattle.csv.specs.Reading.{default_config}
use Rattle.csv.specs.Writing.{default_writer, is_blank, row_body, row_text}
use Rattle.csv.specs.declared.parser.State.{State}
use Rattle.csv.specs.declared.parser.State.TheVariants as st
use Rattle.csv.proofs.RoundTrip.{read-write}
use Rattle.sx_text.specs.Records.{fields_given, record_fields, record_of}

-- a byte that ends no line
pub record Inner (b : ℕ) : Type 0 where
  pub return : (b == 13) ≡ false
  pub feed : (b == 10) ≡ false

abbrev pub AllInner : List ℕ → Type 0
AllInner [] = Unit {0}
AllInner (b ∷ rest) = Inner b × AllInner rest

-- such a byte ends no record
no_end : (s : State) (b : ℕ) → Inner b → is_end (step default_config s b).1 ≡ false
no_end st.StartRecord b p = rw (p.return, p.feed) (elim (cases_Bool (b == 34)) [
  | inl quote ↦ rw quote refl
  | inr other ↦ rw other (elim (cases_Bool (b == 44)) [ inl comma ↦ rw comma refl | inr plain ↦ rw plain refl ])
])
no_end st.StartField b p = rw (p.return, p.feed) (elim (cases_Bool (b == 34)) [
  | inl quote ↦ rw quote refl
  | inr other ↦ rw other (elim (cases_Bool (b == 44)) [ inl comma ↦ rw comma refl | inr plain ↦ rw plain refl ])
])
no_end st.InField b p = rw (p.return, p.feed) (elim (cases_Bool (b == 44)) [ inl comma ↦ rw comma refl | inr plain ↦ rw plain refl ])
no_end st.InQuoted b p = elim (cases_Bool (b == 34)) [ inl quote ↦ rw quote refl | inr other ↦ rw other refl ]
no_end st.InEscape b p = refl
no_end st.AfterQuote b p = rw (p.return, p.feed) (elim (cases_Bool (b == 34)) [
  | inl quote ↦ rw quote refl
  | inr other ↦ rw other (elim (cases_Bool (b == 44)) [ inl comma ↦ rw comma refl | inr plain ↦ rw plain refl ])
])
no_end st.InComment b p = rw p.feed refl
no_end st.AfterCr b p = rw (p.return, p.feed) (elim (cases_Bool (b == 34)) [
  | inl quote ↦ rw quote refl
  | inr other ↦ rw other (elim (cases_Bool (b == 44)) [ inl comma ↦ rw comma refl | inr plain ↦ rw plain refl ])
])

abbrev read_is : List (List ℕ) → List ℕ → Option Read
read_is fields rest = Some (fields, st.StartRecord, rest)

given_is : (f g : List (List ℕ)) (x y : List ℕ) → read_is f x ≡ read_is g y → (f ≡ g) × (x ≡ y)
given_is f g x y e = (ap (λ (o : Option Read). fields_given o) e, ap rest_given e)
  where
    rest_given : Option Read → List ℕ
    rest_given None = []
    rest_given (Some p) = p.2

-- what a record that a line feed and more follow reads as, it reads as where the text ends
unended : (s : State) (fields : List (List ℕ)) (field text : List ℕ) (r : List (List ℕ)) → AllInner text
    → next_record default_config s fields field (text ++ (10 ∷ 65 ∷ [])) ≡ read_is r (65 ∷ [])
    → next_record default_config s fields field text ≡ read_is r []
unfolding next_record
unended st.StartRecord fields field [] r p e = let d = given_is _ r [] (65 ∷ []) e in absurd (cc)
unended st.StartField fields field [] r p e = let d = given_is (fields ++ field ∷ []) r (65 ∷ []) (65 ∷ []) e in ap (λ f. read_is f []) d.0
unended st.InField fields field [] r p e = let d = given_is (fields ++ field ∷ []) r (65 ∷ []) (65 ∷ []) e in ap (λ f. read_is f []) d.0
unended st.InQuoted fields field [] r p e = let d = given_is _ r [] (65 ∷ []) e in absurd (cc)
unended st.InEscape fields field [] r p e = let d = given_is _ r [] (65 ∷ []) e in absurd (cc)
unended st.AfterQuote fields field [] r p e = let d = given_is (fields ++ field ∷ []) r (65 ∷ []) (65 ∷ []) e in ap (λ f. read_is f []) d.0
unended st.InComment fields field [] r p e = let d = given_is _ r [] (65 ∷ []) e in absurd (cc)
unended st.AfterCr fields field [] r p e = let d = given_is _ r [] (65 ∷ []) e in absurd (cc)
unended s fields field (b ∷ rest) r p e =
    let goes = no_end s b p.0 in
    rw goes (unended (step default_config s b).0 (fields_after (step default_config s b).1 fields field) (field_after (step default_config s b).1 b field) rest r p.1 (rw goes at e))

-- the text of a record with more behind its line feed
line_and_more : (fields : List (List ℕ)) (more : List ℕ) → row_text default_writer fields ++ more ≡ record_of fields ++ (10 ∷ more)
line_and_more fields more =
    ap (λ l. l ++ more) (sym (append_assoc (row_body default_writer fields) (blank fields) (10 ∷ [])))
    ∙ append_assoc (row_body default_writer fields ++ blank fields) (10 ∷ []) more
  where
    blank : List (List ℕ) → List ℕ
    blank fields = if is_blank default_writer fields then 34 ∷ 34 ∷ [] else []

-- the fields of the record that csv's writer makes of them
pub record_fields-record_of : (field : List ℕ) (fields : List (List ℕ)) → AllInner (record_of (field ∷ fields)) → record_fields (record_of (field ∷ fields)) ≡ field ∷ fields
record_fields-record_of field fields inner =
    let all = field ∷ fields in
    let ended = sym (ap (next_record default_config st.StartRecord [] []) (line_and_more all (65 ∷ []))) ∙ read-write all (65 ∷ []) in
    ap fields_given (unended st.StartRecord [] [] (record_of all) all inner ended)
