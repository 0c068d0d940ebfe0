-- What is read is spelled by the whole text.
use Rattle.std.proofs.Common.{◌≡◌, ◌≤◌, ◌==◌, ◌&&◌, ◌||◌, ◌++◌, ℕ, zero, suc, Bool, true, false, not, List, [], ◌∷◌, length, Option, Some, None, refl, sym, ap, ◌∙◌, subst, arith, inl, inr, eqb-true, if◌then◌else◌}
use Rattle.std.specs.Prelude.{IsTrue, IfOk, Result, Ok, Err, codes}
use Rattle.std.specs.List.{list_all, list_any}
use Rattle.std.proofs.lemmas.Bool.{cases_Bool}
use Rattle.std.proofs.lemmas.List.{append-nil, append_assoc}
use Rattle.sx_values.specs.Texts.{is_name_byte, is_text}
use Rattle.sx_values.specs.Layouts.{is_null}
use Rattle.sx_values.specs.declared.value.Value.{Value}
use Rattle.sx_values.specs.declared.value.Value.TheVariants.{Int, Text}
use Rattle.sx_ops.specs.Checks.{IsShaped}
use Rattle.sx_ops.specs.declared.spec.Spec.{Spec}
use Rattle.sx_ops.specs.declared.spec.Spec.TheVariants.{Part}
use Rattle.sx_ops.specs.declared.spec.Test.{Test}
use Rattle.sx_ops.specs.declared.spec.Cmp.{Cmp}
use Rattle.sx_text.specs.Numbers.{int_of}
use Rattle.sx_text.specs.Records.{is_value}
use Rattle.sx_text.proofs.DecimalLaws.{signed-int_of}
use Rattle.sx_lang.specs.declared.fault.LangFault.{LangFault}
use Rattle.sx_lang.specs.Parts.{◌>>=◌, back, behind_word, front, is_short_name}
use Rattle.sx_lang.specs.Reading.{Gives, cmp_at, constant_at, greater_at, int_at, is_int_byte, last_name, less_at, name_at, part_read, quoted_at, spec_read, test_at, tests_at, tests_behind, text_at, text_of_bytes, with_byte, with_test}
use Rattle.sx_lang.specs.Spelling.{cmp_text, constant_text, doubled, further_text, has_spelling, is_spelled, spec_text, targets_text, test_text, tests_text}
use Rattle.sx_lang.proofs.AgainLaws.{and_both}

-- a value and the step after it
record Bound {A B : Type 0} (o : Option A) (f : A → Option B) (y : B) : Type 0 where
  value : A
  first : o ≡ Some value
  then_is : f value ≡ Some y

bound : {A B : Type 0} (o : Option A) (f : A → Option B) (y : B) → (o >>= f) ≡ Some y → Bound o f y
bound None f y e = absurd (cc)
bound (Some x) f y e = record { value = x; first = refl; then_is = e }

abbrev done : {A : Type 0} → A → Option A
done x = Some x

some_is : {A : Type 0} (x y : A) → done x ≡ done y → x ≡ y
some_is x y e = cc

behind_word-only : (word text rest : List ℕ) → behind_word word text ≡ Some rest → text ≡ word ++ rest
behind_word-only [] text rest e = some_is text rest e
behind_word-only (c ∷ word) [] rest e = absurd (cc)
behind_word-only (c ∷ word) (b ∷ text) rest e = elim (cases_Bool (b == c)) [
  | inl same ↦
      let f = rw same at e in
      ap (λ x. x ∷ text) (eqb-true b c same) ∙ ap (λ l. c ∷ l) (behind_word-only word text rest f)
  | inr other ↦ let f = rw other at e in absurd (cc)
]

front_back : (p : ℕ → Bool) (text : List ℕ) → text ≡ front p text ++ back p text
front_back p [] = refl
front_back p (b ∷ rest) = elim (cases_Bool (p b)) [
  | inl passes ↦ rw passes (ap (λ l. b ∷ l) (front_back p rest))
  | inr stops ↦ rw stops refl
]

-- what was read at the front, as its text
record Took (text spelled rest : List ℕ) : Type 0 where
  is : text ≡ spelled ++ rest

record Name (text : List ℕ) (read : List ℕ × List ℕ) : Type 0 where
  is : text ≡ read.0 ++ read.1
  short : is_short_name read.0 ≡ true

name_at-only : (text : List ℕ) (read : List ℕ × List ℕ) → name_at text ≡ Some read → Name text read
unfolding name_at
name_at-only text read e = by (is_short_name (front is_name_byte text)) refl e
  where
    by : (t : Bool) → is_short_name (front is_name_byte text) ≡ t → (if t then Some (front is_name_byte text, back is_name_byte text) else None) ≡ Some read → Name text read
    by true d f = subst (Name text) (some_is _ _ f) (record { is = front_back is_name_byte text; short = d })
    by false d f = absurd (cc)

-- ---- comparisons

abbrev CmpIs : List ℕ → Cmp × List ℕ → Type 0
CmpIs text read = text ≡ cmp_text read.0 ++ read.1

less_only : (rest : List ℕ) → CmpIs (60 ∷ rest) (less_at rest)
less_only [] = refl
less_only (b ∷ rest) = elim (cases_Bool (b == 62)) [
  | inl greater ↦ let same = eqb-true b 62 greater in rw (greater, same) refl
  | inr other ↦ rw other (elim (cases_Bool (b == 61)) [
    | inl equal ↦ let same = eqb-true b 61 equal in rw (equal, same) refl
    | inr plain ↦ rw plain refl
  ])
]

greater_only : (rest : List ℕ) → CmpIs (62 ∷ rest) (greater_at rest)
greater_only [] = refl
greater_only (b ∷ rest) = elim (cases_Bool (b == 61)) [
  | inl equal ↦ let same = eqb-true b 61 equal in rw (equal, same) refl
  | inr plain ↦ rw plain refl
]

cmp_at-only : (text : List ℕ) (read : Cmp × List ℕ) → cmp_at text ≡ Some read → CmpIs text read
unfolding cmp_at
cmp_at-only [] read e = absurd (cc)
cmp_at-only (b ∷ rest) read e = elim (cases_Bool (b == 61)) [
  | inl equal ↦ let f = rw equal at e in ap (λ x. x ∷ rest) (eqb-true b 61 equal) ∙ subst (CmpIs (61 ∷ rest)) (some_is _ _ f) refl
  | inr other ↦ elim (cases_Bool (b == 60)) [
    | inl less ↦ let f = rw (other, less) at e in ap (λ x. x ∷ rest) (eqb-true b 60 less) ∙ subst (CmpIs (60 ∷ rest)) (some_is _ _ f) (less_only rest)
    | inr more ↦ elim (cases_Bool (b == 62)) [
      | inl greater ↦ let f = rw (other, more, greater) at e in ap (λ x. x ∷ rest) (eqb-true b 62 greater) ∙ subst (CmpIs (62 ∷ rest)) (some_is _ _ f) (greater_only rest)
      | inr none ↦ let f = rw (other, more, none) at e in absurd (cc)
    ]
  ]
]

-- ---- constants

abbrev QuotedIs : List ℕ → List ℕ × List ℕ → Type 0
QuotedIs text read = text ≡ doubled read.0 ++ (39 ∷ read.1)

-- a byte before those that were read
record WithByte (b : ℕ) (o : Option (List ℕ × List ℕ)) (read : List ℕ × List ℕ) : Type 0 where
  behind : List ℕ × List ℕ
  first : o ≡ Some behind
  is : (b ∷ behind.0, behind.1) ≡ read

with_byte_is : (b : ℕ) (o : Option (List ℕ × List ℕ)) (read : List ℕ × List ℕ) → with_byte b o ≡ Some read → WithByte b o read
with_byte_is b None read e = absurd (cc)
with_byte_is b (Some r) read e = record { behind = r; first = refl; is = some_is _ _ e }

double_quote : (bytes rest : List ℕ) → QuotedIs (39 ∷ 39 ∷ (doubled bytes ++ (39 ∷ rest))) (39 ∷ bytes, rest)
double_quote bytes rest = refl

plain_byte : (b : ℕ) (bytes rest : List ℕ) → (b == 39) ≡ false → QuotedIs (b ∷ (doubled bytes ++ (39 ∷ rest))) (b ∷ bytes, rest)
plain_byte b bytes rest e = rw e refl

quoted_at-only : (text : List ℕ) (read : List ℕ × List ℕ) → quoted_at text ≡ Some read → QuotedIs text read
unfolding quoted_at
quoted_at-only [] read e = absurd (cc)
quoted_at-only (b ∷ []) read e = elim (cases_Bool (b == 39)) [
  | inl quote ↦ let f = rw quote at e in ap (λ x. x ∷ []) (eqb-true b 39 quote) ∙ subst (QuotedIs (39 ∷ [])) (some_is _ _ f) refl
  | inr other ↦ let f = rw other at e in absurd (cc)
]
quoted_at-only (b ∷ c ∷ rest) read e = elim (cases_Bool (b == 39)) [
  | inl quote ↦ elim (cases_Bool (c == 39)) [
    | inl twice ↦
        let w = with_byte_is 39 (quoted_at rest) read (rw (quote, twice) at e) in
        let more = quoted_at-only rest w.behind w.first in
        subst (QuotedIs (b ∷ c ∷ rest)) w.is
        (ap (λ x. x ∷ c ∷ rest) (eqb-true b 39 quote) ∙ ap (λ x. 39 ∷ x ∷ rest) (eqb-true c 39 twice) ∙ ap (λ l. 39 ∷ 39 ∷ l) more ∙ double_quote w.behind.0 w.behind.1)
    | inr once ↦ let f = rw (quote, once) at e in ap (λ x. x ∷ c ∷ rest) (eqb-true b 39 quote) ∙ subst (QuotedIs (39 ∷ c ∷ rest)) (some_is _ _ f) refl
  ]
  | inr other ↦
      let w = with_byte_is b (quoted_at (c ∷ rest)) read (rw other at e) in
      let more = quoted_at-only (c ∷ rest) w.behind w.first in
      subst (QuotedIs (b ∷ c ∷ rest)) w.is (ap (λ l. b ∷ l) more ∙ plain_byte b w.behind.0 w.behind.1 other)
]

-- a constant of the text
record Constant (text : List ℕ) (read : Value × List ℕ) : Type 0 where
  is : text ≡ constant_text read.0 ++ read.1
  value : is_value read.0 ≡ true
  some : is_null read.0 ≡ false

int_at-only : (text : List ℕ) (read : Value × List ℕ) → int_at text ≡ Some read → Constant text read
unfolding int_at
int_at-only text read e =
    let b = bound (int_of (front is_int_byte text)) (λ number. Some (Int number, back is_int_byte text)) read e in
    let number = signed-int_of (front is_int_byte text) b.value b.first in
    subst (Constant text) (some_is _ _ b.then_is) (record {
      is = front_back is_int_byte text ∙ ap (λ l. l ++ back is_int_byte text) (sym number.text);
      value = number.fits;
      some = refl;
    })

text_at-only : (text : List ℕ) (read : Value × List ℕ) → text_at text ≡ Some read → Constant (39 ∷ text) read
unfolding text_at
text_at-only text read e =
    let b = bound (quoted_at text) (λ bytes. text_of_bytes bytes.0 >>= λ value. Some (value, bytes.1)) read e in
    let c = bound (text_of_bytes b.value.0) (λ value. Some (value, b.value.1)) read b.then_is in
    by b.value c.value (quoted_at-only text b.value b.first) c.first c.then_is
  where
    by : (bytes : List ℕ × List ℕ) (value : Value) → QuotedIs text bytes → text_of_bytes bytes.0 ≡ Some value → done (value, bytes.1) ≡ Some read → Constant (39 ∷ text) read
    by bytes value q f g = cases (is_text bytes.0) refl f
      where
        cases : (t : Bool) → is_text bytes.0 ≡ t → (if t then Some (Text bytes.0) else None) ≡ Some value → Constant (39 ∷ text) read
        cases false d h = absurd (cc)
        cases true d h =
            let same : Text bytes.0 ≡ value = cc in
            subst (Constant (39 ∷ text)) (ap (λ v. (v, bytes.1)) same ∙ some_is _ _ g) (record {
              is = ap (λ l. 39 ∷ l) (q ∙ sym (append_assoc (doubled bytes.0) (39 ∷ []) bytes.1));
              value = d;
              some = refl;
            })

constant_at-only : (text : List ℕ) (read : Value × List ℕ) → constant_at text ≡ Some read → Constant text read
unfolding constant_at
constant_at-only [] read e = int_at-only [] read e
constant_at-only (b ∷ rest) read e = elim (cases_Bool (b == 39)) [
  | inl quote ↦ let f = rw quote at e in subst (λ x. Constant (x ∷ rest) read) (sym (eqb-true b 39 quote)) (text_at-only rest read f)
  | inr other ↦ int_at-only (b ∷ rest) read (rw other at e)
]

-- ---- tests

-- tests of the text
record Tests (text : List ℕ) (read : List Test × List ℕ) : Type 0 where
  is : text ≡ tests_text read.0 ++ read.1
  some : 1 ≤ length read.0
  spelled : list_all is_spelled read.0 ≡ true
  no_null : list_any (λ (test : Test). is_null test.value) read.0 ≡ false

record One (text : List ℕ) (read : Test × List ℕ) : Type 0 where
  is : text ≡ test_text read.0 ++ read.1
  spelled : is_spelled read.0 ≡ true
  no_null : is_null read.0.value ≡ false

test_at-only : (text : List ℕ) (read : Test × List ℕ) → test_at text ≡ Some read → One text read
unfolding test_at
test_at-only text read e =
    let b = bound (name_at text) (λ column. cmp_at column.1 >>= λ cmp. constant_at cmp.1 >>= λ value. Some (record { column = column.0; cmp = cmp.0; value = value.0 }, value.1)) read e in
    let c = bound (cmp_at b.value.1) (λ cmp. constant_at cmp.1 >>= λ value. Some (record { column = b.value.0; cmp = cmp.0; value = value.0 }, value.1)) read b.then_is in
    let d = bound (constant_at c.value.1) (λ value. Some (record { column = b.value.0; cmp = c.value.0; value = value.0 }, value.1)) read c.then_is in
    let name = name_at-only text b.value b.first in
    let sign = cmp_at-only b.value.1 c.value c.first in
    let constant = constant_at-only c.value.1 d.value d.first in
    subst (One text) (some_is _ _ d.then_is) (record {
      is = name.is
          ∙ ap (λ l. b.value.0 ++ l) (sign ∙ ap (λ l. cmp_text c.value.0 ++ l) constant.is ∙ sym (append_assoc (cmp_text c.value.0) (constant_text d.value.0) d.value.1))
          ∙ sym (append_assoc b.value.0 (cmp_text c.value.0 ++ constant_text d.value.0) d.value.1);
      spelled = and_both (is_short_name b.value.0) (is_value d.value.0) name.short constant.value;
      no_null = constant.some;
    })

either : (a b : Bool) → a ≡ false → b ≡ false → (a || b) ≡ false
either true b p q = absurd (cc)
either false b p q = q

-- a test before those that were read
record WithTest (test : Test) (o : Option (List Test × List ℕ)) (read : List Test × List ℕ) : Type 0 where
  behind : List Test × List ℕ
  first : o ≡ Some behind
  is : (test ∷ behind.0, behind.1) ≡ read

with_test_is : (test : Test) (o : Option (List Test × List ℕ)) (read : List Test × List ℕ) → with_test test o ≡ Some read → WithTest test o read
with_test_is test None read e = absurd (cc)
with_test_is test (Some r) read e = record { behind = r; first = refl; is = some_is _ _ e }

-- tests, at most so many
record Few (most : ℕ) (text : List ℕ) (read : List Test × List ℕ) : Type 0 where
  tests : Tests text read
  few : length read.0 ≤ most

one_alone : (most : ℕ) (text : List ℕ) (read : Test × List ℕ) → One text read → Few (suc most) text (read.0 ∷ [], read.1)
one_alone most text read one = record {
  tests = record {
    is = one.is ∙ ap (λ l. l ++ read.1) (sym (append-nil (test_text read.0)));
    some = omega arith;
    spelled = and_both (is_spelled read.0) true one.spelled refl;
    no_null = either (is_null read.0.value) false one.no_null refl;
  };
  few = omega arith;
}

one_and_more : (most : ℕ) (text : List ℕ) (read : Test × List ℕ) (next : List ℕ) (behind : List Test × List ℕ) → One text read → read.1 ≡ codes " and " ++ next → Few most next behind → Few (suc most) text (read.0 ∷ behind.0, behind.1)
one_and_more most text read next ([], rest) one sep few = absurd (let s = few.tests.some in omega arith)
one_and_more most text read next (test ∷ tests, rest) one sep few = record {
  tests = record {
    is = one.is
        ∙ ap (λ l. test_text read.0 ++ l) (sep ∙ ap (λ l. codes " and " ++ l) few.tests.is ∙ sym (append_assoc (codes " and ") (tests_text (test ∷ tests)) rest))
        ∙ sym (append_assoc (test_text read.0) (further_text (test ∷ tests)) rest);
    some = omega arith;
    spelled = and_both (is_spelled read.0) (list_all is_spelled (test ∷ tests)) one.spelled few.tests.spelled;
    no_null = either (is_null read.0.value) (list_any (λ (t : Test). is_null t.value) (test ∷ tests)) one.no_null few.tests.no_null;
  };
  few = let h = few.few in omega arith;
}

tests_at-only : (most : ℕ) (text : List ℕ) (read : List Test × List ℕ) → tests_at most text ≡ Some read → Few most text read
unfolding tests_at
tests_at-only zero text read e = absurd (cc)
tests_at-only (suc most) text read e =
    let b = bound (test_at text) (λ r. tests_behind r (behind_word (codes " and ") r.1) (tests_at most)) read e in
    by b.value (behind_word (codes " and ") b.value.1) (test_at-only text b.value b.first) refl b.then_is (tests_at-only most)
  where
    by : (r : Test × List ℕ) (o : Option (List ℕ)) → One text r → behind_word (codes " and ") r.1 ≡ o → tests_behind r o (tests_at most) ≡ Some read → ((t : List ℕ) (found : List Test × List ℕ) → tests_at most t ≡ Some found → Few most t found) → Few (suc most) text read
    by r None one sep f others = subst (Few (suc most) text) (some_is _ _ f) (one_alone most text r one)
    by r (Some next) one sep f others =
        let w = with_test_is r.0 (tests_at most next) read f in
        subst (Few (suc most) text) w.is (one_and_more most text r next w.behind one (behind_word-only (codes " and ") r.1 next sep) (others next w.behind w.first))

-- ---- transformations

-- a transformation that the text spells
pub record Spells (text : List ℕ) (spec : Spec) : Type 0 where
  pub is : spec_text spec ≡ text
  pub shaped : IsShaped spec
  pub spelled : has_spelling spec ≡ true

record Last (text name : List ℕ) : Type 0 where
  is : text ≡ name
  short : is_short_name name ≡ true

last_name-only : (text name : List ℕ) → last_name text ≡ Some name → Last text name
unfolding last_name
last_name-only text name e = by (is_short_name text) refl e
  where
    by : (t : Bool) → is_short_name text ≡ t → (if t then Some text else None) ≡ Some name → Last text name
    by true d f = subst (Last text) (some_is _ _ f) (record { is = refl; short = d })
    by false d f = absurd (cc)

all_four : (a b c d : Bool) → a ≡ true → b ≡ true → c ≡ true → d ≡ true → (a && b && c && d) ≡ true
all_four true true true true p q r s = refl
all_four true true true false p q r s = s
all_four true true false d p q r s = absurd (cc)
all_four true false c d p q r s = absurd (cc)
all_four false b c d p q r s = absurd (cc)

not_false : (b : Bool) → b ≡ false → not b ≡ true
not_false true e = absurd (cc)
not_false false e = refl

part_parts : (table : List ℕ) (tests : List Test) (passing failing : List ℕ) → codes "part " ++ (table ++ (codes " if " ++ (tests_text tests ++ targets_text passing failing))) ≡ spec_text (Part table tests passing failing)
part_parts table tests passing failing =
    ap (λ l. codes "part " ++ l) (sym (append_assoc table (codes " if " ++ tests_text tests) (targets_text passing failing)))

part_read-only : (text : List ℕ) (spec : Spec) → part_read text ≡ Some spec → Spells (codes "part " ++ text) spec
unfolding part_read
part_read-only text spec e =
    let table = bound (name_at text) (λ table. behind_word (codes " if ") table.1 >>= λ tests. tests_at 4 tests >>= λ read. behind_word (codes " into ") read.1 >>= λ targets. name_at targets >>= λ passing. behind_word (codes " ") passing.1 >>= λ failing. last_name failing >>= λ last. Some (Part table.0 read.0 passing.0 last)) spec e in
    let after = bound (behind_word (codes " if ") table.value.1) (λ tests. tests_at 4 tests >>= λ read. behind_word (codes " into ") read.1 >>= λ targets. name_at targets >>= λ passing. behind_word (codes " ") passing.1 >>= λ failing. last_name failing >>= λ last. Some (Part table.value.0 read.0 passing.0 last)) spec table.then_is in
    let tests = bound (tests_at 4 after.value) (λ read. behind_word (codes " into ") read.1 >>= λ targets. name_at targets >>= λ passing. behind_word (codes " ") passing.1 >>= λ failing. last_name failing >>= λ last. Some (Part table.value.0 read.0 passing.0 last)) spec after.then_is in
    let targets = bound (behind_word (codes " into ") tests.value.1) (λ targets. name_at targets >>= λ passing. behind_word (codes " ") passing.1 >>= λ failing. last_name failing >>= λ last. Some (Part table.value.0 tests.value.0 passing.0 last)) spec tests.then_is in
    let passing = bound (name_at targets.value) (λ passing. behind_word (codes " ") passing.1 >>= λ failing. last_name failing >>= λ last. Some (Part table.value.0 tests.value.0 passing.0 last)) spec targets.then_is in
    let failing = bound (behind_word (codes " ") passing.value.1) (λ failing. last_name failing >>= λ last. Some (Part table.value.0 tests.value.0 passing.value.0 last)) spec passing.then_is in
    let last = bound (last_name failing.value) (λ last. Some (Part table.value.0 tests.value.0 passing.value.0 last)) spec failing.then_is in
    let named = name_at-only text table.value table.first in
    let few = tests_at-only 4 after.value tests.value tests.first in
    let yes_name = name_at-only targets.value passing.value passing.first in
    let no_name = last_name-only failing.value last.value last.first in
    subst (Spells (codes "part " ++ text)) (some_is _ _ last.then_is) (record {
      is = sym (part_parts table.value.0 tests.value.0 passing.value.0 last.value)
          ∙ ap (λ l. codes "part " ++ l) (sym (named.is ∙ ap (λ l. table.value.0 ++ l) (behind_word-only (codes " if ") table.value.1 after.value after.first
          ∙ ap (λ l. codes " if " ++ l) (few.tests.is ∙ ap (λ l. tests_text tests.value.0 ++ l) (behind_word-only (codes " into ") tests.value.1 targets.value targets.first
          ∙ ap (λ l. codes " into " ++ l) (yes_name.is ∙ ap (λ l. passing.value.0 ++ l) (behind_word-only (codes " ") passing.value.1 failing.value failing.first ∙ ap (λ l. codes " " ++ l) no_name.is)))))));
      shaped = record { some = few.tests.some; few = few.few; no_null = not_false (list_any (λ (t : Test). is_null t.value) tests.value.0) few.tests.no_null };
      spelled = all_four (is_short_name table.value.0) (is_short_name passing.value.0) (is_short_name last.value) (list_all is_spelled tests.value.0) named.short yes_name.short no_name.short few.tests.spelled;
    })

-- what is read from a text is spelled by it, and by no other
pub spec_text-spec_read : (text : List ℕ) (spec : Spec) → spec_read text ≡ Some spec → Spells text spec
unfolding spec_read
spec_text-spec_read text spec e =
    let b = bound (behind_word (codes "part ") text) part_read spec e in
    subst (λ t. Spells t spec) (sym (behind_word-only (codes "part ") text b.value b.first)) (part_read-only b.value spec b.then_is)

-- the same of an answer
pub answer_shaped : (text : List ℕ) (answer : Result Spec LangFault) → Gives (λ spec. spec) answer (spec_read text) → IfOk answer IsShaped
answer_shaped text (Ok spec) read = (spec_text-spec_read text spec read).shaped
answer_shaped text (Err fault) read = tt

pub answer_spelled : (text : List ℕ) (answer : Result Spec LangFault) → Gives (λ spec. spec) answer (spec_read text) → IfOk answer (λ spec. IsTrue (has_spelling spec))
answer_spelled text (Ok spec) read = (spec_text-spec_read text spec read).spelled
answer_spelled text (Err fault) read = tt
