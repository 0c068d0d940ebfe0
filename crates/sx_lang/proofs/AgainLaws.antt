-- What a transformation's text spells is read from it.
use Rattle.std.proofs.Common.{◌≡◌, ◌≤◌, ◌<◌, ◌==◌, ◌&&◌, ◌||◌, ◌++◌, ◌^◌, ℕ, zero, suc, Bool, true, false, not, nat_lt, nat_le, List, [], ◌∷◌, length, Some, None, refl, ap, ◌∙◌, arith, inl, inr, eq-eqb, eqb-true}
use Rattle.std.specs.Prelude.{ℤ, pos, negsuc, codes}
use Rattle.std.specs.List.{list_all, list_any}
use Rattle.std.specs.Fmt.{decimal, signed_decimal}
use Rattle.std.proofs.lemmas.Bool.Decides.{nat_tests}
use Rattle.std.proofs.lemmas.Bool.{cases_Bool}
use Rattle.std.proofs.lemmas.List.{append-nil, append_assoc}
use Rattle.std.proofs.lemmas.Fmt.{decimal_nonempty}
use Rattle.sx_values.specs.Texts.{is_digit, is_lower, is_name_byte, is_text}
use Rattle.sx_values.specs.Layouts.{is_null}
use Rattle.sx_values.specs.declared.value.Value.{Value}
use Rattle.sx_values.specs.declared.value.Value.TheVariants.{Null, Int, Text}
use Rattle.sx_ops.specs.Checks.{IsShaped}
use Rattle.sx_ops.specs.declared.spec.Spec.{Spec}
use Rattle.sx_ops.specs.declared.spec.Spec.TheVariants.{Join, Split, Part, Union}
use Rattle.sx_ops.specs.declared.spec.Test.{Test}
use Rattle.sx_ops.specs.declared.spec.Cmp.{Cmp}
use Rattle.sx_ops.specs.declared.spec.Cmp.TheVariants as cmp
use Rattle.sx_text.specs.Records.{is_int64, is_value}
use Rattle.sx_text.proofs.DecimalLaws.{digits_of_decimal, int_of-signed}
use Rattle.sx_lang.specs.Parts.{◌>>=◌, back, behind_word, front, is_short_name}
use Rattle.sx_lang.specs.Reading.{cmp_at, constant_at, int_at, is_int_byte, last_name, name_at, part_read, quoted_at, spec_read, test_at, tests_at, text_at, with_byte, with_test}
use Rattle.sx_lang.specs.Spelling.{cmp_text, constant_text, doubled, further_text, has_spelling, is_spelled, spec_text, targets_text, test_text, tests_text}

pub and_left : (a b : Bool) → (a && b) ≡ true → (a ≡ true) × (b ≡ true)
and_left true true e = (refl, refl)
and_left true false e = absurd (cc)
and_left false b e = absurd (cc)

pub and_both : (a b : Bool) → a ≡ true → b ≡ true → (a && b) ≡ true
and_both true true p q = refl
and_both true false p q = q
and_both false b p q = p

or_first : (a b : Bool) → a ≡ true → (a || b) ≡ true
or_first true b e = refl
or_first false b e = absurd (cc)

behind_word-again : (word rest : List ℕ) → behind_word word (word ++ rest) ≡ Some rest
behind_word-again [] rest = refl
behind_word-again (c ∷ word) rest = rw (eq-eqb c c refl) (behind_word-again word rest)

-- a text that doesn't begin with a byte that passes a test
abbrev Stops : (ℕ → Bool) → List ℕ → Type 0
Stops p [] = Unit {0}
Stops p (b ∷ rest) = p b ≡ false

front-again : (p : ℕ → Bool) (word rest : List ℕ) → list_all p word ≡ true → Stops p rest → front p (word ++ rest) ≡ word
front-again p [] [] all stops = refl
front-again p [] (b ∷ rest) all stops = rw stops refl
front-again p (c ∷ word) rest all stops =
    let both = and_left (p c) (list_all p word) all in
    rw both.0 (ap (λ l. c ∷ l) (front-again p word rest both.1 stops))

back-again : (p : ℕ → Bool) (word rest : List ℕ) → list_all p word ≡ true → Stops p rest → back p (word ++ rest) ≡ rest
back-again p [] [] all stops = refl
back-again p [] (b ∷ rest) all stops = rw stops refl
back-again p (c ∷ word) rest all stops =
    let both = and_left (p c) (list_all p word) all in
    rw both.0 (back-again p word rest both.1 stops)

-- a name has name bytes alone
name_bytes : (name : List ℕ) → is_short_name name ≡ true → list_all is_name_byte name ≡ true
name_bytes [] e = refl
name_bytes (b ∷ rest) e = by (is_lower b) (nat_le (length rest) 15) (list_all is_name_byte rest) (is_digit b) (b == 95) e
  where
    by : (l n r d u : Bool) → (l && n && r) ≡ true → ((l || d || u) && r) ≡ true
    by true true true d u f = refl
    by true true false d u f = absurd (cc)
    by true false r d u f = absurd (cc)
    by false n r d u f = absurd (cc)

name_at-again : (name rest : List ℕ) → is_short_name name ≡ true → Stops is_name_byte rest → name_at (name ++ rest) ≡ Some (name, rest)
unfolding name_at
name_at-again name rest e stops =
    let bytes = name_bytes name e in
    rw (front-again is_name_byte name rest bytes stops, back-again is_name_byte name rest bytes stops, e) refl

-- ---- comparisons

-- a text that doesn't go on with a sign of a comparison
abbrev NoSign : List ℕ → Type 0
NoSign [] = Unit {0}
NoSign (b ∷ rest) = ((b == 61) ≡ false) × ((b == 62) ≡ false)

cmp_at-again : (c : Cmp) (rest : List ℕ) → NoSign rest → cmp_at (cmp_text c ++ rest) ≡ Some (c, rest)
unfolding cmp_at
cmp_at-again cmp.Eq rest n = refl
cmp_at-again cmp.Ne rest n = refl
cmp_at-again cmp.Lt [] n = refl
cmp_at-again cmp.Lt (b ∷ rest) n = rw (n.1, n.0) refl
cmp_at-again cmp.Le rest n = refl
cmp_at-again cmp.Gt [] n = refl
cmp_at-again cmp.Gt (b ∷ rest) n = rw n.0 refl
cmp_at-again cmp.Ge rest n = refl

-- ---- constants

quoted_plain : (b : ℕ) (rest : List ℕ) → (b == 39) ≡ false → quoted_at (b ∷ rest) ≡ with_byte b (quoted_at rest)
unfolding quoted_at
quoted_plain b [] e = rw e refl
quoted_plain b (c ∷ rest) e = rw e refl

quoted_end : (more : List ℕ) → quoted_at (39 ∷ 32 ∷ more) ≡ Some ([], 32 ∷ more)
unfolding quoted_at
quoted_end more = refl

quoted_twice : (rest : List ℕ) → quoted_at (39 ∷ 39 ∷ rest) ≡ with_byte 39 (quoted_at rest)
unfolding quoted_at
quoted_twice rest = refl

quoted_at-again : (bytes more : List ℕ) → quoted_at (doubled bytes ++ (39 ∷ 32 ∷ more)) ≡ Some (bytes, 32 ∷ more)
quoted_at-again [] more = quoted_end more
quoted_at-again (b ∷ bytes) more = elim (cases_Bool (b == 39)) [
  | inl quote ↦
      let same = eqb-true b 39 quote in
      rw (quote, same) (quoted_twice (doubled bytes ++ (39 ∷ 32 ∷ more)) ∙ ap (with_byte 39) (quoted_at-again bytes more))
  | inr other ↦ rw other (quoted_plain b (doubled bytes ++ (39 ∷ 32 ∷ more)) other ∙ ap (with_byte b) (quoted_at-again bytes more))
]

digit_int : (b : ℕ) → is_digit b ≡ true → is_int_byte b ≡ true
digit_int b e = or_first (is_digit b) (b == 45) e

digits_int : (ds : List ℕ) → list_all is_digit ds ≡ true → list_all is_int_byte ds ≡ true
digits_int [] e = refl
digits_int (b ∷ ds) e =
    let both = and_left (is_digit b) (list_all is_digit ds) e in
    and_both (is_int_byte b) (list_all is_int_byte ds) (digit_int b both.0) (digits_int ds both.1)

int_small : (n : ℕ) → nat_lt n 0x8000_0000_0000_0000 ≡ true → n < 2 ^ 63
int_small n e = grind (arith, nat_tests)

-- the text of a number: one byte or more, each of a number
record IntText (bytes : List ℕ) : Type 0 where
  all : list_all is_int_byte bytes ≡ true
  some : 0 < length bytes

int_text : (z : ℤ) → is_int64 z ≡ true → IntText (signed_decimal z)
int_text (pos n) e =
    let s = int_small n e in
    let wide : n < 2 ^ 64 = omega arith in
    record { all = digits_int (decimal n) (digits_of_decimal n wide); some = decimal_nonempty n wide }
int_text (negsuc n) e =
    let s = int_small n e in
    let wide : suc n < 2 ^ 64 = omega arith in
    record { all = digits_int (decimal (suc n)) (digits_of_decimal (suc n) wide); some = omega arith }

int_no_quote : (b : ℕ) → is_int_byte b ≡ true → (b == 39) ≡ false
int_no_quote b e = by (is_digit b) (b == 45) refl refl e
  where
    by : (d m : Bool) → is_digit b ≡ d → (b == 45) ≡ m → (d || m) ≡ true → (b == 39) ≡ false
    by true m p q f = let r = and_left (nat_le 48 b) (nat_le b 57) p in let low = r.0 in grind (arith, nat_tests)
    by false true p q f = let same = eqb-true b 45 q in rw same refl
    by false false p q f = absurd (cc)

int_first : (bytes rest : List ℕ) → IntText bytes → constant_at (bytes ++ rest) ≡ int_at (bytes ++ rest)
unfolding constant_at
int_first [] rest t = absurd (let s = t.some in omega arith)
int_first (b ∷ bytes) rest t =
    let both = and_left (is_int_byte b) (list_all is_int_byte bytes) t.all in
    rw (int_no_quote b both.0) refl

int_at-again : (z : ℤ) (more : List ℕ) → is_int64 z ≡ true → int_at (signed_decimal z ++ (32 ∷ more)) ≡ Some (Int z, 32 ∷ more)
unfolding int_at
int_at-again z more e =
    let t = int_text z e in
    rw (front-again is_int_byte (signed_decimal z) (32 ∷ more) t.all refl, back-again is_int_byte (signed_decimal z) (32 ∷ more) t.all refl, int_of-signed z e) refl

text_at-again : (t more : List ℕ) → is_text t ≡ true → text_at (doubled t ++ (39 ∷ 32 ∷ more)) ≡ Some (Text t, 32 ∷ more)
unfolding text_at
text_at-again t more e = rw (quoted_at-again t more, e) refl

constant_at-again : (v : Value) (more : List ℕ) → is_value v ≡ true → is_null v ≡ false → constant_at (constant_text v ++ (32 ∷ more)) ≡ Some (v, 32 ∷ more)
constant_at-again Null more e n = absurd (cc)
constant_at-again (Int z) more e n = int_first (signed_decimal z) (32 ∷ more) (int_text z e) ∙ int_at-again z more e
constant_at-again (Text t) more e n = quote_first (doubled t ++ 39 ∷ []) more ∙ ap text_at (append_assoc (doubled t) (39 ∷ []) (32 ∷ more)) ∙ text_at-again t more e
  where
    quote_first : (bytes more : List ℕ) → constant_at ((39 ∷ bytes) ++ (32 ∷ more)) ≡ text_at (bytes ++ (32 ∷ more))
    quote_first bytes more = unfold constant_at in refl

-- a constant doesn't begin with a sign of a comparison
int_no_sign : (b : ℕ) → is_int_byte b ≡ true → ((b == 61) ≡ false) × ((b == 62) ≡ false)
int_no_sign b e = by (is_digit b) (b == 45) refl refl e
  where
    by : (d m : Bool) → is_digit b ≡ d → (b == 45) ≡ m → (d || m) ≡ true → ((b == 61) ≡ false) × ((b == 62) ≡ false)
    by true m p q f = let r = and_left (nat_le 48 b) (nat_le b 57) p in let high = r.1 in (grind (arith, nat_tests), grind (arith, nat_tests))
    by false true p q f = let same = eqb-true b 45 q in (rw same refl, rw same refl)
    by false false p q f = absurd (cc)

int_text_no_sign : (bytes rest : List ℕ) → IntText bytes → NoSign (bytes ++ rest)
int_text_no_sign [] rest t = absurd (let s = t.some in omega arith)
int_text_no_sign (b ∷ bytes) rest t = int_no_sign b (and_left (is_int_byte b) (list_all is_int_byte bytes) t.all).0

constant_no_sign : (v : Value) (rest : List ℕ) → is_value v ≡ true → is_null v ≡ false → NoSign (constant_text v ++ rest)
constant_no_sign Null rest e n = absurd (cc)
constant_no_sign (Int z) rest e n = int_text_no_sign (signed_decimal z) rest (int_text z e)
constant_no_sign (Text t) rest e n = (refl, refl)

cmp_stops : (c : Cmp) (rest : List ℕ) → Stops is_name_byte (cmp_text c ++ rest)
cmp_stops cmp.Eq rest = refl
cmp_stops cmp.Ne rest = refl
cmp_stops cmp.Lt rest = refl
cmp_stops cmp.Le rest = refl
cmp_stops cmp.Gt rest = refl
cmp_stops cmp.Ge rest = refl

-- ---- tests

-- a test that a text can have
record Spelled (test : Test) : Type 0 where
  column : is_short_name test.column ≡ true
  constant : is_value test.value ≡ true
  some : is_null test.value ≡ false

test_at-again : (test : Test) (more : List ℕ) → Spelled test → test_at (test_text test ++ (32 ∷ more)) ≡ Some (test, 32 ∷ more)
unfolding test_at
test_at-again test more s =
    let rest = 32 ∷ more in
    let tail = constant_text test.value ++ rest in
    let whole : test_text test ++ rest ≡ test.column ++ (cmp_text test.cmp ++ tail) =
    append_assoc test.column (cmp_text test.cmp ++ constant_text test.value) rest ∙ ap (λ l. test.column ++ l) (append_assoc (cmp_text test.cmp) (constant_text test.value) rest) in
    ap (λ t. name_at t >>= λ column. cmp_at column.1 >>= λ cmp. constant_at cmp.1 >>= λ value. Some (record { column = column.0; cmp = cmp.0; value = value.0 }, value.1)) whole
    ∙ rw (
      name_at-again test.column (cmp_text test.cmp ++ tail) s.column (cmp_stops test.cmp tail),
      cmp_at-again test.cmp tail (constant_no_sign test.value rest s.constant s.some),
      constant_at-again test.value more s.constant s.some,
    ) refl

-- the tests of a list
abbrev AllSpelled : List Test → Type 0
AllSpelled [] = Unit {0}
AllSpelled (test ∷ tests) = Spelled test × AllSpelled tests

-- a text that no further test begins
abbrev NoAnd : List ℕ → Type 0
NoAnd more = behind_word (codes " and ") (32 ∷ more) ≡ None

-- the tests of a text, the first and those behind it
tests_at-again : (test : Test) (tests : List Test) (most : ℕ) (more : List ℕ) → length tests ≤ most → AllSpelled (test ∷ tests) → NoAnd more
    → tests_at (suc most) (tests_text (test ∷ tests) ++ (32 ∷ more)) ≡ Some (test ∷ tests, 32 ∷ more)
unfolding tests_at
tests_at-again test [] most more few s end =
    let whole : tests_text (test ∷ []) ++ (32 ∷ more) ≡ test_text test ++ (32 ∷ more) = ap (λ l. l ++ (32 ∷ more)) (append-nil (test_text test)) in
    rw (whole, test_at-again test more s.0, end) refl
tests_at-again test (next ∷ tests) zero more few s end = absurd (omega arith)
tests_at-again test (next ∷ tests) (suc most) more few s end =
    let rest = 32 ∷ more in
    let others = tests_text (next ∷ tests) ++ rest in
    let whole : tests_text (test ∷ next ∷ tests) ++ rest ≡ test_text test ++ (codes " and " ++ others) =
    append_assoc (test_text test) (further_text (next ∷ tests)) rest
    ∙ ap (λ l. test_text test ++ l) (append_assoc (codes " and ") (tests_text (next ∷ tests)) rest) in
    let first : test_at (test_text test ++ (codes " and " ++ others)) ≡ Some (test, codes " and " ++ others) = test_at-again test (codes "and " ++ others) s.0 in
    let behind = tests_at-again next tests most more (omega arith) s.1 end in
    rw (whole, first) (ap (with_test test) behind)

all_spelled : (tests : List Test) → list_all is_spelled tests ≡ true → not (list_any (λ (test : Test). is_null test.value) tests) ≡ true → AllSpelled tests
all_spelled [] e n = tt
all_spelled (test ∷ tests) e n =
    let both = and_left (is_spelled test) (list_all is_spelled tests) e in
    let own = and_left (is_short_name test.column) (is_value test.value) both.0 in
    let some = neither (is_null test.value) (list_any (λ (t : Test). is_null t.value) tests) n in
    (record { column = own.0; constant = own.1; some = some.0 }, all_spelled tests both.1 some.1)
  where
    neither : (a b : Bool) → not (a || b) ≡ true → (a ≡ false) × (not b ≡ true)
    neither true b f = absurd (cc)
    neither false b f = (refl, f)

last_name-again : (name : List ℕ) → is_short_name name ≡ true → last_name name ≡ Some name
unfolding last_name
last_name-again name e = rw e refl

part_read-again : (table : List ℕ) (test : Test) (tests : List Test) (passing failing : List ℕ) → is_short_name table ≡ true → length tests ≤ 3 → AllSpelled (test ∷ tests) → is_short_name passing ≡ true → is_short_name failing ≡ true
    → part_read (table ++ (codes " if " ++ (tests_text (test ∷ tests) ++ targets_text passing failing))) ≡ Some (Part table (test ∷ tests) passing failing)
unfolding part_read
part_read-again table test tests passing failing t few s p f =
    let targets = targets_text passing failing in
    let read : tests_at 4 (tests_text (test ∷ tests) ++ targets) ≡ Some (test ∷ tests, targets) = tests_at-again test tests 3 (codes "into " ++ (passing ++ (codes " " ++ failing))) few s refl in
    rw (name_at-again table (codes " if " ++ (tests_text (test ∷ tests) ++ targets)) t refl, read, name_at-again passing (codes " " ++ failing) p refl, last_name-again failing f) refl

spec_parts : (a b c d : Bool) → (a && b && c && d) ≡ true → (a ≡ true) × (b ≡ true) × (c ≡ true) × (d ≡ true)
spec_parts true true true true e = (refl, refl, refl, refl)
spec_parts true true true false e = absurd (cc)
spec_parts true true false d e = absurd (cc)
spec_parts true false c d e = absurd (cc)
spec_parts false b c d e = absurd (cc)

-- the text of a transformation is read as it
pub spec_read-spec_text : (spec : Spec) → IsShaped spec → has_spelling spec ≡ true → spec_read (spec_text spec) ≡ Some spec
unfolding spec_read
spec_read-spec_text (Part table [] passing failing) shaped spelled = absurd (let some = shaped.some in omega arith)
spec_read-spec_text (Part table (test ∷ tests) passing failing) shaped spelled =
    let own = spec_parts (is_short_name table) (is_short_name passing) (is_short_name failing) (list_all is_spelled (test ∷ tests)) spelled in
    let few : length tests ≤ 3 = (let h = shaped.few in omega arith) in
    let whole : (table ++ (codes " if " ++ tests_text (test ∷ tests))) ++ targets_text passing failing ≡ table ++ (codes " if " ++ (tests_text (test ∷ tests) ++ targets_text passing failing)) =
    append_assoc table (codes " if " ++ tests_text (test ∷ tests)) (targets_text passing failing) in
    ap part_read whole ∙ part_read-again table test tests passing failing own.0 few (all_spelled (test ∷ tests) own.3 shaped.no_null) own.1 own.2
spec_read-spec_text (Join left right on_left on_right into) shaped spelled = absurd shaped
spec_read-spec_text (Split table by dep rest dependent) shaped spelled = absurd shaped
spec_read-spec_text (Union left right into) shaped spelled = absurd shaped
