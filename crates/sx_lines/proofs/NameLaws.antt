-- Names within lines.
use Rattle.std.proofs.Common.{◌≡◌, ◌≤◌, ◌++◌, ◌==◌, ◌&&◌, ◌||◌, ℕ, Bool, true, false, not, nat_le, List, [], ◌∷◌, length, Some, refl, ◌∙◌, subst, arith, eqb-true, eq-eqb}
use Rattle.std.specs.List.{list_all}
use Rattle.std.proofs.lemmas.Bool.Decides.{nat_tests}
use Rattle.std.proofs.lemmas.List.Folds.{list_all-append}
use Rattle.sx_values.specs.Texts.{is_printable, is_name, is_name_byte, is_lower, is_digit}
use Rattle.sx_lines.specs.Lines.{when, parted, words, text_lines, is_short_name}

pub when_some : {A : Type 0} (t : Bool) (x y : A) → when t x ≡ Some y → (t ≡ true) × (x ≡ y)
when_some true x y e = (refl, cc)
when_some false x y e = absurd (cc)

pub and_left : (a b : Bool) → (a && b) ≡ true → (a ≡ true) × (b ≡ true)
and_left true true e = (refl, refl)
and_left true false e = absurd (cc)
and_left false b e = absurd (cc)

pub and_both : (a b : Bool) → a ≡ true → b ≡ true → (a && b) ≡ true
and_both true true p q = refl
and_both true false p q = q
and_both false b p q = p

-- bytes without a mark
abbrev pub is_free : ℕ → List ℕ → Bool
is_free mark bytes = list_all (λ b. not (b == mark)) bytes

same_mark : (mark : ℕ) → (mark == mark) ≡ true
same_mark mark = eq-eqb mark mark refl

other_mark : (b mark : ℕ) → not (b == mark) ≡ true → (b == mark) ≡ false
other_mark b mark e = by (b == mark) e
  where
    by : (t : Bool) → not t ≡ true → t ≡ false
    by true f = absurd (cc)
    by false f = refl

-- a text is parted behind bytes without the mark
pub parted_front : (mark : ℕ) (front rest : List ℕ) → is_free mark front ≡ true → parted mark (front ++ mark ∷ rest) ≡ Some (front, rest)
parted_front mark [] rest e = rw (same_mark mark) refl
parted_front mark (b ∷ front) rest e =
    let p = and_left (not (b == mark)) (is_free mark front) e in
    rw (other_mark b mark p.0, parted_front mark front rest p.1) refl

-- words are parted behind bytes without a space
pub words_front : (front rest : List ℕ) → is_free 32 front ≡ true → words (front ++ 32 ∷ rest) ≡ front ∷ words rest
words_front [] rest e = refl
words_front (b ∷ front) rest e =
    let p = and_left (not (b == 32)) (is_free 32 front) e in
    rw (other_mark b 32 p.0, words_front front rest p.1) refl

pub words_single : (word : List ℕ) → is_free 32 word ≡ true → words word ≡ word ∷ []
words_single [] e = refl
words_single (b ∷ word) e =
    let p = and_left (not (b == 32)) (is_free 32 word) e in
    rw (other_mark b 32 p.0, words_single word p.1) refl

pub lines_front : (front rest : List ℕ) → is_free 10 front ≡ true → text_lines (front ++ 10 ∷ rest) ≡ front ∷ text_lines rest
lines_front [] rest e = refl
lines_front (b ∷ front) rest e =
    let p = and_left (not (b == 10)) (is_free 10 front) e in
    rw (other_mark b 10 p.0, lines_front front rest p.1) refl

-- what a byte is tells that it is no mark
free_of : (p : ℕ → Bool) (mark : ℕ) (bytes : List ℕ) → p mark ≡ false → list_all p bytes ≡ true → is_free mark bytes ≡ true
free_of p mark [] never e = refl
free_of p mark (b ∷ bytes) never e =
    let q = and_left (p b) (list_all p bytes) e in
    and_both (not (b == mark)) (is_free mark bytes) (by (b == mark) refl q.0) (free_of p mark bytes never q.1)
  where
    by : (t : Bool) → (b == mark) ≡ t → p b ≡ true → not t ≡ true
    by true d holds = absurd (let s : b ≡ mark = eqb-true b mark d in let f : p mark ≡ true = subst (λ c. p c ≡ true) s holds in cc)
    by false d holds = refl

pub printable_free : (bytes : List ℕ) → list_all is_printable bytes ≡ true → is_free 10 bytes ≡ true
printable_free bytes e = free_of is_printable 10 bytes refl e

pub free_append : (mark : ℕ) (xs ys : List ℕ) → is_free mark xs ≡ true → is_free mark ys ≡ true → is_free mark (xs ++ ys) ≡ true
free_append mark xs ys p q = list_all-append (λ b. not (b == mark)) xs ys ∙ and_both (is_free mark xs) (is_free mark ys) p q

pub printable_append : (xs ys : List ℕ) → list_all is_printable xs ≡ true → list_all is_printable ys ≡ true → list_all is_printable (xs ++ ys) ≡ true
printable_append xs ys p q = list_all-append is_printable xs ys ∙ and_both (list_all is_printable xs) (list_all is_printable ys) p q

-- a name has name bytes alone
name_bytes : (name : List ℕ) → is_name name ≡ true → list_all is_name_byte name ≡ true
name_bytes [] e = absurd (cc)
name_bytes (b ∷ rest) e =
    let p = and_left (is_lower b && nat_le (length rest) 31) (list_all is_name_byte rest) e in
    let q = and_left (is_lower b) (nat_le (length rest) 31) p.0 in
    and_both (is_name_byte b) (list_all is_name_byte rest) (rw q.0 refl) p.1

name_byte_printable : (b : ℕ) → is_name_byte b ≡ true → is_printable b ≡ true
name_byte_printable b e = by (is_lower b) (is_digit b) (b == 95) refl refl refl e
  where
    within : 32 ≤ b → b ≤ 126 → is_printable b ≡ true
    within low high = and_both (nat_le 0x20 b) (nat_le b 0x7E) (grind (arith, nat_tests)) (grind (arith, nat_tests))

    range : (low high : ℕ) → (nat_le low b && nat_le b high) ≡ true → (low ≤ b) × (b ≤ high)
    range low high f = let p = and_left (nat_le low b) (nat_le b high) f in let x = p.0 in let y = p.1 in (grind (arith, nat_tests), grind (arith, nat_tests))

    by : (l d u : Bool) → is_lower b ≡ l → is_digit b ≡ d → (b == 95) ≡ u → (l || d || u) ≡ true → is_printable b ≡ true
    by true d u f g h e = let r = range 97 122 f in within (let x = r.0 in omega arith) (let y = r.1 in omega arith)
    by false true u f g h e = let r = range 48 57 g in within (let x = r.0 in omega arith) (let y = r.1 in omega arith)
    by false false true f g h e = let s : b ≡ 95 = eqb-true b 95 h in within (omega arith) (omega arith)
    by false false false f g h e = absurd (cc)

pub all_implied : (p q : ℕ → Bool) → ((b : ℕ) → p b ≡ true → q b ≡ true) → (bytes : List ℕ) → list_all p bytes ≡ true → list_all q bytes ≡ true
all_implied p q i [] e = refl
all_implied p q i (b ∷ bytes) e =
    let r = and_left (p b) (list_all p bytes) e in
    and_both (q b) (list_all q bytes) (i b r.0) (all_implied p q i bytes r.1)

-- what is known of a name of up to 16 bytes
pub record IsNamed (name : List ℕ) : Type 0 where
  pub short : is_short_name name ≡ true
  pub no_space : is_free 32 name ≡ true
  pub no_colon : is_free 58 name ≡ true
  pub printable : list_all is_printable name ≡ true

pub is_named : (name : List ℕ) → is_short_name name ≡ true → IsNamed name
is_named name e =
    let p = and_left (is_name name) (nat_le (length name) 16) e in
    let bytes = name_bytes name p.0 in
    record {
      short = e;
      no_space = free_of is_name_byte 32 name refl bytes;
      no_colon = free_of is_name_byte 58 name refl bytes;
      printable = all_implied is_name_byte is_printable name_byte_printable name bytes;
    }
