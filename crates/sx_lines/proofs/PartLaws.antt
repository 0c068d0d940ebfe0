-- Where a text is parted, and what its lines and words are then.
use Rattle.std.proofs.Common.{◌≡◌, ◌+◌, ◌==◌, ℕ, suc, Bool, true, false, not, cond, nat_lt, List, [], ◌∷◌, length, Option, Some, None, option_map, refl, ap, ◌∙◌, arith, position, take, drop}
use Rattle.std.specs.List.{prefix_len}
use Rattle.std.proofs.lemmas.Bool.Decides.{nat_tests}
use Rattle.std.proofs.lemmas.List.{drop-drop}
use Rattle.std.proofs.lemmas.Option.{some_pair_parts}
use Rattle.sx_lines.specs.Lines.{parted, text_lines, words, with_byte, next_line, line_or}

-- how many bytes stand before the first mark
abbrev place : ℕ → List ℕ → ℕ
place mark xs = prefix_len (λ b. not (b == mark)) xs

abbrev Parts : Type 0
Parts = List ℕ × List ℕ

abbrev more : ℕ → Parts → Parts
more b parts = (b ∷ parts.0, parts.1)

abbrev parts_at : ℕ → List ℕ → Parts
parts_at k xs = (take k xs, drop (suc k) xs)

abbrev cut : ℕ → List ℕ → Option Parts
cut k xs = cond (nat_lt k (length xs)) (Some (parts_at k xs)) None

cut_more : (b k : ℕ) (rest : List ℕ) → option_map (more b) (cut k rest) ≡ cut (suc k) (b ∷ rest)
cut_more b k rest = by (nat_lt k (length rest)) (nat_lt (suc k) (length (b ∷ rest))) (grind (arith, nat_tests))
  where
    by : (s t : Bool) → s ≡ t → option_map (more b) (cond s (Some (parts_at k rest)) None) ≡ cond t (Some (parts_at (suc k) (b ∷ rest))) None
    by true true e = refl
    by false false e = refl
    by true false e = absurd (cc)
    by false true e = absurd (cc)

cut_step : (t : Bool) (b k : ℕ) (rest : List ℕ) (found : Option Parts) → found ≡ cut k rest → cond t (Some ([], rest)) (option_map (more b) found) ≡ cut (cond (not t) (1 + k) 0) (b ∷ rest)
cut_step true b k rest found e = let some : nat_lt 0 (length (b ∷ rest)) ≡ true = grind (arith, nat_tests) in rw some refl
cut_step false b k rest found e = let one : 1 + k ≡ suc k = omega arith in rw (one, e) (cut_more b k rest)

-- a text is parted at its first mark
parted_place : (mark : ℕ) (xs : List ℕ) → parted mark xs ≡ cut (place mark xs) xs
parted_place mark [] = refl
parted_place mark (b ∷ rest) = cut_step (b == mark) b (place mark rest) rest (parted mark rest) (parted_place mark rest)

parts_cut : (k : ℕ) (xs : List ℕ) → parts_at k xs ≡ (take k xs, drop 1 (drop k xs))
parts_cut k xs = let one : k + 1 ≡ suc k = omega arith in rw (drop-drop 1 k xs, one) refl

cut_at : (t : Bool) (n k : ℕ) (xs : List ℕ) → cond t (Some n) None ≡ Some k → cond t (Some (parts_at n xs)) None ≡ Some (parts_at k xs)
cut_at true n k xs e = let p : n ≡ k = cc in ap (λ m. Some (parts_at m xs)) p
cut_at false n k xs e = absurd (cc)

cut_none : (t : Bool) (n : ℕ) (xs : List ℕ) → cond t (Some n) None ≡ None → cond t (Some (parts_at n xs)) None ≡ None
cut_none true n xs e = absurd (cc)
cut_none false n xs e = refl

pub parted_at : (mark : ℕ) (xs : List ℕ) (k : ℕ) → position (λ b. b == mark) xs ≡ Some k → parted mark xs ≡ Some (take k xs, drop 1 (drop k xs))
parted_at mark xs k e =
    parted_place mark xs ∙ cut_at (nat_lt (place mark xs) (length xs)) (place mark xs) k xs e ∙ ap Some (parts_cut k xs)

pub not_parted : (mark : ℕ) (xs : List ℕ) → position (λ b. b == mark) xs ≡ None → parted mark xs ≡ None
not_parted mark xs e = parted_place mark xs ∙ cut_none (nat_lt (place mark xs) (length xs)) (place mark xs) xs e

-- the words of a text, by its parts
words_by : List ℕ → Option Parts → List (List ℕ)
words_by text None = text ∷ []
words_by text (Some parts) = parts.0 ∷ words parts.1

words_more : (b : ℕ) (rest : List ℕ) (found : Option Parts) → with_byte b (words_by rest found) ≡ words_by (b ∷ rest) (option_map (more b) found)
unfolding words_by
words_more b rest None = refl
words_more b rest (Some parts) = refl

words_step : (t : Bool) (b : ℕ) (rest : List ℕ) (found : Option Parts) → words rest ≡ words_by rest found → cond t ([] ∷ words rest) (with_byte b (words rest)) ≡ words_by (b ∷ rest) (cond t (Some ([], rest)) (option_map (more b) found))
unfolding words_by
words_step true b rest found e = refl
words_step false b rest found e = ap (with_byte b) e ∙ words_more b rest found

words_are : (text : List ℕ) → words text ≡ words_by text (parted 32 text)
unfolding words_by
words_are [] = refl
words_are (b ∷ rest) = words_step (b == 32) b rest (parted 32 rest) (words_are rest)

pub words_parted : (text front back : List ℕ) → parted 32 text ≡ Some (front, back) → words text ≡ front ∷ words back
unfolding words_by
words_parted text front back e = words_are text ∙ ap (words_by text) e

pub words_whole : (text : List ℕ) → parted 32 text ≡ None → words text ≡ text ∷ []
unfolding words_by
words_whole text e = words_are text ∙ ap (words_by text) e

-- the lines of a text, by its parts
lines_by : List ℕ → Option Parts → List (List ℕ)
lines_by [] None = []
lines_by (b ∷ rest) None = (b ∷ rest) ∷ []
lines_by text (Some parts) = parts.0 ∷ text_lines parts.1

lines_more : (b : ℕ) (rest : List ℕ) (found : Option Parts) → with_byte b (lines_by rest found) ≡ lines_by (b ∷ rest) (option_map (more b) found)
unfolding lines_by
lines_more b [] None = refl
lines_more b (c ∷ rest) None = refl
lines_more b [] (Some parts) = refl
lines_more b (c ∷ rest) (Some parts) = refl

lines_step : (t : Bool) (b : ℕ) (rest : List ℕ) (found : Option Parts) → text_lines rest ≡ lines_by rest found → cond t ([] ∷ text_lines rest) (with_byte b (text_lines rest)) ≡ lines_by (b ∷ rest) (cond t (Some ([], rest)) (option_map (more b) found))
unfolding lines_by
lines_step true b rest found e = refl
lines_step false b rest found e = ap (with_byte b) e ∙ lines_more b rest found

lines_are : (text : List ℕ) → text_lines text ≡ lines_by text (parted 10 text)
unfolding lines_by
lines_are [] = refl
lines_are (b ∷ rest) = lines_step (b == 10) b rest (parted 10 rest) (lines_are rest)

pub lines_parted : (text front back : List ℕ) → parted 10 text ≡ Some (front, back) → text_lines text ≡ front ∷ text_lines back
unfolding lines_by
lines_parted [] front back e = absurd (cc)
lines_parted (b ∷ rest) front back e = lines_are (b ∷ rest) ∙ ap (lines_by (b ∷ rest)) e

pub lines_whole : (b : ℕ) (rest : List ℕ) → parted 10 (b ∷ rest) ≡ None → text_lines (b ∷ rest) ≡ (b ∷ rest) ∷ []
unfolding lines_by
lines_whole b rest e = lines_are (b ∷ rest) ∙ ap (lines_by (b ∷ rest)) e

-- the lines of a text, by its first one
pub no_line : (text : List ℕ) → next_line text ≡ None → text_lines text ≡ []
no_line [] e = refl
no_line (b ∷ rest) e = absurd (cc)

pub first_line : (text line rest : List ℕ) → next_line text ≡ Some (line, rest) → text_lines text ≡ line ∷ text_lines rest
unfolding lines_by
first_line [] line rest e = absurd (cc)
first_line (b ∷ more) line rest e = lines_are (b ∷ more) ∙ by (parted 10 (b ∷ more)) e
  where
    by : (found : Option Parts) → Some (line_or (b ∷ more) found) ≡ Some (line, rest) → lines_by (b ∷ more) found ≡ line ∷ text_lines rest
    by None f = let p = some_pair_parts (b ∷ more) line [] rest f in λ i. p.0 i ∷ text_lines (p.1 i)
    by (Some parts) f = let p = some_pair_parts parts.0 line parts.1 rest f in λ i. p.0 i ∷ text_lines (p.1 i)
