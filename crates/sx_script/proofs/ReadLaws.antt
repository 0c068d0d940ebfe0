-- A script is read line by line.
use Rattle.std.proofs.Common.{◌≡◌, ◌≤◌, ◌<◌, ◌++◌, ℕ, suc, Bool, true, false, cond, nat_le, List, [], length, Option, Some, None, option_map, option_and_then, refl, ap, ◌∙◌, arith, append-nil, append_assoc}
use Rattle.std.proofs.lemmas.Bool.Decides.{nat_tests}
use Rattle.sx_lines.specs.declared.line.Line.{Line}
use Rattle.sx_lines.specs.Lines.{text_lines, next_line}
use Rattle.sx_script.specs.Reading.{item_in, lines_read, script_read}
use Rattle.sx_lines.proofs.PartLaws.{first_line, no_line}

-- what is read behind the lines so far, with them
abbrev pub whole : List Line → Option (List Line) → Option (List Line)
whole sofar read = option_map (λ more. sofar ++ more) read

joined : (sofar item : List Line) (read : Option (List Line)) → whole (sofar ++ item) read ≡ whole sofar (option_map (λ lines. item ++ lines) read)
joined sofar item None = refl
joined sofar item (Some lines) = ap Some (append_assoc sofar item lines)

further : (sofar longer : List Line) (found : Option (List Line)) (texts : List (List ℕ)) → Some longer ≡ whole sofar found
    → whole longer (lines_read longer texts) ≡ whole sofar (option_and_then (λ item. option_map (λ lines. item ++ lines) (lines_read (sofar ++ item) texts)) found)
further sofar longer None texts e = absurd (cc)
further sofar longer (Some item) texts e =
    let s : longer ≡ sofar ++ item = cc in
    ap (λ l. whole l (lines_read l texts)) s ∙ joined sofar item (lines_read (sofar ++ item) texts)

refused : (sofar : List Line) (found : Option (List Line)) (texts : List (List ℕ)) → None ≡ whole sofar found
    → whole sofar (option_and_then (λ item. option_map (λ lines. item ++ lines) (lines_read (sofar ++ item) texts)) found) ≡ None
refused sofar None texts e = refl
refused sofar (Some item) texts e = absurd (cc)

pub read_further : (sofar longer : List Line) (left text rest : List ℕ) → next_line left ≡ Some (text, rest) → Some longer ≡ whole sofar (item_in sofar text)
    → whole longer (lines_read longer (text_lines rest)) ≡ whole sofar (lines_read sofar (text_lines left))
read_further sofar longer left text rest n e = rw (first_line left text rest n) (further sofar longer (item_in sofar text) (text_lines rest) e)

pub read_refused : (sofar : List Line) (left text rest : List ℕ) → next_line left ≡ Some (text, rest) → None ≡ whole sofar (item_in sofar text)
    → whole sofar (lines_read sofar (text_lines left)) ≡ None
read_refused sofar left text rest n e = rw (first_line left text rest n) (refused sofar (item_in sofar text) (text_lines rest) e)

pub count_further : (left text rest : List ℕ) → next_line left ≡ Some (text, rest) → length (text_lines left) ≡ suc (length (text_lines rest))
count_further left text rest n = ap length (first_line left text rest n)

pub read_end : (sofar : List Line) (left : List ℕ) → next_line left ≡ None → whole sofar (lines_read sofar (text_lines left)) ≡ Some sofar
read_end sofar left n = rw (no_line left n) (ap Some (append-nil sofar))

pub script_many : (bytes : List ℕ) → 20000 < length (text_lines bytes) → script_read bytes ≡ None
script_many bytes h = let many : nat_le (length (text_lines bytes)) 20000 ≡ false = grind (arith, nat_tests) in rw many refl

pub script_few : (bytes : List ℕ) → length (text_lines bytes) ≤ 20000 → script_read bytes ≡ lines_read [] (text_lines bytes)
script_few bytes h = let few : nat_le (length (text_lines bytes)) 20000 ≡ true = grind (arith, nat_tests) in rw few refl

pub script_none : (bytes : List ℕ) → lines_read [] (text_lines bytes) ≡ None → script_read bytes ≡ None
script_none bytes e = by (nat_le (length (text_lines bytes)) 20000)
  where
    by : (t : Bool) → cond t (lines_read [] (text_lines bytes)) None ≡ None
    by true = e
    by false = refl
