-- What every script's plan is.
use Rattle.std.proofs.Common.{◌≡◌, ◌≤◌, ◌+◌, ◌++◌, ℕ, suc, Bool, true, false, cond, nat_le, List, [], ◌∷◌, length, filter, Option, Some, None, option_map, option_and_then, refl, subst, arith}
use Rattle.std.specs.List.{list_all, filter_map, cons_option, All, AllByRecursion}
use Rattle.std.proofs.lemmas.Bool.Decides.{nat_tests}
use Rattle.std.proofs.lemmas.Grind.{common_steps}
use Rattle.std.proofs.lemmas.List.{length-append}
use Rattle.std.proofs.lemmas.List.Elements.{All-from_recursion}
use Rattle.sx_values.specs.Names.{same_name}
use Rattle.sx_values.specs.Texts.{is_printable}
use Rattle.sx_log.specs.declared.record.Load.{Load}
use Rattle.sx_ops.specs.declared.spec.Spec.{Spec}
use Rattle.sx_ops.specs.declared.spec.Spec.TheVariants.{Join, Split, Part, Union}
use Rattle.sx_ops.specs.Checks.{IsPart}
use Rattle.sx_lines.specs.declared.line.Line.{Line}
use Rattle.sx_lines.specs.declared.line.Line.TheVariants as line
use Rattle.sx_lines.specs.Lines.{text_lines, is_passed_over, when}
use Rattle.sx_lines.specs.Forms.{line_of}
use Rattle.sx_lines.specs.Printing.{HasText}
use Rattle.sx_script.specs.Plans.{plan_of, known, load_of, asked_at, pace_at, from_place, is_shaped, accepts}
use Rattle.sx_script.specs.Reading.{item_in, line_in, lines_read, script_read}
use Rattle.sx_script.specs.Sound.{IsSound, IsRunnable}

item_short : (sofar : List Line) (text : List ℕ) (item : List Line) → item_in sofar text ≡ Some item → length item ≤ 1
unfolding item_in
item_short sofar text item e = by (list_all is_printable text) (is_passed_over text) (line_in sofar text) e
  where
    one : (found : Option Line) → option_map (λ shown. shown ∷ []) found ≡ Some item → length item ≤ 1
    one None f = absurd (cc)
    one (Some l) f = let s : l ∷ [] ≡ item = cc in subst (λ i. length i ≤ 1) s (omega arith)

    by : (t u : Bool) (found : Option Line) → cond t (cond u (Some []) (option_map (λ shown. shown ∷ []) found)) None ≡ Some item → length item ≤ 1
    by true true found f = let s : [] ≡ item = cc in subst (λ i. length i ≤ 1) s (omega arith)
    by true false found f = one found f
    by false u found f = absurd (cc)

-- no more lines are read than there are in the text
pub lines_few : (sofar : List Line) (texts : List (List ℕ)) (lines : List Line) → lines_read sofar texts ≡ Some lines → length lines ≤ length texts
lines_few sofar [] lines e = let s : [] ≡ lines = cc in subst (λ l. length l ≤ 0) s (omega arith)
lines_few sofar (text ∷ texts) lines e = by (item_in sofar text) refl e (λ item more f. lines_few (sofar ++ item) texts more f)
  where
    joined : (item : List Line) (found : Option (List Line)) → length item ≤ 1 → ((more : List Line) → found ≡ Some more → length more ≤ length texts) → option_map (λ more. item ++ more) found ≡ Some lines → length lines ≤ suc (length texts)
    joined item None short go f = absurd (cc)
    joined item (Some more) short go f = let s : item ++ more ≡ lines = cc in let few = go more refl in subst (λ l. length l ≤ suc (length texts)) s (omega (arith, length-append item more))

    by : (found : Option (List Line)) → item_in sofar text ≡ found → option_and_then (λ item. option_map (λ more. item ++ more) (lines_read (sofar ++ item) texts)) found ≡ Some lines
        → ((item more : List Line) → lines_read (sofar ++ item) texts ≡ Some more → length more ≤ length texts) → length lines ≤ suc (length texts)
    by None d f go = absurd (cc)
    by (Some item) d f go = joined item (lines_read (sofar ++ item) texts) (item_short sofar text item d) (λ more g. go item more g) f

pub script_short : (bytes : List ℕ) (lines : List Line) → script_read bytes ≡ Some lines → length lines ≤ 20000
script_short bytes lines e = by (nat_le (length (text_lines bytes)) 20000) refl e
  where
    by : (t : Bool) → nat_le (length (text_lines bytes)) 20000 ≡ t → cond t (lines_read [] (text_lines bytes)) None ≡ Some lines → length lines ≤ 20000
    by true d f = let few = lines_few [] (text_lines bytes) lines f in let within : length (text_lines bytes) ≤ 20000 = grind (arith, nat_tests) in omega arith
    by false d f = absurd (cc)

one_short : {A B : Type 0} (f : A → Option B) (xs : List A) (o : Option B) → length (filter_map f xs) ≤ length xs → length (cons_option o (filter_map f xs)) ≤ suc (length xs)
one_short f xs None h = omega arith
one_short f xs (Some y) h = omega arith

map_short : {A B : Type 0} (f : A → Option B) (xs : List A) → length (filter_map f xs) ≤ length xs
map_short f [] = omega arith
map_short f (x ∷ xs) = one_short f xs (f x) (map_short f xs)

placed_short : {A : Type 0} (shows : ℕ → Line → Option A) (place : ℕ) (lines : List Line) → length (from_place shows place lines) ≤ length lines
placed_short {A = A} shows place [] = omega arith
placed_short {A = A} shows place (l ∷ lines) = by (shows place l) (placed_short shows (place + 1) lines)
  where
    by : (o : Option A) → length (from_place shows (place + 1) lines) ≤ length lines → length (cons_option o (from_place shows (place + 1) lines)) ≤ suc (length lines)
    by None h = omega arith
    by (Some x) h = omega arith

kept_short : {A : Type 0} (p : A → Bool) (x : A) (xs : List A) (t : Bool) → length (filter p xs) ≤ length xs → length (cond t (x ∷ filter p xs) (filter p xs)) ≤ suc (length xs)
kept_short p x xs true h = omega arith
kept_short p x xs false h = omega arith

filter_short : {A : Type 0} (p : A → Bool) (xs : List A) → length (filter p xs) ≤ length xs
filter_short p [] = omega arith
filter_short p (x ∷ xs) = kept_short p x xs (p x) (filter_short p xs)

pub runnable : (lines : List Line) → length lines ≤ 20000 → IsSound (plan_of lines) → IsRunnable (plan_of lines)
runnable lines few s =
    let loads = map_short load_of lines in
    let asked = placed_short asked_at 1 lines in
    let paces = placed_short pace_at 1 lines in
    record {
      loads = record { admitted = s.admitted; apart = s.apart; few = λ table. let into = filter_short (λ (load : Load). same_name load.table table) (plan_of lines).loads in omega arith };
      fits = s.fits;
      blocking = s.blocking;
      clients = s.clients;
      few = omega arith;
      paces = s.paces;
      few_paces = omega arith;
      few_retries = s.few_retries;
    }

-- ---- lines have texts

shaped_part : (spec : Spec) → is_shaped spec ≡ true → IsPart spec
shaped_part (Part table tests passing failing) e = tt
shaped_part (Join left right on_left on_right into) e = absurd (cc)
shaped_part (Split table by dep rest dependent) e = absurd (cc)
shaped_part (Union left right into) e = absurd (cc)

accepted_text : (sofar : List Line) (l : Line) → accepts sofar l ≡ true → HasText l
accepted_text sofar (line.Table name schema) e = tt
accepted_text sofar (line.Index table columns) e = tt
accepted_text sofar (line.Row table row) e = tt
accepted_text sofar (line.Change spec) e = let shaped : is_shaped spec ≡ true = grind (arith, common_steps) in shaped_part spec shaped
accepted_text sofar (line.Strategy strategy) e = tt
accepted_text sofar (line.Retries n) e = tt
accepted_text sofar (line.Client n what) e = tt
accepted_text sofar (line.Pace pace) e = tt

item_texts : (sofar : List Line) (text : List ℕ) (item : List Line) → item_in sofar text ≡ Some item → AllByRecursion HasText item
unfolding item_in line_in
item_texts sofar text item e = by (list_all is_printable text) (is_passed_over text) (line_of (known (plan_of sofar)) text) e
  where
    one : (l : Line) (t : Bool) → accepts sofar l ≡ t → option_map (λ shown. shown ∷ []) (when t l) ≡ Some item → AllByRecursion HasText item
    one l true a f = let s : l ∷ [] ≡ item = cc in subst (AllByRecursion HasText) s (accepted_text sofar l a, tt)
    one l false a f = absurd (cc)

    by : (t u : Bool) (found : Option Line)
        → cond t (cond u (Some []) (option_map (λ shown. shown ∷ []) (option_and_then (λ shown. when (accepts sofar shown) shown) found))) None ≡ Some item → AllByRecursion HasText item
    by true true found f = let s : [] ≡ item = cc in subst (AllByRecursion HasText) s tt
    by true false None f = absurd (cc)
    by true false (Some l) f = one l (accepts sofar l) refl f
    by false u found f = absurd (cc)

texts_append : (xs ys : List Line) → AllByRecursion HasText xs → AllByRecursion HasText ys → AllByRecursion HasText (xs ++ ys)
texts_append [] ys a b = b
texts_append (x ∷ xs) ys a b = (a.0, texts_append xs ys a.1 b)

lines_texts : (sofar : List Line) (texts : List (List ℕ)) (lines : List Line) → lines_read sofar texts ≡ Some lines → AllByRecursion HasText lines
lines_texts sofar [] lines e = let s : [] ≡ lines = cc in subst (AllByRecursion HasText) s tt
lines_texts sofar (text ∷ texts) lines e = by (item_in sofar text) refl e (λ item more f. lines_texts (sofar ++ item) texts more f)
  where
    joined : (item : List Line) (found : Option (List Line)) → AllByRecursion HasText item → ((more : List Line) → found ≡ Some more → AllByRecursion HasText more) → option_map (λ more. item ++ more) found ≡ Some lines → AllByRecursion HasText lines
    joined item None a go f = absurd (cc)
    joined item (Some more) a go f = let s : item ++ more ≡ lines = cc in subst (AllByRecursion HasText) s (texts_append item more a (go more refl))

    by : (found : Option (List Line)) → item_in sofar text ≡ found → option_and_then (λ item. option_map (λ more. item ++ more) (lines_read (sofar ++ item) texts)) found ≡ Some lines
        → ((item more : List Line) → lines_read (sofar ++ item) texts ≡ Some more → AllByRecursion HasText more) → AllByRecursion HasText lines
    by None d f go = absurd (cc)
    by (Some item) d f go = joined item (lines_read (sofar ++ item) texts) (item_texts sofar text item d) (λ more g. go item more g) f

-- each line that was read has a text
pub script_texts : (bytes : List ℕ) (lines : List Line) → script_read bytes ≡ Some lines → All HasText lines
script_texts bytes lines e = by (nat_le (length (text_lines bytes)) 20000) e
  where
    by : (t : Bool) → cond t (lines_read [] (text_lines bytes)) None ≡ Some lines → All HasText lines
    by true f = All-from_recursion HasText lines (lines_texts [] (text_lines bytes) lines f)
    by false f = absurd (cc)
