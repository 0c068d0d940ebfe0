-- The text of a script is read as the script.
use Rattle.std.proofs.Common.{◌≡◌, ◌≤◌, ◌++◌, ℕ, Bool, true, false, cond, nat_le, List, [], ◌∷◌, length, map, Option, Some, None, option_map, option_and_then, refl, sym, ap, ◌∙◌, subst, arith, append-nil, append_assoc}
use Rattle.std.specs.List.{list_all, filter_map, AllByRecursion}
use Rattle.std.proofs.lemmas.Bool.Decides.{nat_tests}
use Rattle.std.proofs.lemmas.List.{length-map}
use Rattle.std.proofs.lemmas.List.Elements.{filter_map-append}
use Rattle.sx_values.specs.Texts.{is_printable}
use Rattle.sx_values.specs.Catalogs.{schema_of}
use Rattle.sx_lines.specs.declared.line.Line.{Line}
use Rattle.sx_lines.specs.Lines.{when, is_passed_over, text_lines}
use Rattle.sx_lines.specs.Forms.{HasLayouts, line_of}
use Rattle.sx_lines.specs.Printing.{line_text}
use Rattle.sx_lines.proofs.NameLaws.{lines_front, printable_free}
use Rattle.sx_lines.proofs.AgainLaws.{IsAgain, line_again}
use Rattle.sx_script.specs.Plans.{plan_of, known, table_of, accepts}
use Rattle.sx_script.specs.Reading.{line_in, item_in, lines_read, script_read}
use Rattle.sx_script.specs.Printing.{script_text}
use Rattle.sx_script.proofs.KeepLaws.{found_still}
use Rattle.sx_script.proofs.KnownLaws.{known_layouts}
use Rattle.sx_script.proofs.ScriptLaws.{script_short}

-- what a line's text shows: nothing, or a line that is read again
data ItemAgain (sofar item : List Line) : Type 0 where
  Nothing : item ≡ [] → ItemAgain sofar item
  Again : (l : Line) → item ≡ l ∷ [] → item_in sofar (line_text l) ≡ Some (l ∷ []) → list_all is_printable (line_text l) ≡ true → ItemAgain sofar item

accepted_again : (sofar : List Line) (l : Line) → accepts sofar l ≡ true → IsAgain (known (plan_of sofar)) l → item_in sofar (line_text l) ≡ Some (l ∷ [])
unfolding item_in line_in
accepted_again sofar l a is = rw (is.printable, is.meant, is.again, a) refl

item_again : (sofar : List Line) (text : List ℕ) (item : List Line) → HasLayouts (known (plan_of sofar)) → item_in sofar text ≡ Some item → ItemAgain sofar item
unfolding item_in line_in
item_again sofar text item has e = by (list_all is_printable text) (is_passed_over text) (line_of (known (plan_of sofar)) text) refl e
  where
    one : (l : Line) (t : Bool) → accepts sofar l ≡ t → IsAgain (known (plan_of sofar)) l → option_map (λ shown. shown ∷ []) (when t l) ≡ Some item → ItemAgain sofar item
    one l true a is f = Again l (sym (cc)) (accepted_again sofar l a is) is.printable
    one l false a is f = absurd (cc)

    by : (t u : Bool) (found : Option Line) → line_of (known (plan_of sofar)) text ≡ found
        → cond t (cond u (Some []) (option_map (λ shown. shown ∷ []) (option_and_then (λ shown. when (accepts sofar shown) shown) found))) None ≡ Some item → ItemAgain sofar item
    by true true found d f = Nothing (sym (cc))
    by true false None d f = absurd (cc)
    by true false (Some l) d f = one l (accepts sofar l) refl (line_again (known (plan_of sofar)) text l has d) f
    by false u found d f = absurd (cc)

layouts_before : (sofar more : List Line) → HasLayouts (plan_of (sofar ++ more)).catalog → HasLayouts (plan_of sofar).catalog
layouts_before sofar more has name layout e =
    has name layout (subst (λ tables. schema_of tables name ≡ Some layout) (sym (filter_map-append table_of sofar more)) (found_still (filter_map table_of sofar) (filter_map table_of more) name layout e))

abbrev AllPrintable : List Line → Type 0
AllPrintable lines = AllByRecursion (λ l. list_all is_printable (line_text l) ≡ true) lines

-- lines that are read again from their texts
pub record AreAgain (sofar lines : List Line) : Type 0 where
  pub again : lines_read sofar (map line_text lines) ≡ Some lines
  pub printable : AllPrintable lines

abbrev joins : List Line → Option (List Line) → Option (List Line)
joins item read = option_map (λ lines. item ++ lines) read

step_again : (sofar item more lines : List Line) → ItemAgain sofar item → AreAgain (sofar ++ item) more → item ++ more ≡ lines → AreAgain sofar lines
step_again sofar item more lines (Nothing none) rest e =
    let same : more ≡ lines = ap (λ i. i ++ more) (sym none) ∙ e in
    let before : sofar ++ item ≡ sofar = ap (λ i. sofar ++ i) none ∙ append-nil sofar in
    subst (AreAgain sofar) same (subst (λ s. AreAgain s more) before rest)
step_again sofar item more lines (Again l one read printable) rest e =
    let same : l ∷ more ≡ lines = ap (λ i. i ++ more) (sym one) ∙ e in
    let after = subst (λ i. AreAgain (sofar ++ i) more) one rest in
    subst (AreAgain sofar) same (record {
      again = ap (option_and_then (λ i. joins i (lines_read (sofar ++ i) (map line_text more)))) read ∙ ap (joins (l ∷ [])) after.again;
      printable = (printable, after.printable);
    })

pub lines_again : (sofar lines : List Line) (texts : List (List ℕ)) → HasLayouts (plan_of (sofar ++ lines)).catalog → lines_read sofar texts ≡ Some lines → AreAgain sofar lines
lines_again sofar lines [] has e = let same : [] ≡ lines = cc in subst (AreAgain sofar) same (record { again = refl; printable = tt })
lines_again sofar lines (text ∷ texts) has e =
    by (item_in sofar text) refl e (λ item more g f. lines_again (sofar ++ item) more texts g f)
  where
    by : (found : Option (List Line)) → item_in sofar text ≡ found → option_and_then (λ item. joins item (lines_read (sofar ++ item) texts)) found ≡ Some lines
        → ((item more : List Line) → HasLayouts (plan_of ((sofar ++ item) ++ more)).catalog → lines_read (sofar ++ item) texts ≡ Some more → AreAgain (sofar ++ item) more) → AreAgain sofar lines
    by None d f go = absurd (cc)
    by (Some item) d f go = more_of (lines_read (sofar ++ item) texts) refl f
      where
        more_of : (found : Option (List Line)) → lines_read (sofar ++ item) texts ≡ found → joins item found ≡ Some lines → AreAgain sofar lines
        more_of None g h = absurd (cc)
        more_of (Some more) g h =
            let same : item ++ more ≡ lines = cc in
            let all = subst (λ ls. HasLayouts (plan_of (sofar ++ ls)).catalog) (sym same) has in
            let apart = subst (λ ls. HasLayouts (plan_of ls).catalog) (sym (append_assoc sofar item more)) all in
            step_again sofar item more lines (item_again sofar text item (known_layouts (plan_of sofar) (layouts_before sofar (item ++ more) all)) d) (go item more apart g) same

pub text_of_lines : (lines : List Line) → AllPrintable lines → text_lines (script_text lines) ≡ map line_text lines
text_of_lines [] p = refl
text_of_lines (l ∷ lines) p =
    ap text_lines (append_assoc (line_text l) (10 ∷ []) (script_text lines)) ∙ lines_front (line_text l) (script_text lines) (printable_free (line_text l) p.0) ∙ ap (λ ls. line_text l ∷ ls) (text_of_lines lines p.1)

-- a script is read again from its text
pub script_again : (bytes : List ℕ) (lines : List Line) → HasLayouts (plan_of lines).catalog → script_read bytes ≡ Some lines → script_read (script_text lines) ≡ Some lines
script_again bytes lines has e = by (nat_le (length (text_lines bytes)) 20000) e
  where
    by : (t : Bool) → cond t (lines_read [] (text_lines bytes)) None ≡ Some lines → script_read (script_text lines) ≡ Some lines
    by false f = absurd (cc)
    by true f =
        let a = lines_again [] lines (text_lines bytes) has f in
        let same = text_of_lines lines a.printable in
        let short = script_short bytes lines e in
        let few : nat_le (length (map line_text lines)) 20000 ≡ true = within (length-map lines line_text) short in
        ap (λ ls. cond (nat_le (length ls) 20000) (lines_read [] ls) None) same ∙ ap (λ t. cond t (lines_read [] (map line_text lines)) None) few ∙ a.again
      where
        within : {n m : ℕ} → n ≡ m → m ≤ 20000 → nat_le n 20000 ≡ true
        within s h = grind (arith, nat_tests)
