-- The text of a line is read as the line.
use Rattle.std.proofs.Common.{◌≡◌, ◌≤◌, ◌+◌, ◌-◌, ◌++◌, ◌==◌, ◌&&◌, ℕ, Bool, true, false, not, cond, is_some, nat_le, List, [], ◌∷◌, Option, Some, None, option_map, option_and_then, refl, sym, ap, ◌∙◌, subst, arith, codes}
use Rattle.std.specs.List.{list_all, AllByRecursion}
use Rattle.std.specs.Fmt.{decimal}
use Rattle.std.proofs.lemmas.Bool.Decides.{nat_tests}
use Rattle.std.proofs.lemmas.Fmt.{decimal_digit}
use Rattle.std.proofs.lemmas.List.Elements.{recursion_from_All}
use Rattle.sx_values.specs.declared.value.Value.{Value}
use Rattle.sx_values.specs.declared.schema.Column.{Column}
use Rattle.sx_values.specs.declared.catalog.Declared.{Declared}
use Rattle.sx_values.specs.Texts.{is_printable}
use Rattle.sx_values.specs.Names.{same_name}
use Rattle.sx_values.specs.Layouts.{Layout, IsLayout}
use Rattle.sx_values.specs.SchemaFaults.{schema_fault}
use Rattle.sx_values.specs.Catalogs.{schema_of, declared_as, IsTable, IsCatalog}
use Rattle.sx_ops.specs.declared.spec.Spec.{Spec}
use Rattle.sx_sync.specs.declared.Strategy.{Strategy}
use Rattle.sx_journal.specs.declared.entry.PropLine.{PropLine}
use Rattle.sx_journal.specs.declared.entry.Request.TheVariants as request
use Rattle.sx_journal.specs.declared.entry.What.{What}
use Rattle.sx_journal.specs.declared.entry.What.TheVariants.{Ask, Abort}
use Rattle.sx_text.specs.Records.{record_text}
use Rattle.sx_lang.specs.Spelling.{spec_text}
use Rattle.sx_lines.specs.declared.line.Line.{Line}
use Rattle.sx_lines.specs.declared.line.Line.TheVariants as line
use Rattle.sx_lines.specs.Lines.{when, parted, behind, same_bytes, words, named, is_short_name, is_passed_over}
use Rattle.sx_lines.specs.Columns.{layout_over, no_columns, declarable}
use Rattle.sx_lines.specs.Fields.{row_shown, key_shown, spec_shown}
use Rattle.sx_lines.specs.Forms.{HasLayouts, table_in, row_in, key_in, loads, reads, inserts, updates, deletes, choose, what_in, digit_in, strategy_in, pace_in, client_in, line_of}
use Rattle.sx_lines.specs.Printing.{named_text, columns_text, strategy_text, pace_text, what_text, line_text, column_text, is_key_place}
use Rattle.sx_lines.proofs.NameLaws.{when_some, and_left, and_both, parted_front, printable_append, IsNamed, is_named}
use Rattle.sx_lines.proofs.ColumnLaws.{column_words, words_of_columns, printable_columns, AreRead, columns_again}
use Rattle.sx_lines.proofs.FieldLaws.{IsShown, row_again, key_again}
use Rattle.sx_lines.proofs.SpecLaws.{IsSpelled, spec_again}
use Rattle.sx_lines.proofs.PaceLaws.{IsPaceText, strategy_again, pace_again}

-- ---- declared tables

layout_step : (b : Bool) (t : Declared) (tables : List Declared) (name : List ℕ) (layout : Layout) → IsTable t → (schema_of tables name ≡ Some layout → IsLayout layout)
    → option_map (λ (d : Declared). d.schema) (cond b (Some t) (declared_as tables name)) ≡ Some layout → IsLayout layout
layout_step true t tables name layout is go e = let same : t.schema ≡ layout = cc in subst IsLayout same is.layout
layout_step false t tables name layout is go e = go e

layouts_of : (tables : List Declared) → AllByRecursion IsTable tables → HasLayouts tables
layouts_of [] all name layout e = absurd (cc)
layouts_of (t ∷ tables) all name layout e = layout_step (same_name t.name name) t tables name layout all.0 (layouts_of tables all.1 name layout) e

-- declared tables have layouts
pub has_layouts : (tables : List Declared) → IsCatalog tables → HasLayouts tables
has_layouts tables is = layouts_of tables (recursion_from_All IsTable tables is.sound)

-- ---- a name and a record

-- a name and values that are shown again behind it
record IsNamedText (shows : List ℕ → Option (List ℕ × List Value)) (parts : List ℕ × List Value) : Type 0 where
  again : shows (named_text parts.0 parts.1) ≡ Some parts
  printable : list_all is_printable (named_text parts.0 parts.1) ≡ true

abbrev shows_by : List Declared → (Layout → List ℕ → Option (List Value)) → List ℕ → Option (List ℕ × List Value)
shows_by catalog shown text = option_and_then (λ parts. option_and_then (λ layout. option_and_then (λ values. Some (parts.0, values)) (shown layout parts.1)) (schema_of catalog parts.0)) (named text)

named_front : (name rest : List ℕ) → IsNamed name → named (name ++ 32 ∷ rest) ≡ Some (name, rest)
named_front name rest n = rw (parted_front 32 name rest n.no_space, n.short) refl

named_is : (text : List ℕ) (parts : List ℕ × List ℕ) → named text ≡ Some parts → IsNamed parts.0
named_is text parts e = by (parted 32 text) e
  where
    by : (found : Option (List ℕ × List ℕ)) → option_and_then (λ p. when (is_short_name p.0) p) found ≡ Some parts → IsNamed parts.0
    by None f = absurd (cc)
    by (Some p) f = let w = when_some (is_short_name p.0) p parts f in subst (λ q. IsNamed q.0) w.1 (is_named p.0 w.0)

shown_by : (catalog : List Declared) (shown : Layout → List ℕ → Option (List Value)) (name : List ℕ) (layout : Layout) (values : List Value) → IsNamed name → schema_of catalog name ≡ Some layout → IsShown (shown layout) values
    → IsNamedText (shows_by catalog shown) (name, values)
shown_by catalog shown name layout values n e s = record {
  again = rw (named_front name (record_text values) n, e, s.again) refl;
  printable = printable_append name (32 ∷ record_text values) n.printable s.printable;
}

named_again : (catalog : List Declared) (shown : Layout → List ℕ → Option (List Value)) (text : List ℕ) (parts : List ℕ × List Value) → HasLayouts catalog
    → ((layout : Layout) (rest : List ℕ) (values : List Value) → IsLayout layout → shown layout rest ≡ Some values → IsShown (shown layout) values)
    → shows_by catalog shown text ≡ Some parts → IsNamedText (shows_by catalog shown) parts
named_again catalog shown text parts has shows e = by (named text) refl e
  where
    values_of : (name rest : List ℕ) (layout : Layout) (found : Option (List Value)) → IsNamed name → schema_of catalog name ≡ Some layout → shown layout rest ≡ found
        → option_and_then (λ values. Some (name, values)) found ≡ Some parts → IsNamedText (shows_by catalog shown) parts
    values_of name rest layout None n d g f = absurd (cc)
    values_of name rest layout (Some values) n d g f =
        let P : List ℕ × List Value → Type 0 = λ p. IsNamedText (shows_by catalog shown) p in
        let same : (name, values) ≡ parts = some_parts name values f in
        subst P same (shown_by catalog shown name layout values n d (shows layout rest values (has name layout d) g))
      where
        some_parts : (a : List ℕ) (b : List Value) → ◌≡◌ {A = Option (List ℕ × List Value)} (Some (a, b)) (Some parts) → ◌≡◌ {A = List ℕ × List Value} (a, b) parts
        some_parts a b g = cc

    layout_of : (name rest : List ℕ) (found : Option Layout) → IsNamed name → schema_of catalog name ≡ found
        → option_and_then (λ layout. option_and_then (λ values. Some (name, values)) (shown layout rest)) found ≡ Some parts → IsNamedText (shows_by catalog shown) parts
    layout_of name rest None n d f = absurd (cc)
    layout_of name rest (Some layout) n d f = values_of name rest layout (shown layout rest) n d refl f

    by : (found : Option (List ℕ × List ℕ)) → named text ≡ found
        → option_and_then (λ p. option_and_then (λ layout. option_and_then (λ values. Some (p.0, values)) (shown layout p.1)) (schema_of catalog p.0)) found ≡ Some parts → IsNamedText (shows_by catalog shown) parts
    by None d f = absurd (cc)
    by (Some p) d f = layout_of p.0 p.1 (schema_of catalog p.0) (named_is text p d) refl f

row_text_again : (catalog : List Declared) (text : List ℕ) (parts : List ℕ × List Value) → HasLayouts catalog → row_in catalog text ≡ Some parts → IsNamedText (row_in catalog) parts
unfolding row_in
row_text_again catalog text parts has e = named_again catalog row_shown text parts has row_again e

key_text_again : (catalog : List Declared) (text : List ℕ) (parts : List ℕ × List Value) → HasLayouts catalog → key_in catalog text ≡ Some parts → IsNamedText (key_in catalog) parts
unfolding key_in
key_text_again catalog text parts has e = named_again catalog key_shown text parts has key_again e

-- ---- lines

-- a line that is read again from its text
pub record IsAgain (catalog : List Declared) (l : Line) : Type 0 where
  pub again : line_of catalog (line_text l) ≡ Some l
  pub printable : list_all is_printable (line_text l) ≡ true
  pub meant : is_passed_over (line_text l) ≡ false

at_row : (catalog : List Declared) (text : List ℕ) → line_of catalog (codes "row " ++ text) ≡ option_map loads (row_in catalog text)
unfolding line_of
at_row catalog text = refl

at_table : (catalog : List Declared) (text : List ℕ) → line_of catalog (codes "table " ++ text) ≡ table_in text
unfolding line_of
at_table catalog text = refl

at_change : (catalog : List Declared) (text : List ℕ) → line_of catalog (codes "change " ++ text) ≡ option_map line.Change (spec_shown text)
unfolding line_of
at_change catalog text = refl

at_retries : (catalog : List Declared) (text : List ℕ) → line_of catalog (codes "retries " ++ text) ≡ option_map line.Retries (digit_in 0 8 text)
unfolding line_of
at_retries catalog text = refl

at_strategy : (catalog : List Declared) (text : List ℕ) → line_of catalog (codes "strategy " ++ text) ≡ option_map line.Strategy (strategy_in text)
unfolding line_of
at_strategy catalog text = refl

at_pace : (catalog : List Declared) (text : List ℕ) → line_of catalog (codes "p " ++ text) ≡ option_map line.Pace (pace_in text)
unfolding line_of
at_pace catalog text = refl

at_client : (catalog : List Declared) (b : ℕ) (text : List ℕ) → (b == 104) ≡ false → line_of catalog (99 ∷ b ∷ text) ≡ client_in catalog (b ∷ text)
unfolding line_of
at_client catalog b text other = rw other refl

row_line_again : (catalog : List Declared) (l : Line) (found : Option (List ℕ × List Value)) → ((parts : List ℕ × List Value) → found ≡ Some parts → IsNamedText (row_in catalog) parts) → option_map loads found ≡ Some l → IsAgain catalog l
row_line_again catalog l None is e = absurd (cc)
row_line_again catalog l (Some parts) is e =
    let n = is parts refl in
    let same : loads parts ≡ l = cc in
    subst (IsAgain catalog) same (record {
      again = at_row catalog (named_text parts.0 parts.1) ∙ ap (option_map loads) n.again;
      printable = printable_append (codes "row ") (named_text parts.0 parts.1) refl n.printable;
      meant = refl;
    })

change_line_again : (catalog : List Declared) (l : Line) (found : Option Spec) → ((spec : Spec) → found ≡ Some spec → IsSpelled spec) → option_map line.Change found ≡ Some l → IsAgain catalog l
change_line_again catalog l None is e = absurd (cc)
change_line_again catalog l (Some spec) is e =
    let n = is spec refl in
    let same : line.Change spec ≡ l = cc in
    subst (IsAgain catalog) same (record {
      again = at_change catalog (spec_text spec) ∙ ap (option_map line.Change) n.again;
      printable = printable_append (codes "change ") (spec_text spec) refl n.printable;
      meant = refl;
    })

strategy_line_again : (catalog : List Declared) (l : Line) (found : Option Strategy) → option_map line.Strategy found ≡ Some l → IsAgain catalog l
strategy_line_again catalog l None e = absurd (cc)
strategy_line_again catalog l (Some s) e =
    let n = strategy_again s in
    let same : line.Strategy s ≡ l = cc in
    subst (IsAgain catalog) same (record {
      again = at_strategy catalog (strategy_text s) ∙ ap (option_map line.Strategy) n.again;
      printable = printable_append (codes "strategy ") (strategy_text s) refl n.printable;
      meant = refl;
    })

pace_line_again : (catalog : List Declared) (l : Line) (found : Option PropLine) → ((pace : PropLine) → found ≡ Some pace → IsPaceText pace) → option_map line.Pace found ≡ Some l → IsAgain catalog l
pace_line_again catalog l None is e = absurd (cc)
pace_line_again catalog l (Some pace) is e =
    let n = is pace refl in
    let same : line.Pace pace ≡ l = cc in
    subst (IsAgain catalog) same (record {
      again = at_pace catalog (pace_text pace) ∙ ap (option_map line.Pace) n.again;
      printable = printable_append (codes "p ") (pace_text pace) refl n.printable;
      meant = refl;
    })

-- ---- tables

some_column : (columns : List Column) (key : List ℕ) → is_some (schema_fault columns key) ≡ false → (c : Column) × (cs : List Column) × (columns ≡ c ∷ cs)
some_column [] key e = absurd (cc)
some_column (c ∷ cs) key e = (c, cs, refl)

declared_again : (catalog : List Declared) (name : List ℕ) (layout : Layout) → IsNamed name → is_some (schema_fault layout.columns layout.key) ≡ false → AreRead no_columns layout → IsAgain catalog (line.Table name layout)
unfolding table_in
declared_again catalog name layout n fits r =
    let (c, cs, some) = some_column layout.columns layout.key fits in
    let same : r.rest ≡ c ∷ cs = sym r.columns ∙ some in
    let key = layout.key in
    let named_all = subst (AllByRecursion (λ (x : Column). IsNamed x.name)) same r.named in
    let rest : List ℕ = column_text (is_key_place key 0) c ++ columns_text (0 + 1) key cs in
    let shape : columns_text 0 key layout.columns ≡ 32 ∷ rest = ap (columns_text 0 key) some in
    let ws : words rest ≡ column_words 0 key (c ∷ cs) = words_of_columns 0 key c cs named_all.0 named_all.1 in
    let over : layout_over no_columns (words rest) ≡ Some layout = ap (layout_over no_columns) (ws ∙ ap (column_words 0 key) (sym same)) ∙ r.again in
    let fit : declarable layout ≡ Some layout = ap (λ t. when (not t) layout) fits in
    record {
      again = ap (λ t. line_of catalog (codes "table " ++ (name ++ t))) shape ∙ at_table catalog (name ++ 32 ∷ rest) ∙ rw (named_front name rest n, over, fit) refl;
      printable = printable_append (codes "table ") (name ++ columns_text 0 key layout.columns) refl (printable_append name (columns_text 0 key layout.columns) n.printable
          (subst (λ cols. list_all is_printable (columns_text 0 key cols) ≡ true) (sym r.columns) (printable_columns 0 key r.rest r.named)));
      meant = refl;
    }

table_again : (catalog : List Declared) (text : List ℕ) (l : Line) → table_in text ≡ Some l → IsAgain catalog l
unfolding table_in
table_again catalog text l e = by (named text) refl e
  where
    fitting : (name : List ℕ) (draft : Layout) (found : Option Layout) → IsNamed name → AreRead no_columns draft → declarable draft ≡ found → option_and_then (λ layout. Some (line.Table name layout)) found ≡ Some l → IsAgain catalog l
    fitting name draft None n r d f = absurd (cc)
    fitting name draft (Some layout) n r d f =
        let w = when_some (not (is_some (schema_fault draft.columns draft.key))) draft layout d in
        let same : line.Table name layout ≡ l = cc in
        subst (IsAgain catalog) (ap (line.Table name) w.1 ∙ same) (declared_again catalog name draft n (off (is_some (schema_fault draft.columns draft.key)) w.0) r)
      where
        off : (t : Bool) → not t ≡ true → t ≡ false
        off true g = absurd (cc)
        off false g = refl

    drafted : (name rest : List ℕ) (found : Option Layout) → IsNamed name → layout_over no_columns (words rest) ≡ found
        → option_and_then (λ draft. option_and_then (λ layout. Some (line.Table name layout)) (declarable draft)) found ≡ Some l → IsAgain catalog l
    drafted name rest None n d f = absurd (cc)
    drafted name rest (Some draft) n d f = fitting name draft (declarable draft) n (columns_again no_columns draft (words rest) tt d) refl f

    by : (found : Option (List ℕ × List ℕ)) → named text ≡ found
        → option_and_then (λ p. option_and_then (λ draft. option_and_then (λ layout. Some (line.Table p.0 layout)) (declarable draft)) (layout_over no_columns (words p.1))) found ≡ Some l → IsAgain catalog l
    by None d f = absurd (cc)
    by (Some p) d f = drafted p.0 p.1 (layout_over no_columns (words p.1)) (named_is text p d) refl f

-- ---- repeats

-- a text of one digit is the number's own
record IsDigit (least most n : ℕ) (text : List ℕ) : Type 0 where
  from : least ≤ n
  to : n ≤ most
  is : text ≡ (48 + n) ∷ []

digit_is : (least most n : ℕ) (text : List ℕ) → digit_in least most text ≡ Some n → IsDigit least most n text
unfolding digit_in
digit_is least most n [] e = absurd (cc)
digit_is least most n (digit ∷ other ∷ rest) e = absurd (cc)
digit_is least most n (digit ∷ []) e =
    let w = when_some (nat_le (48 + least) digit && nat_le digit (48 + most)) (digit - 48) n e in
    let p = and_left (nat_le (48 + least) digit) (nat_le digit (48 + most)) w.0 in
    let low : 48 + least ≤ digit = (let x = p.0 in grind (arith, nat_tests)) in
    let high : digit ≤ 48 + most = (let x = p.1 in grind (arith, nat_tests)) in
    let same : digit - 48 ≡ n = w.1 in
    record {
      from = omega arith;
      to = omega arith;
      is = ap (λ b. b ∷ []) (let s : digit ≡ 48 + n = omega arith in s);
    }

-- a digit's number is read again from its decimal text
digit_again : (least most n : ℕ) (text : List ℕ) → most ≤ 9 → digit_in least most text ≡ Some n → decimal n ≡ text
digit_again least most n text few e =
    let d = digit_is least most n text e in
    let to = d.to in
    decimal_digit n (omega arith) ∙ sym d.is

decimal_printable : (least most n : ℕ) (text : List ℕ) → most ≤ 9 → digit_in least most text ≡ Some n → list_all is_printable (decimal n) ≡ true
decimal_printable least most n text few e =
    let d = digit_is least most n text e in
    let to = d.to in
    ap (list_all is_printable) (decimal_digit n (omega arith)) ∙ and_both (is_printable (48 + n)) true (and_both (nat_le 0x20 (48 + n)) (nat_le (48 + n) 0x7E) (grind (arith, nat_tests)) (grind (arith, nat_tests))) refl

retries_again : (catalog : List Declared) (l : Line) (text : List ℕ) (found : Option ℕ) → digit_in 0 8 text ≡ found → option_map line.Retries found ≡ Some l → IsAgain catalog l
retries_again catalog l text None d e = absurd (cc)
retries_again catalog l text (Some n) d e =
    let same : line.Retries n ≡ l = cc in
    subst (IsAgain catalog) same (record {
      again = at_retries catalog (decimal n) ∙ ap (λ t. option_map line.Retries (digit_in 0 8 t)) (digit_again 0 8 n text (omega arith) d) ∙ ap (option_map line.Retries) d;
      printable = printable_append (codes "retries ") (decimal n) refl (decimal_printable 0 8 n text (omega arith) d);
      meant = refl;
    })

-- ---- what clients do

at_read : (catalog : List Declared) (text : List ℕ) → what_in catalog (codes "read " ++ text) ≡ option_map reads (key_in catalog text)
unfolding what_in
at_read catalog text = refl

at_insert : (catalog : List Declared) (text : List ℕ) → what_in catalog (codes "insert " ++ text) ≡ option_map inserts (row_in catalog text)
unfolding what_in
at_insert catalog text = refl

at_update : (catalog : List Declared) (text : List ℕ) → what_in catalog (codes "update " ++ text) ≡ option_map updates (row_in catalog text)
unfolding what_in
at_update catalog text = refl

at_delete : (catalog : List Declared) (text : List ℕ) → what_in catalog (codes "delete " ++ text) ≡ option_map deletes (key_in catalog text)
unfolding what_in
at_delete catalog text = refl

-- what a client does that is read again from its text
record IsWhat (catalog : List Declared) (what : What) : Type 0 where
  again : what_in catalog (what_text what) ≡ Some what
  printable : list_all is_printable (what_text what) ≡ true

begin_again : (catalog : List Declared) → IsWhat catalog (Ask request.Begin)
unfolding what_in
begin_again catalog = record { again = refl; printable = refl }

commit_again : (catalog : List Declared) → IsWhat catalog (Ask request.Commit)
unfolding what_in
commit_again catalog = record { again = refl; printable = refl }

abort_again : (catalog : List Declared) → IsWhat catalog Abort
unfolding what_in
abort_again catalog = record { again = refl; printable = refl }

-- a name and a record behind a word
parts_again : (catalog : List Declared) (what : What) (shows : List ℕ → Option (List ℕ × List Value)) (made : List ℕ × List Value → What) (word : List ℕ) (found : Option (List ℕ × List Value))
    → ((text : List ℕ) → what_in catalog (word ++ text) ≡ option_map made (shows text)) → ((parts : List ℕ × List Value) → what_text (made parts) ≡ word ++ named_text parts.0 parts.1)
    → list_all is_printable word ≡ true → ((parts : List ℕ × List Value) → found ≡ Some parts → IsNamedText shows parts) → option_map made found ≡ Some what → IsWhat catalog what
parts_again catalog what shows made word None at texts printable is e = absurd (cc)
parts_again catalog what shows made word (Some parts) at texts printable is e =
    let n = is parts refl in
    let same : made parts ≡ what = cc in
    subst (IsWhat catalog) same (record {
      again = ap (what_in catalog) (texts parts) ∙ at (named_text parts.0 parts.1) ∙ ap (option_map made) n.again;
      printable = ap (list_all is_printable) (texts parts) ∙ printable_append word (named_text parts.0 parts.1) printable n.printable;
    })

what_again : (catalog : List Declared) (text : List ℕ) (what : What) → HasLayouts catalog → what_in catalog text ≡ Some what → IsWhat catalog what
unfolding what_in
what_again catalog text what has e =
    by (same_bytes text (codes "begin")) (same_bytes text (codes "commit")) (same_bytes text (codes "abort")) (behind (codes "read ") text) (behind (codes "insert ") text) (behind (codes "update ") text) (behind (codes "delete ") text) e
  where
    by : (begins commits aborts : Bool) (read insert update delete : Option (List ℕ))
        → cond begins (Some (Ask request.Begin)) (cond commits (Some (Ask request.Commit)) (cond aborts (Some Abort) (choose read (λ rest. option_map reads (key_in catalog rest))
        (choose insert (λ rest. option_map inserts (row_in catalog rest)) (choose update (λ rest. option_map updates (row_in catalog rest)) (choose delete (λ rest. option_map deletes (key_in catalog rest)) None)))))) ≡ Some what → IsWhat catalog what
    by true commits aborts read insert update delete f = let same : Ask request.Begin ≡ what = cc in subst (IsWhat catalog) same (begin_again catalog)
    by false true aborts read insert update delete f = let same : Ask request.Commit ≡ what = cc in subst (IsWhat catalog) same (commit_again catalog)
    by false false true read insert update delete f = let same : Abort ≡ what = cc in subst (IsWhat catalog) same (abort_again catalog)
    by false false false (Some rest) insert update delete f = parts_again catalog what (key_in catalog) reads (codes "read ") (key_in catalog rest) (at_read catalog) (λ parts. refl) refl (λ parts g. key_text_again catalog rest parts has g) f
    by false false false None (Some rest) update delete f = parts_again catalog what (row_in catalog) inserts (codes "insert ") (row_in catalog rest) (at_insert catalog) (λ parts. refl) refl (λ parts g. row_text_again catalog rest parts has g) f
    by false false false None None (Some rest) delete f = parts_again catalog what (row_in catalog) updates (codes "update ") (row_in catalog rest) (at_update catalog) (λ parts. refl) refl (λ parts g. row_text_again catalog rest parts has g) f
    by false false false None None None (Some rest) f = parts_again catalog what (key_in catalog) deletes (codes "delete ") (key_in catalog rest) (at_delete catalog) (λ parts. refl) refl (λ parts g. key_text_again catalog rest parts has g) f
    by false false false None None None None f = absurd (cc)

-- ---- clients

-- a client's line is read again where its number is a digit and what it does is read again
spoken_again : (catalog : List Declared) (n : ℕ) (front : List ℕ) (what : What) → digit_in 1 8 front ≡ Some n → IsWhat catalog what → IsAgain catalog (line.Client n what)
unfolding client_in
spoken_again catalog n front what d is =
    let digit = digit_is 1 8 n front d in
    let to = digit.to in
    let from = digit.from in
    let no_h : (48 + n == 104) ≡ false = grind (arith, nat_tests) in
    let no_space : (48 + n == 32) ≡ false = grind (arith, nat_tests) in
    let shown : decimal n ≡ (48 + n) ∷ [] = decimal_digit n (omega arith) in
    let text : line_text (line.Client n what) ≡ 99 ∷ (48 + n) ∷ 32 ∷ what_text what = ap (λ t. 99 ∷ (t ++ (32 ∷ what_text what))) shown in
    let read : digit_in 1 8 ((48 + n) ∷ []) ≡ Some n = ap (digit_in 1 8) (sym digit.is) ∙ d in
    record {
      again = ap (line_of catalog) text ∙ at_client catalog (48 + n) (32 ∷ what_text what) no_h ∙ rw (no_space, read, is.again) refl;
      printable = printable_append (99 ∷ decimal n) (32 ∷ what_text what) (decimal_printable 1 8 n front (omega arith) d) is.printable;
      meant = refl;
    }

client_again : (catalog : List Declared) (text : List ℕ) (l : Line) → HasLayouts catalog → client_in catalog text ≡ Some l → IsAgain catalog l
unfolding client_in
client_again catalog text l has e = by (parted 32 text) e
  where
    doing : (n : ℕ) (front rest : List ℕ) (found : Option What) → digit_in 1 8 front ≡ Some n → what_in catalog rest ≡ found → option_and_then (λ what. Some (line.Client n what)) found ≡ Some l → IsAgain catalog l
    doing n front rest None d g f = absurd (cc)
    doing n front rest (Some what) d g f = let same : line.Client n what ≡ l = cc in subst (IsAgain catalog) same (spoken_again catalog n front what d (what_again catalog rest what has g))

    numbered : (front rest : List ℕ) (found : Option ℕ) → digit_in 1 8 front ≡ found → option_and_then (λ n. option_and_then (λ what. Some (line.Client n what)) (what_in catalog rest)) found ≡ Some l → IsAgain catalog l
    numbered front rest None d f = absurd (cc)
    numbered front rest (Some n) d f = doing n front rest (what_in catalog rest) d refl f

    by : (found : Option (List ℕ × List ℕ))
        → option_and_then (λ p. option_and_then (λ n. option_and_then (λ what. Some (line.Client n what)) (what_in catalog p.1)) (digit_in 1 8 p.0)) found ≡ Some l → IsAgain catalog l
    by None f = absurd (cc)
    by (Some p) f = numbered p.0 p.1 (digit_in 1 8 p.0) refl f

-- what a text shows as a line is read again from the line's text
pub line_again : (catalog : List Declared) (text : List ℕ) (l : Line) → HasLayouts catalog → line_of catalog text ≡ Some l → IsAgain catalog l
unfolding line_of
line_again catalog text l has e = by (behind (codes "row ") text) (behind (codes "table ") text) (behind (codes "change ") text) (behind (codes "retries ") text) (behind (codes "strategy ") text) (behind (codes "p ") text) (behind (codes "c") text) e
  where
    by : (row table change retries strategy pace client : Option (List ℕ))
        → choose row (λ rest. option_map loads (row_in catalog rest)) (choose table table_in (choose change (λ rest. option_map line.Change (spec_shown rest)) (choose retries (λ rest. option_map line.Retries (digit_in 0 8 rest))
        (choose strategy (λ rest. option_map line.Strategy (strategy_in rest)) (choose pace (λ rest. option_map line.Pace (pace_in rest)) (choose client (client_in catalog) None)))))) ≡ Some l → IsAgain catalog l
    by (Some rest) table change retries strategy pace client f = row_line_again catalog l (row_in catalog rest) (λ parts g. row_text_again catalog rest parts has g) f
    by None (Some rest) change retries strategy pace client f = table_again catalog rest l f
    by None None (Some rest) retries strategy pace client f = change_line_again catalog l (spec_shown rest) (λ spec g. spec_again rest spec g) f
    by None None None (Some rest) strategy pace client f = retries_again catalog l rest (digit_in 0 8 rest) refl f
    by None None None None (Some rest) pace client f = strategy_line_again catalog l (strategy_in rest) f
    by None None None None None (Some rest) client f = pace_line_again catalog l (pace_in rest) (λ pace g. pace_again rest pace g) f
    by None None None None None None (Some rest) f = client_again catalog rest l has f
    by None None None None None None None f = absurd (cc)
