-- The columns of a table line are read from the text that shows them.
use Rattle.std.proofs.Common.{◌≡◌, ◌≤◌, ◌<◌, ◌+◌, ◌++◌, ◌==◌, ℕ, suc, Bool, true, false, cond, List, [], ◌∷◌, length, Option, Some, None, option_and_then, refl, sym, ap, ◌∙◌, subst, arith, append-nil, append_assoc, eq-eqb}
use Rattle.std.specs.List.{list_all, list_any, AllByRecursion}
use Rattle.std.proofs.lemmas.Bool.Decides.{nat_tests}
use Rattle.std.proofs.lemmas.List.{length-append}
use Rattle.std.proofs.lemmas.List.Folds.{list_any-append}
use Rattle.sx_values.specs.Texts.{is_printable}
use Rattle.sx_values.specs.Layouts.{Layout}
use Rattle.sx_values.specs.declared.schema.Kind.{Kind}
use Rattle.sx_values.specs.declared.schema.Kind.TheVariants as kind
use Rattle.sx_values.specs.declared.schema.Column.{Column}
use Rattle.sx_lines.specs.declared.columns.Mark.{Mark}
use Rattle.sx_lines.specs.declared.columns.Mark.TheVariants as mark
use Rattle.sx_lines.specs.declared.columns.Keyed.{Keyed}
use Rattle.sx_lines.specs.Lines.{when, parted, words, is_short_name}
use Rattle.sx_lines.specs.Columns.{kind_in, is_key, is_nullable, keyed, column_in, with_column, layout_over}
use Rattle.sx_lines.specs.Printing.{kind_text, mark_text, column_text, is_key_place, columns_text}
use Rattle.sx_lines.proofs.NameLaws.{is_free, parted_front, words_front, words_single, free_append, printable_append, IsNamed, is_named}

-- a kind and a mark are read from their text
kind_again : (k : Kind) (m : Mark) → kind_in (kind_text k ++ mark_text (is_key m) (is_nullable m)) ≡ Some (k, m)
unfolding kind_in
kind_again kind.Int mark.Plain = refl
kind_again kind.Int mark.Key = refl
kind_again kind.Int mark.Nullable = refl
kind_again kind.Text mark.Plain = refl
kind_again kind.Text mark.Key = refl
kind_again kind.Text mark.Nullable = refl

-- what stands behind a column's name
abbrev tail : Bool → Column → List ℕ
tail in_key column = 58 ∷ (kind_text column.kind ++ mark_text in_key column.nullable)

tail_free : (k : Kind) (in_key nullable : Bool) → is_free 32 (58 ∷ (kind_text k ++ mark_text in_key nullable)) ≡ true
tail_free kind.Int true nullable = refl
tail_free kind.Int false true = refl
tail_free kind.Int false false = refl
tail_free kind.Text true nullable = refl
tail_free kind.Text false true = refl
tail_free kind.Text false false = refl

tail_printable : (k : Kind) (in_key nullable : Bool) → list_all is_printable (58 ∷ (kind_text k ++ mark_text in_key nullable)) ≡ true
tail_printable kind.Int true nullable = refl
tail_printable kind.Int false true = refl
tail_printable kind.Int false false = refl
tail_printable kind.Text true nullable = refl
tail_printable kind.Text false true = refl
tail_printable kind.Text false false = refl

-- a column that is read from its word
record IsColumn (column : Keyed) : Type 0 where
  named : IsNamed column.column.name
  again : column_in (column_text column.in_key column.column) ≡ Some column

when_some : {A : Type 0} (t : Bool) (x y : A) → when t x ≡ Some y → (t ≡ true) × (x ≡ y)
when_some true x y e = (refl, cc)
when_some false x y e = absurd (cc)

-- the column of a name, a kind and a mark
made : (name : List ℕ) (k : Kind) (m : Mark) → is_short_name name ≡ true → IsColumn (keyed name (k, m))
unfolding column_in
made name k m e =
    let n = is_named name e in
    record {
      named = n;
      again = rw (parted_front 58 name (kind_text k ++ mark_text (is_key m) (is_nullable m)) n.no_colon, e, kind_again k m) refl;
    }

column_again : (word : List ℕ) (column : Keyed) → column_in word ≡ Some column → IsColumn column
unfolding column_in
column_again word column e = by (parted 58 word) e
  where
    of_kind : (name : List ℕ) (found : Option (Kind × Mark)) → is_short_name name ≡ true → option_and_then (λ marked. Some (keyed name marked)) found ≡ Some column → IsColumn column
    of_kind name None s f = absurd (cc)
    of_kind name (Some marked) s f = let same : keyed name marked ≡ column = cc in subst IsColumn same (made name marked.0 marked.1 s)

    of_name : (t : Bool) (name rest : List ℕ) → is_short_name name ≡ t → option_and_then (λ n. option_and_then (λ marked. Some (keyed n marked)) (kind_in rest)) (when t name) ≡ Some column → IsColumn column
    of_name true name rest s f = of_kind name (kind_in rest) s f
    of_name false name rest s f = absurd (cc)

    by : (found : Option (List ℕ × List ℕ)) → option_and_then (λ parts. option_and_then (λ n. option_and_then (λ marked. Some (keyed n marked)) (kind_in parts.1)) (when (is_short_name parts.0) parts.0)) found ≡ Some column → IsColumn column
    by None f = absurd (cc)
    by (Some parts) f = of_name (is_short_name parts.0) parts.0 parts.1 refl f

-- the words of columns from a place on
abbrev pub column_words : ℕ → List ℕ → List Column → List (List ℕ)
column_words place key [] = []
column_words place key (column ∷ columns) = column_text (is_key_place key place) column ∷ column_words (place + 1) key columns

-- words whose columns are named
abbrev AreNamed : List Column → Type 0
AreNamed columns = AllByRecursion (λ (c : Column). IsNamed c.name) columns

text_free : (in_key : Bool) (column : Column) → IsNamed column.name → is_free 32 (column_text in_key column) ≡ true
text_free in_key column n = free_append 32 column.name (tail in_key column) n.no_space (tail_free column.kind in_key column.nullable)

text_printable : (in_key : Bool) (column : Column) → IsNamed column.name → list_all is_printable (column_text in_key column) ≡ true
text_printable in_key column n = printable_append column.name (tail in_key column) n.printable (tail_printable column.kind in_key column.nullable)

pub words_of_columns : (place : ℕ) (key : List ℕ) (column : Column) (columns : List Column) → IsNamed column.name → AreNamed columns
    → words (column_text (is_key_place key place) column ++ columns_text (place + 1) key columns) ≡ column_text (is_key_place key place) column ∷ column_words (place + 1) key columns
words_of_columns place key column [] n ns = ap words (append-nil (column_text (is_key_place key place) column)) ∙ words_single (column_text (is_key_place key place) column) (text_free (is_key_place key place) column n)
words_of_columns place key column (next ∷ columns) n ns =
    words_front (column_text (is_key_place key place) column) (column_text (is_key_place key (place + 1)) next ++ columns_text (place + 1 + 1) key columns) (text_free (is_key_place key place) column n)
    ∙ ap (λ ws. column_text (is_key_place key place) column ∷ ws) (words_of_columns (place + 1) key next columns ns.0 ns.1)

pub printable_columns : (place : ℕ) (key : List ℕ) (columns : List Column) → AreNamed columns → list_all is_printable (columns_text place key columns) ≡ true
printable_columns place key [] ns = refl
printable_columns place key (column ∷ columns) ns =
    printable_append (column_text (is_key_place key place) column) (columns_text (place + 1) key columns) (text_printable (is_key_place key place) column ns.0) (printable_columns (place + 1) key columns ns.1)

-- ---- places of the key

no_place : (places : List ℕ) (n : ℕ) → AllByRecursion (λ p. p < n) places → list_any (λ p. p == n) places ≡ false
no_place [] n h = refl
no_place (p ∷ places) n h = let less : p < n = h.0 in let other : (p == n) ≡ false = grind (arith, nat_tests) in rw (other, no_place places n h.1) refl

no_later : (places : List ℕ) (n : ℕ) → AllByRecursion (λ p. suc n ≤ p) places → list_any (λ p. p == n) places ≡ false
no_later [] n h = refl
no_later (p ∷ places) n h = let more : suc n ≤ p = h.0 in let other : (p == n) ≡ false = grind (arith, nat_tests) in rw (other, no_later places n h.1) refl

weaker : (places : List ℕ) (n : ℕ) → AllByRecursion (λ p. suc n ≤ p) places → AllByRecursion (λ p. n ≤ p) places
weaker [] n h = tt
weaker (p ∷ places) n h = (let more : suc n ≤ p = h.0 in omega arith, weaker places n h.1)

below_more : (places : List ℕ) (n : ℕ) → AllByRecursion (λ p. p < n) places → AllByRecursion (λ p. p < suc n) places
below_more [] n h = tt
below_more (p ∷ places) n h = (let less : p < n = h.0 in omega arith, below_more places n h.1)

below_push : (places : List ℕ) (n : ℕ) → AllByRecursion (λ p. p < n) places → AllByRecursion (λ p. p < suc n) (places ++ n ∷ [])
below_push [] n h = (omega arith, tt)
below_push (p ∷ places) n h = (let less : p < n = h.0 in omega arith, below_push places n h.1)

abbrev places_of : Bool → ℕ → List ℕ
places_of in_key n = cond in_key (n ∷ []) []

-- a place is in the key where its column is marked so
is_marked : (in_key : Bool) (n : ℕ) (front later : List ℕ) → AllByRecursion (λ p. p < n) front → AllByRecursion (λ p. suc n ≤ p) later → is_key_place (front ++ (places_of in_key n ++ later)) n ≡ in_key
is_marked true n front later h g = list_any-append (λ p. p == n) front (n ∷ later) ∙ rw (no_place front n h, eq-eqb n n refl) refl
is_marked false n front later h g = list_any-append (λ p. p == n) front later ∙ rw (no_place front n h, no_later later n g) refl

-- the columns that were read behind those so far are read again from their words
pub record AreRead (sofar layout : Layout) : Type 0 where
  pub rest : List Column
  pub later : List ℕ
  pub columns : layout.columns ≡ sofar.columns ++ rest
  pub key : layout.key ≡ sofar.key ++ later
  pub above : AllByRecursion (λ p. length sofar.columns ≤ p) later
  pub named : AreNamed rest
  pub again : layout_over sofar (column_words (length sofar.columns) layout.key rest) ≡ Some layout

none_behind : (layout : Layout) → AreRead layout layout
none_behind layout = record { rest = []; later = []; columns = sym (append-nil layout.columns); key = sym (append-nil layout.key); above = tt; named = tt; again = refl }

key_with : (in_key : Bool) (sofar : Layout) (column : Column) → (with_column sofar (record { column = column; in_key = in_key })).key ≡ sofar.key ++ places_of in_key (length sofar.columns)
key_with true sofar column = refl
key_with false sofar column = sym (append-nil sofar.key)

above_with : (in_key : Bool) (n : ℕ) (later : List ℕ) → AllByRecursion (λ p. suc n ≤ p) later → AllByRecursion (λ p. n ≤ p) (places_of in_key n ++ later)
above_with true n later h = (omega arith, weaker later n h)
above_with false n later h = weaker later n h

below_with : (in_key : Bool) (sofar : Layout) (column : Column) → AllByRecursion (λ p. p < length sofar.columns) sofar.key
    → AllByRecursion (λ p. p < suc (length sofar.columns)) (with_column sofar (record { column = column; in_key = in_key })).key
below_with true sofar column h = below_push sofar.key (length sofar.columns) h
below_with false sofar column h = below_more sofar.key (length sofar.columns) h

one_more : (sofar : Layout) (column : Keyed) → length (with_column sofar column).columns ≡ suc (length sofar.columns)
one_more sofar column = length-append sofar.columns (column.column ∷ []) ∙ omega arith

further_column : (sofar layout : Layout) (column : Keyed) → AllByRecursion (λ p. p < length sofar.columns) sofar.key → IsColumn column → AreRead (with_column sofar column) layout → AreRead sofar layout
further_column sofar layout column below is r =
    let n = length sofar.columns in
    let behind : AllByRecursion (λ p. suc n ≤ p) r.later = subst (λ m. AllByRecursion (λ p. m ≤ p) r.later) (one_more sofar column) r.above in
    let key : layout.key ≡ sofar.key ++ (places_of column.in_key n ++ r.later) = r.key ∙ ap (λ k. k ++ r.later) (key_with column.in_key sofar column.column) ∙ append_assoc sofar.key (places_of column.in_key n) r.later in
    let marked : is_key_place layout.key n ≡ column.in_key = ap (λ k. is_key_place k n) key ∙ is_marked column.in_key n sofar.key r.later below behind in
    let place : length (with_column sofar column).columns ≡ n + 1 = one_more sofar column ∙ omega arith in
    let first : column_in (column_text (is_key_place layout.key n) column.column) ≡ Some column = ap (λ t. column_in (column_text t column.column)) marked ∙ is.again in
    record {
      rest = column.column ∷ r.rest;
      later = places_of column.in_key n ++ r.later;
      columns = r.columns ∙ append_assoc sofar.columns (column.column ∷ []) r.rest;
      key = key;
      above = above_with column.in_key n r.later behind;
      named = (is.named, r.named);
      again = ap (option_and_then (λ c. layout_over (with_column sofar c) (column_words (n + 1) layout.key r.rest))) first
          ∙ ap (λ m. layout_over (with_column sofar column) (column_words m layout.key r.rest)) (sym place) ∙ r.again;
    }

pub columns_again : (sofar layout : Layout) (texts : List (List ℕ)) → AllByRecursion (λ p. p < length sofar.columns) sofar.key → layout_over sofar texts ≡ Some layout → AreRead sofar layout
columns_again sofar layout [] below e = let same : sofar ≡ layout = cc in subst (AreRead sofar) same (none_behind sofar)
columns_again sofar layout (text ∷ texts) below e =
    by (column_in text) refl e (λ column f. columns_again (with_column sofar column) layout texts (subst (λ m. AllByRecursion (λ p. p < m) (with_column sofar column).key) (sym (one_more sofar column)) (below_with column.in_key sofar column.column below)) f)
  where
    by : (found : Option Keyed) → column_in text ≡ found → option_and_then (λ column. layout_over (with_column sofar column) texts) found ≡ Some layout
        → ((column : Keyed) → layout_over (with_column sofar column) texts ≡ Some layout → AreRead (with_column sofar column) layout) → AreRead sofar layout
    by None d f go = absurd (cc)
    by (Some column) d f go = further_column sofar layout column below (column_again text column d) (go column f)
