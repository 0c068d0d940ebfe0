-- The columns of a table line.
use Rattle.std.specs.Prelude.{◌==◌, ◌++◌, ◌<◌, Bool, true, false, not, is_some, ℕ, List, [], ◌∷◌, length, All, nat_eq, Option, Some, None, option_map, option_and_then, codes, if◌then◌else◌}
use Rattle.std.specs.List.{IsDistinct}
use Rattle.sx_values.specs.declared.schema.Kind.{Kind}
use Rattle.sx_values.specs.declared.schema.Kind.TheVariants as kind
use Rattle.sx_values.specs.Layouts.{Layout}
use Rattle.sx_values.specs.SchemaFaults.{schema_fault}
use Rattle.sx_values.specs.Catalogs.{HasShortNames}
use Rattle.sx_lines.specs.declared.columns.Mark.{Mark}
use Rattle.sx_lines.specs.declared.columns.Mark.TheVariants as mark
use Rattle.sx_lines.specs.declared.columns.Keyed.{Keyed}
use Rattle.sx_lines.specs.Lines.{◌>>=◌, when, parted, behind, is_short_name}

-- what stands behind a column's kind: nothing, the star of a key column, or the sign of a column that takes Null
abbrev pub mark_in : List ℕ → Option Mark
mark_in [] = Some mark.Plain
mark_in (b ∷ []) = if b == 42 then Some mark.Key else if b == 63 then Some mark.Nullable else None
mark_in (b ∷ c ∷ rest) = None

-- a column's kind with its mark
unfoldable pub kind_in : List ℕ → Option (Kind × Mark)
kind_in text = kind_or (behind (codes "int") text) (behind (codes "text") text)
  where
    of_kind : Kind → List ℕ → Option (Kind × Mark)
    of_kind kind rest = option_map (λ mark. (kind, mark)) (mark_in rest)

    kind_or : Option (List ℕ) → Option (List ℕ) → Option (Kind × Mark)
    kind_or (Some rest) other = of_kind kind.Int rest
    kind_or None (Some rest) = of_kind kind.Text rest
    kind_or None None = None

abbrev pub is_key : Mark → Bool
is_key mark.Plain = false
is_key mark.Key = true
is_key mark.Nullable = false

abbrev pub is_nullable : Mark → Bool
is_nullable mark.Plain = false
is_nullable mark.Key = false
is_nullable mark.Nullable = true

-- the column of this name and kind, by its mark
abbrev pub keyed : List ℕ → Kind × Mark → Keyed
keyed name marked = record { column = record { name = name; kind = marked.0; nullable = is_nullable marked.1 }; in_key = is_key marked.1 }

-- the column that a word shows
unfoldable pub column_in : List ℕ → Option Keyed
column_in word = do
  parts ← parted 58 word
  name ← when (is_short_name parts.0) parts.0
  marked ← kind_in parts.1
  Some (keyed name marked)

-- a layout with a further column, in the key where it is marked so
abbrev pub with_column : Layout → Keyed → Layout
with_column layout keyed = record { columns = layout.columns ++ keyed.column ∷ []; key = if keyed.in_key then layout.key ++ length layout.columns ∷ [] else layout.key }

-- the layout that words show behind these columns
abbrev pub layout_over : Layout → List (List ℕ) → Option Layout
layout_over sofar [] = Some sofar
layout_over sofar (word ∷ more) = option_and_then (λ keyed. layout_over (with_column sofar keyed) more) (column_in word)

-- no columns
abbrev pub no_columns : Layout
no_columns = record { columns = []; key = [] }

-- a layout that a declared table may have
abbrev pub declarable : Layout → Option Layout
declarable layout = when (not (is_some (schema_fault layout.columns layout.key))) layout

-- a layout whose key's places are some of its columns, and differ
pub record IsDraft (layout : Layout) : Type 0 where
  pub within : All (λ place. place < length layout.columns) layout.key
  pub distinct : IsDistinct nat_eq layout.key
  pub short_names : HasShortNames layout
