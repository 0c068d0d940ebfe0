-- For which copy an image stands.
use Rattle.std.specs.Prelude.{◌≡◌, ◌+◌, ◌==◌, ⊤, ℕ, suc, List, [], ◌∷◌, length, map, Option, Some, None, IfSome, if◌then◌else◌}
use Rattle.std.specs.List.{AllByRecursion}
use Rattle.sx_values.specs.Catalogs.{schema_of}
use Rattle.sx_log.specs.Images.{FitsTables}
use Rattle.sx_log.specs.declared.record.Rec.{Rec}
use Rattle.sx_values.specs.declared.value.Value.{Value}
use Rattle.sx_values.specs.declared.catalog.Declared.{Declared}
use Rattle.sx_log.specs.State.{Stored}
use Rattle.sx_log.specs.Copies.{copied_on}
use Rattle.sx_log.specs.declared.record.Body.{Body}
use Rattle.sx_heap.specs.Relations.{IsRelation, row_at}
use Rattle.sx_heap.specs.declared.seen.Seen.{Seen}
use Rattle.sx_heap.specs.declared.tables.NamedTable.{NamedTable}
use Rattle.sx_ops.specs.declared.spec.Spec.{Spec}
use Rattle.sx_ops.specs.Operators.{sources_of, operator}
use Rattle.sx_ops.specs.Targets.{targets}
use Rattle.sx_copy.specs.Readings.{merged}
use Rattle.sx_copy.specs.FreshTables.{bare_rows, fresh_tables}
use Rattle.sx_part.specs.declared.parts.Parts.{Parts}
use Rattle.sx_part.specs.PartImages.{IsMadeFor, FitReadings, FitRecord, image_at, position_of}
use Rattle.sx_image.specs.declared.image.Kind.{Kind}
use Rattle.sx_image.specs.declared.image.Kind.TheVariants.{Dead, Part}

-- what a copy has for a key of a side: the row and the LSN under which it was learnt
abbrev pub Copy : Type 0
Copy = ℕ → List Value → Option Stored

-- the copy of no row
abbrev pub no_copy : Copy
no_copy side key = None

-- a copy behind the readings of a turn of this side
abbrev pub copy_behind_scan : ℕ → List Seen → Copy → Copy
copy_behind_scan side seen copy other key = if side == other then merged seen key (copy other key) else copy other key

-- a copy behind the record at this place
abbrev pub copy_behind : Spec → ℕ → Body → Copy → Copy
copy_behind spec place body copy side key = copied_on (sources_of spec) side place body key (copy side key)

-- the image of a horizontal split was made for it, and has this copy at this position
pub record IsPartImage (catalog : List Declared) (spec : Spec) (copy : Copy) (place : ℕ) (parts : Parts) : Type 0 where
  pub made : IsMadeFor catalog spec parts
  pub position : parts.position ≡ place
  pub has : (key : List Value) → image_at parts key ≡ copy 0 key

-- an image was made for this transformation of tables with these schemas, and has this copy at this position; a dead one has none
abbrev pub StandsFor : List Declared → Spec → Copy → ℕ → Kind → Type 0
StandsFor catalog spec copy place Dead = ⊥
StandsFor catalog spec copy place (Part None) = ⊥
StandsFor catalog spec copy place (Part (Some parts)) = IsPartImage catalog spec copy place parts

-- an image that found no memory
abbrev pub IsDead : Kind → Type 0
IsDead Dead = ⊤
IsDead (Part None) = ⊤
IsDead (Part (Some parts)) = ⊥

-- the position of an image; that of a dead one is 0
abbrev pub position_in : Kind → ℕ
position_in Dead = 0
position_in (Part parts) = position_of parts

-- readings of a side of the transformation, of rows that its table admits
abbrev pub FitsScan : ℕ → List Seen → Kind → Type 0
FitsScan side seen Dead = ⊤
FitsScan side seen (Part parts) = (side ≡ 0) × FitReadings seen parts

-- the next record, which fits the tables of the transformation
abbrev pub FitsRecord : ℕ → Body → Kind → Type 0
FitsRecord place body Dead = ⊤
FitsRecord place body (Part parts) = FitRecord place body parts

-- for whatever copy the old image stood, the new one stands for the copy behind these readings
abbrev pub Populates : ℕ → List Seen → (old new : Kind) → Type 0
Populates side seen old new = (catalog : List Declared) (spec : Spec) (copy : Copy) (place : ℕ) → StandsFor catalog spec copy place old → StandsFor catalog spec (copy_behind_scan side seen copy) place new

-- for whatever copy the old image stood, the new one stands for the copy behind this record, at its place
abbrev pub Applies : ℕ → Body → (old new : Kind) → Type 0
Applies place body old new = (catalog : List Declared) (spec : Spec) (copy : Copy) (before : ℕ) → StandsFor catalog spec copy before old → StandsFor catalog spec (copy_behind spec place body copy) place new

-- a copy behind the records that follow a place, the oldest first
abbrev pub copy_behind_all : Spec → ℕ → List Rec → Copy → Copy
copy_behind_all spec place [] copy = copy
copy_behind_all spec place (r ∷ recs) copy = copy_behind_all spec (place + 1) recs (copy_behind spec (place + 1) r.body copy)

-- records that follow the position of an image up to a place, and whose images fit the tables of its transformation
pub record CanFollow (recs : List Rec) (end : ℕ) (image : Kind) : Type 0 where
  pub catalog : List Declared
  pub spec : Spec
  pub copy : Copy
  pub place : ℕ
  pub stands : StandsFor catalog spec copy place image
  pub ends : place + length recs ≡ end
  pub fit : AllByRecursion (λ (r : Rec). FitsTables (schema_of catalog) r.body) recs

-- for whatever copy the old image stood, the new one stands for the copy behind these records, at the place of the last one
abbrev pub Follows : List Rec → ℕ → (old new : Kind) → Type 0
Follows recs end old new = (catalog : List Declared) (spec : Spec) (copy : Copy) (place : ℕ) → place + length recs ≡ end → StandsFor catalog spec copy place old → StandsFor catalog spec (copy_behind_all spec place recs copy) end new

-- the rows of one side of a copy, in key order
abbrev pub IsCopied : List Declared → List ℕ → ℕ → Copy → List Seen → Type 0
IsCopied catalog name side copy rows = IfSome (schema_of catalog name) (λ schema. IsRelation (record { schema = schema; rows = rows })) × ((key : List Value) → copy side key ≡ row_at rows key)

-- a list for each of these tables, in order, with the rows of its side of a copy, in key order
abbrev pub AreCopied : List Declared → List (List ℕ) → ℕ → Copy → List (List Seen) → Type 0
AreCopied catalog [] side copy [] = ⊤
AreCopied catalog [] side copy (rows ∷ lists) = ⊥
AreCopied catalog (name ∷ names) side copy [] = ⊥
AreCopied catalog (name ∷ names) side copy (rows ∷ lists) = IsCopied catalog name side copy rows × AreCopied catalog names (suc side) copy lists

-- the tables are the transformation of the rows of the copy for which the image stood
abbrev pub AreTablesOf : Kind → List NamedTable → Type 0
AreTablesOf image tables =
    (catalog : List Declared) (spec : Spec) (copy : Copy) (place : ℕ) (lists : List (List Seen)) → StandsFor catalog spec copy place image → AreCopied catalog (sources_of spec) 0 copy lists
    → tables ≡ fresh_tables (targets catalog spec) (operator catalog spec (map bare_rows lists))
