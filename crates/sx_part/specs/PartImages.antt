-- The image of a horizontal split: the rows of its copy, in both new tables.
use Rattle.std.specs.Prelude.{◌≡◌, ◌+◌, ⊤, Bool, true, false, ℕ, List, [], ◌∷◌, Option, Some, None, if◌then◌else◌}
use Rattle.std.specs.List.{AllByRecursion}
use Rattle.sx_lists.specs.Answers.{or_later}
use Rattle.sx_values.specs.Names.{same_name}
use Rattle.sx_values.specs.Values.{values_eq}
use Rattle.sx_values.specs.Layouts.{Layout}
use Rattle.sx_values.specs.Catalogs.{schema_of}
use Rattle.sx_values.specs.declared.value.Value.{Value}
use Rattle.sx_values.specs.declared.catalog.Declared.{Declared}
use Rattle.sx_log.specs.State.{Stored}
use Rattle.sx_log.specs.Copies.{copied}
use Rattle.sx_log.specs.declared.record.Body.{Body}
use Rattle.sx_log.specs.declared.record.Body.TheVariants.{Write, Undo, Commit, Abort, Mark, Check, Switch}
use Rattle.sx_heap.specs.Relations.{IsRelation, IsRowOf, row_at}
use Rattle.sx_heap.specs.declared.seen.Seen.{Seen}
use Rattle.sx_heap.specs.declared.tables.NamedTable.{NamedTable}
use Rattle.sx_ops.specs.declared.spec.Spec.{Spec}
use Rattle.sx_ops.specs.declared.spec.Spec.TheVariants.{Part}
use Rattle.sx_ops.specs.Operators.{passes, operator}
use Rattle.sx_ops.specs.Targets.{targets}
use Rattle.sx_copy.specs.Readings.{merged}
use Rattle.sx_copy.specs.Changes.{behind}
use Rattle.sx_copy.specs.declared.change.Change.{Change}
use Rattle.sx_copy.specs.FreshTables.{bare_rows, fresh_tables}
use Rattle.sx_part.specs.declared.parts.Parts.{Parts}

-- the schema of the source, and of both new tables
abbrev pub schema_in : Parts → Layout
schema_in parts = parts.passing.schema

-- what the copy has for a key: the row in the one table or in the other
abbrev pub image_at : Parts → List Value → Option Stored
image_at parts key = or_later (row_at parts.passing.rows key) (row_at parts.failing.rows key)

-- whether a row belongs to the first table
abbrev pub belongs : Parts → List Value → Bool
belongs parts row = passes (schema_in parts).columns parts.tests row

-- what the first table has of what the copy has
abbrev pub passing_of : Parts → Option Stored → Option Stored
passing_of parts None = None
passing_of parts (Some s) = if belongs parts s.0 then Some s else None

-- what the second one has
abbrev pub failing_of : Parts → Option Stored → Option Stored
failing_of parts None = None
failing_of parts (Some s) = if belongs parts s.0 then None else Some s

-- each row of the copy is in the table to which it belongs, and nowhere else
pub record IsParted (parts : Parts) : Type 0 where
  pub one_schema : parts.failing.schema ≡ parts.passing.schema
  pub passing : (key : List Value) → row_at parts.passing.rows key ≡ passing_of parts (image_at parts key)
  pub failing : (key : List Value) → row_at parts.failing.rows key ≡ failing_of parts (image_at parts key)
  pub names : same_name parts.yes parts.no ≡ false

-- the same of an image that may be dead
abbrev pub IsPartedIf : Option Parts → Type 0
IsPartedIf None = ⊤
IsPartedIf (Some parts) = IsParted parts

-- an image was made for this split of a table with this schema
pub record IsMadeFor (catalog : List Declared) (spec : Spec) (parts : Parts) : Type 0 where
  pub split : spec ≡ Part parts.source parts.tests parts.yes parts.no
  pub schema : schema_of catalog parts.source ≡ Some (schema_in parts)

-- it has no row, at this position
pub record IsEmptyAt (mark : ℕ) (parts : Parts) : Type 0 where
  pub position : parts.position ≡ mark
  pub empty : (key : List Value) → image_at parts key ≡ None

-- both images were made for the same split
pub record SameMaking (old new : Parts) : Type 0 where
  pub source : new.source ≡ old.source
  pub tests : new.tests ≡ old.tests
  pub yes : new.yes ≡ old.yes
  pub no : new.no ≡ old.no
  pub schema : schema_in new ≡ schema_in old

-- the new image has this for the key, and what the old one had elsewhere
pub record SetsKey (key : List Value) (image : Option Stored) (old new : Parts) : Type 0 where
  pub made : SameMaking old new
  pub position : new.position ≡ old.position
  pub at_keys : (at : List Value) → image_at new at ≡ (if values_eq key at then image else image_at old at)

-- the new image has merged these readings, at the same position
pub record LearnsReadings (seen : List Seen) (old new : Parts) : Type 0 where
  pub made : SameMaking old new
  pub position : new.position ≡ old.position
  pub at_keys : (key : List Value) → image_at new key ≡ merged seen key (image_at old key)

-- the new image is the next copy, at the place of this record
pub record LearnsRecord (place : ℕ) (body : Body) (old new : Parts) : Type 0 where
  pub made : SameMaking old new
  pub position : new.position ≡ place
  pub at_keys : (key : List Value) → image_at new key ≡ copied old.source place body key (image_at old key)

-- the new image is the old one behind a change, at the same position
pub record FollowsChange (change : Change) (old new : Parts) : Type 0 where
  pub made : SameMaking old new
  pub position : new.position ≡ old.position
  pub at_keys : (key : List Value) → image_at new key ≡ behind (Some change) old.source key (image_at old key)

-- an image that lives becomes another one that lives, so
abbrev pub Becomes : (Parts → Parts → Type 0) → (old new : Option Parts) → Type 0
Becomes so (Some old) (Some new) = so old new
Becomes so (Some old) None = ⊥
Becomes so None new = ⊥

-- readings of rows that the source admits
abbrev pub FitReadings : List Seen → Option Parts → Type 0
FitReadings seen None = ⊤
FitReadings seen (Some parts) = AllByRecursion (IsRowOf (schema_in parts)) seen

-- the image of a row of this key, if there is one, is a row that the source admits
abbrev pub FitsKey : Layout → List Value → Option (List Value) → Type 0
FitsKey schema key None = ⊤
FitsKey schema key (Some row) = IsRowOf schema (record { key = key; row = row; lsn = 0 })

-- the images of a change of the source are rows that it admits, of the record's key
abbrev pub FitsTable : Layout → (source table : List ℕ) → List Value → (before after : Option (List Value)) → Type 0
FitsTable schema source table key before after = same_name table source ≡ true → FitsKey schema key before × FitsKey schema key after

-- the images that a record tells of the source are rows that it admits, of the record's key
unfoldable pub FitsBody : Layout → List ℕ → Body → Type 0
FitsBody schema source (Write table key before after) = FitsTable schema source table key before after
FitsBody schema source (Undo undoes table key before after) = FitsTable schema source table key before after
FitsBody schema source Commit = ⊤
FitsBody schema source Abort = ⊤
FitsBody schema source Mark = ⊤
FitsBody schema source (Check group dep) = ⊤
FitsBody schema source Switch = ⊤

-- the record is the next one, and fits the source
pub record FitsNext (place : ℕ) (body : Body) (parts : Parts) : Type 0 where
  pub next : place ≡ parts.position + 1
  pub fits : FitsBody (schema_in parts) parts.source body

-- the same for an image that may be dead
abbrev pub FitRecord : ℕ → Body → Option Parts → Type 0
FitRecord place body None = ⊤
FitRecord place body (Some parts) = FitsNext place body parts

-- the tables are the split of the copy's rows, in whatever list in key order they are
abbrev pub AreTablesOf : Parts → List NamedTable → Type 0
AreTablesOf parts tables =
    (catalog : List Declared) (spec : Spec) (rows : List Seen) → IsMadeFor catalog spec parts → IsRelation (record { schema = schema_in parts; rows = rows })
    → ((key : List Value) → image_at parts key ≡ row_at rows key) → tables ≡ fresh_tables (targets catalog spec) (operator catalog spec (bare_rows rows ∷ []))

-- the position of an image; that of a dead one is 0
abbrev pub position_of : Option Parts → ℕ
position_of None = 0
position_of (Some parts) = parts.position
