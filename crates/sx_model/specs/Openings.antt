-- What a journal starts from.
use Rattle.std.specs.Prelude.{ℕ, List, [], map, reverse, Option, Some, None}
use Rattle.sx_values.specs.declared.value.Value.{Value}
use Rattle.sx_values.specs.declared.catalog.Declared.{Declared}
use Rattle.sx_values.specs.Layouts.{Layout, key_of}
use Rattle.sx_values.specs.Catalogs.{schema_of}
use Rattle.sx_log.specs.declared.record.Rec.{Rec}
use Rattle.sx_log.specs.declared.record.Load.{Load}
use Rattle.sx_log.specs.declared.record.Body.TheVariants.{Write}

-- the declared tables, and the records of the loaded rows, seen newest first
pub record Opening : Type 0 where
  pub catalog : List Declared
  pub loads : List Rec

-- the key of a row of a table with this schema; a table that isn't declared has no keys
abbrev pub key_under : Option Layout → List Value → List Value
key_under None row = []
key_under (Some layout) row = key_of layout row

-- the key of a row of a declared table
abbrev pub key_in : List Declared → List ℕ → List Value → List Value
key_in catalog table row = key_under (schema_of catalog table) row

-- the record of a loaded row: a Write of transaction 0 without an image before
abbrev pub load_record : List Declared → Load → Rec
load_record catalog load = record { txn = 0; body = Write load.table (key_in catalog load.table load.row) None (Some load.row) }

-- what these tables and these loaded rows open: a record for each row, in their order
abbrev pub opening : List Declared → List Load → Opening
opening catalog loads = record { catalog = catalog; loads = reverse (map (load_record catalog) loads) }
