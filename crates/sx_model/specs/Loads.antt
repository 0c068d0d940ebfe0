-- Which rows may be loaded.
use Rattle.std.specs.Prelude.{◌≡◌, ◌≤◌, ⊤, Bool, not, IsTrue, ℕ, List, [], ◌∷◌, length, filter, Some}
use Rattle.std.specs.List.{list_any, AllByRecursion}
use Rattle.sx_values.specs.Names.{same_name}
use Rattle.sx_values.specs.Layouts.{Layout, Admits}
use Rattle.sx_values.specs.Catalogs.{schema_of}
use Rattle.sx_values.specs.declared.catalog.Declared.{Declared}
use Rattle.sx_log.specs.declared.record.Load.{Load}
use Rattle.sx_log.specs.State.{is_place}
use Rattle.sx_model.specs.Openings.{key_in}

-- a row that its declared table admits
pub record IsAdmitted (catalog : List Declared) (load : Load) : Type 0 where
  pub layout : Layout
  pub declared : schema_of catalog load.table ≡ Some layout
  pub admitted : Admits layout load.row

-- whether two loaded rows are of one table and have one key
abbrev pub is_repeated : List Declared → Load → Load → Bool
is_repeated catalog one other = is_place one.table (key_in catalog one.table one.row) other.table (key_in catalog other.table other.row)

-- no two of them have one table and one key
abbrev pub AreApart : List Declared → List Load → Type 0
AreApart catalog [] = ⊤
AreApart catalog (load ∷ loads) = IsTrue (not (list_any (is_repeated catalog load) loads)) × AreApart catalog loads

-- the rows loaded into a table
abbrev pub loaded_into : List ℕ → List Load → List Load
loaded_into table loads = filter (λ (load : Load). same_name load.table table) loads

-- rows that may be loaded: admitted, with keys that differ, and at most 100,000 a table
pub record AreLoads (catalog : List Declared) (loads : List Load) : Type 0 where
  pub admitted : AllByRecursion (IsAdmitted catalog) loads
  pub apart : AreApart catalog loads
  pub few : (table : List ℕ) → length (loaded_into table loads) ≤ 100000
