-- The tables that a manager has: the declared ones, and behind them the new ones.
use Rattle.std.specs.Prelude.{◌≤◌, ◌++◌, ℕ, List, length}
use Rattle.sx_heap.specs.declared.tables.NamedTable.{NamedTable}
use Rattle.sx_heap.specs.NamedTables.{AreNamedApart}

-- all tables, the declared ones first, and how many these are
pub record Homed : Type 0 where
  pub all : List NamedTable
  pub own : ℕ

-- the declared tables and the new ones
abbrev pub housed : List NamedTable → List NamedTable → Homed
housed own fresh = record { all = own ++ fresh; own = length own }

-- no two tables have one name
pub record AreHomed (homes : Homed) : Type 0 where
  pub apart : AreNamedApart homes.all
  pub few : homes.own ≤ length homes.all
