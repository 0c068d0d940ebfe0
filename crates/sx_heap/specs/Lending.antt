-- What tables end as, once the loan of one of them is over.
use Rattle.std.specs.Prelude.{ℕ, List, Option}
use Rattle.std.specs.Borrow.{LendsIf, MutBor, Fml}
use Rattle.sx_heap.specs.Relations.{Relation}
use Rattle.sx_heap.specs.NamedTables.{with_table}
use Rattle.sx_heap.specs.declared.tables.NamedTable.{NamedTable}
use Rattle.sx_heap.specs.contracts.tables.Tables as all
use Rattle.sx_heap.specs.contracts.table.Table as one

-- the table of this name ends as the last value behind the loan, and the others as they were
abbrev pub LendsTable : MutBor (List NamedTable) → List ℕ → Option (MutBor Relation) → Fml
LendsTable tables name loan = LendsIf all.the_row one.the_row tables loan (with_table tables.now name) tables.now
