use Rattle.std.proofs.Common.{◌≡◌, ◌++◌, drop}
use Rattle.sx_report.specs.TableLines.{AreRelations, tables_text}
use Rattle.sx_report.proofs.tables.put_tables.Given as goal

abbrev pub invariant-loop-index : goal.invariant-loop-index
invariant-loop-index l = record {
  text : l.out.items ++ tables_text (drop l.index l.tables) ≡ l.fn.out.items ++ tables_text l.tables;
  relations : AreRelations (drop l.index l.tables) → AreRelations l.tables;
}
