use Rattle.std.proofs.Common.{refl, None}
use Rattle.sx_sync.specs.declared.Phase.TheVariants.{Idle}
use Rattle.sx_core.proofs.TurnLemmas.{fields}
use Rattle.sx_core.proofs.MakeLemmas.{IsNew, managed_tables, made_kept}
use Rattle.sx_core.proofs.machine.Core.make.Goals as goal

pub new-requires-clause-tables : goal.new-requires-clause-tables
new-requires-clause-tables c = managed_tables c.args.catalog c.args.rows c.in_ok-tables.field-0 c.in_ok-tables.ensures

pub invariant_of-result : goal.invariant_of-result
invariant_of-result c =
    let new : IsNew c.new.result c.in_ok-tables.field-0 = record {
      shapes = c.new.ensures.shapes;
      own = c.new.ensures.own;
      log = c.new.ensures.log;
      locks = c.new.ensures.locks;
      living = c.new.ensures.living;
      begun = c.new.ensures.begun;
    } in
    made_kept c.args.catalog c.args.rows c.in_ok-tables.field-0 c.len.result c.new-2.result.newest (fields c.new.result c.new-2.result.spare c.new-3.result.newest c.in_ok-known.known Idle None c.start.result 0)
    c.in_ok-tables.ensures new c.new.ensures.tables c.len.ensures c.new-2.ensures c.new-3.ensures c.in_ok-known.ensures refl refl refl
