use Rattle.std.proofs.Common.{sym, subst}
use Rattle.sx_model.specs.Loads.{AreLoads}
use Rattle.sx_script.specs.Plans.{plan_of}
use Rattle.shiftrun.proofs.MakeLaws.{only_memory}
use Rattle.shiftrun.proofs.run.made.Goals as goal

pub unreachable-requires : goal.unreachable-requires
unreachable-requires c =
    let plan = plan_of c.args.script.now in
    let catalog = c.in_ok-catalog.catalog in
    let loads = c.in_ok-loads.loads in
    let are = subst (AreLoads catalog) (sym c.in_ok-loads.ensures) (subst (λ declared. AreLoads declared plan.loads) (sym c.in_ok-catalog.ensures) c.lines-lines.ensures.runs.loads) in
    c.in_default.not-Memory (only_memory catalog loads c.in-Err.fault are c.in-Err.ensures)
