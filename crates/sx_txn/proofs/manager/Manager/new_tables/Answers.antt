use Rattle.std.proofs.Common.{◌∙◌, map, drop, ap}
use Rattle.sx_txn.specs.Managed.{Managed, shape_of}
use Rattle.sx_txn.proofs.TableLemmas.{shapes_dropped}
use Rattle.sx_txn.proofs.manager.Manager.new_tables.Goals as goal

pub returns-clause-shapes : goal.returns-clause-shapes
returns-clause-shapes c =
    let i = c.self.inside in
    ap (map shape_of) c.fresh.ensures.fresh ∙ shapes_dropped i.tables.own i.tables.all ∙ ap (λ (m : Managed). drop m.own m.shapes) c.self.view_is
