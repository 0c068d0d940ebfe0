use Rattle.std.proofs.Common.{◌∙◌, List, map, take, sym, ap, subst}
use Rattle.sx_heap.specs.declared.tables.NamedTable.{NamedTable}
use Rattle.sx_txn.specs.Managed.{Managed, AreTables, shape_of}
use Rattle.sx_txn.specs.Lives.{kept_all}
use Rattle.sx_txn.proofs.EventLemmas.{own_meets}
use Rattle.sx_txn.proofs.TableLemmas.{own_alone, shapes_taken}
use Rattle.sx_txn.proofs.manager.Manager.tables.Goals as goal

pub returns-clause-tables : goal.returns-clause-tables
returns-clause-tables c =
    let i = c.self.inside in
    let rows = subst (λ (ts : List NamedTable). AreTables i.log.newest (map shape_of ts) ts) (sym c.own.ensures.own) (own_alone i.tables.own i.log.newest i.tables.all c.self.invariant.rows) in
    subst (λ (m : Managed). AreTables m.log (map shape_of c.own.result.now) c.own.result.now) c.self.view_is rows

pub returns-clause-shapes : goal.returns-clause-shapes
returns-clause-shapes c =
    let i = c.self.inside in
    ap (map shape_of) c.own.ensures.own ∙ shapes_taken i.tables.own i.tables.all ∙ ap (λ (m : Managed). take m.own m.shapes) c.self.view_is

pub returns-clause-meets : goal.returns-clause-meets
returns-clause-meets c = let i = c.self.inside in own_meets i.tables i.log i.locks (kept_all i.living.items) i.begun c.args.self.now c.self.view_is c.self.invariant
