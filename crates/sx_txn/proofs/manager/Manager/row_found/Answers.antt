use Rattle.std.proofs.Common.{Option, List, IsSomeAnd}
use Rattle.sx_values.specs.declared.value.Value.{Value}
use Rattle.sx_heap.specs.NamedTables.{table_named}
use Rattle.sx_txn.specs.Lives.{kept_all}
use Rattle.sx_txn.specs.Patches.{IsThere, HasRow}
use Rattle.sx_txn.proofs.PutLemmas.{table_there, found_there, all_there}
use Rattle.sx_txn.proofs.EventLemmas.{own_meets}
use Rattle.sx_txn.proofs.manager.Manager.row_found.Goals as goal

pub row_there-requires : goal.row_there-requires
row_there-requires g c =
    let i = c.self.inside in
    table_there i.tables i.log i.locks (kept_all i.living.items) i.begun c.args.self.now c.args.table.now c.self.view_is c.requires.there

pub returns-clause-row : goal.returns-clause-row
returns-clause-row g c =
    let i = c.self.inside in
    all_there c.row_there.result (λ (row : Option (List Value)). IsSomeAnd (table_named i.tables.all c.args.table.now) (HasRow c.args.key.now row)) (IsThere c.args.self.now c.args.table.now c.args.key.now)
    (λ row has. found_there i.tables i.log i.locks (kept_all i.living.items) i.begun c.args.self.now c.args.table.now c.args.key.now row c.self.view_is c.row_there.ensures.apart has) c.row_there.ensures.row

pub returns-clause-meets : goal.returns-clause-meets
returns-clause-meets g c = let i = c.self.inside in own_meets i.tables i.log i.locks (kept_all i.living.items) i.begun c.args.self.now c.self.view_is c.self.invariant
