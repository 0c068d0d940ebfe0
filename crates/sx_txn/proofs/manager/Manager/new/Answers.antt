use Rattle.std.proofs.Common.{ℕ, List, length, map, sym, ap, subst}
use Rattle.sx_heap.specs.declared.tables.NamedTable.{NamedTable}
use Rattle.sx_txn.specs.Managed.{AreOwn, shape_of}
use Rattle.sx_txn.specs.Lives.{kept_all}
use Rattle.sx_txn.proofs.TableLemmas.{own_all}
use Rattle.sx_txn.proofs.EventLemmas.{nobody_managed}
use Rattle.sx_txn.proofs.manager.Manager.new.Goals as goal

pub invariant_of-result : goal.invariant_of-result
invariant_of-result c =
    let rows = subst (λ (ts : List NamedTable). AreOwn (length c.args.tables) c.args.log.newest (map shape_of ts) ts) (sym c.new.ensures.all) (own_all c.args.log.newest c.args.tables c.requires.tables) in
    nobody_managed c.new.result c.args.log (kept_all c.new-3.result.items) (ap kept_all c.new-3.ensures.items) c.requires.nobody (subst (λ (n : ℕ). AreOwn n c.args.log.newest (map shape_of c.new.result.all) c.new.result.all) (sym c.new.ensures.own) rows)
