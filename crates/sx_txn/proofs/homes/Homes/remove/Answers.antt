use Rattle.std.proofs.Common.{None, IsSome, sym}
use Rattle.sx_heap.specs.Relations.{Relation, row_at}
use Rattle.sx_txn.proofs.HomeLemmas.{of_own, of_fresh, own_step, fresh_step}
use Rattle.sx_txn.proofs.homes.Homes.remove.Goals as goal

pub remove-requires : goal.remove-requires
remove-requires c = let i = c.self.inside in of_own (λ (table : Relation). IsSome (row_at table.rows c.args.key.now)) i.own i.fresh c.args.name.now c.args.self.now c.self.view_is (sym c.if-has.ensures) c.requires

pub invariant_of-self : goal.invariant_of-self
invariant_of-self c = let i = c.self.inside in (own_step i.own c.remove.new.self i.fresh c.args.self.now c.args.name.now (λ (before : Relation). c.args.key.now) None c.remove.result c.self.view_is c.self.invariant c.remove.ensures.ok c.remove.ensures.err).homed

pub remove-requires-else-has : goal.remove-requires-else-has
remove-requires-else-has c = let i = c.self.inside in of_fresh (λ (table : Relation). IsSome (row_at table.rows c.args.key.now)) i.own i.fresh c.args.name.now c.args.self.now c.self.view_is (sym c.if-has.ensures) c.requires

pub invariant_of-self-else-has : goal.invariant_of-self-else-has
invariant_of-self-else-has c = let i = c.self.inside in (fresh_step i.own i.fresh c.remove-else-has.new.self c.args.self.now c.args.name.now (λ (before : Relation). c.args.key.now) None c.remove-else-has.result c.self.view_is c.self.invariant (sym c.if-has.ensures) c.remove-else-has.ensures.ok c.remove-else-has.ensures.err).homed

pub returns-then-has-clause-own : goal.returns-then-has-clause-own
returns-then-has-clause-own c = let i = c.self.inside in (own_step i.own c.remove.new.self i.fresh c.args.self.now c.args.name.now (λ (before : Relation). c.args.key.now) None c.remove.result c.self.view_is c.self.invariant c.remove.ensures.ok c.remove.ensures.err).own

pub returns-then-has-clause-ok : goal.returns-then-has-clause-ok
returns-then-has-clause-ok c = let i = c.self.inside in (own_step i.own c.remove.new.self i.fresh c.args.self.now c.args.name.now (λ (before : Relation). c.args.key.now) None c.remove.result c.self.view_is c.self.invariant c.remove.ensures.ok c.remove.ensures.err).ok

pub returns-else-has-clause-ok : goal.returns-else-has-clause-ok
returns-else-has-clause-ok c = let i = c.self.inside in (fresh_step i.own i.fresh c.remove-else-has.new.self c.args.self.now c.args.name.now (λ (before : Relation). c.args.key.now) None c.remove-else-has.result c.self.view_is c.self.invariant (sym c.if-has.ensures) c.remove-else-has.ensures.ok c.remove-else-has.ensures.err).ok
