use Rattle.std.proofs.Common.{Some, sym}
use Rattle.sx_values.specs.Layouts.{key_of}
use Rattle.sx_heap.specs.Relations.{Relation}
use Rattle.sx_heap.specs.NamedTables.{LacksKeyOf}
use Rattle.sx_txn.proofs.HomeLemmas.{of_own, of_fresh, own_step, fresh_step}
use Rattle.sx_txn.proofs.homes.Homes.insert.Goals as goal

pub insert-requires : goal.insert-requires
insert-requires c = let i = c.self.inside in of_own (LacksKeyOf c.args.row) i.own i.fresh c.args.name.now c.args.self.now c.self.view_is (sym c.if-has.ensures) c.requires

pub invariant_of-self : goal.invariant_of-self
invariant_of-self c = let i = c.self.inside in (own_step i.own c.insert.new.self i.fresh c.args.self.now c.args.name.now (λ (before : Relation). key_of before.schema c.args.row) (Some (c.args.row, c.args.lsn)) c.insert.result c.self.view_is c.self.invariant c.insert.ensures.ok c.insert.ensures.err).homed

pub insert-requires-else-has : goal.insert-requires-else-has
insert-requires-else-has c = let i = c.self.inside in of_fresh (LacksKeyOf c.args.row) i.own i.fresh c.args.name.now c.args.self.now c.self.view_is (sym c.if-has.ensures) c.requires

pub invariant_of-self-else-has : goal.invariant_of-self-else-has
invariant_of-self-else-has c = let i = c.self.inside in (fresh_step i.own i.fresh c.insert-else-has.new.self c.args.self.now c.args.name.now (λ (before : Relation). key_of before.schema c.args.row) (Some (c.args.row, c.args.lsn)) c.insert-else-has.result c.self.view_is c.self.invariant (sym c.if-has.ensures) c.insert-else-has.ensures.ok c.insert-else-has.ensures.err).homed

pub returns-then-has-clause-own : goal.returns-then-has-clause-own
returns-then-has-clause-own c = let i = c.self.inside in (own_step i.own c.insert.new.self i.fresh c.args.self.now c.args.name.now (λ (before : Relation). key_of before.schema c.args.row) (Some (c.args.row, c.args.lsn)) c.insert.result c.self.view_is c.self.invariant c.insert.ensures.ok c.insert.ensures.err).own

pub returns-then-has-clause-ok : goal.returns-then-has-clause-ok
returns-then-has-clause-ok c = let i = c.self.inside in (own_step i.own c.insert.new.self i.fresh c.args.self.now c.args.name.now (λ (before : Relation). key_of before.schema c.args.row) (Some (c.args.row, c.args.lsn)) c.insert.result c.self.view_is c.self.invariant c.insert.ensures.ok c.insert.ensures.err).ok

pub returns-else-has-clause-ok : goal.returns-else-has-clause-ok
returns-else-has-clause-ok c = let i = c.self.inside in (fresh_step i.own i.fresh c.insert-else-has.new.self c.args.self.now c.args.name.now (λ (before : Relation). key_of before.schema c.args.row) (Some (c.args.row, c.args.lsn)) c.insert-else-has.result c.self.view_is c.self.invariant (sym c.if-has.ensures) c.insert-else-has.ensures.ok c.insert-else-has.ensures.err).ok
