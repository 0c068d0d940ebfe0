use Rattle.std.proofs.Common.{Some, Ok, sym}
use Rattle.sx_values.specs.Layouts.{key_of}
use Rattle.sx_heap.specs.Relations.{Relation}
use Rattle.sx_heap.specs.NamedTables.{HasThisKeyOf}
use Rattle.sx_txn.proofs.HomeLemmas.{of_own, of_fresh, own_step, fresh_step}
use Rattle.sx_txn.proofs.homes.Homes.rewrite.Goals as goal

pub rewrite-requires : goal.rewrite-requires
rewrite-requires c = let i = c.self.inside in of_own (HasThisKeyOf c.args.key.now c.args.row) i.own i.fresh c.args.name.now c.args.self.now c.self.view_is (sym c.if-has.ensures) c.requires

pub invariant_of-self : goal.invariant_of-self
invariant_of-self c = let i = c.self.inside in (own_step i.own c.rewrite.new.self i.fresh c.args.self.now c.args.name.now (λ (before : Relation). key_of before.schema c.args.row) (Some (c.args.row, c.args.lsn)) (Ok (tt {0})) c.self.view_is c.self.invariant c.rewrite.ensures tt).homed

pub rewrite-requires-else-has : goal.rewrite-requires-else-has
rewrite-requires-else-has c = let i = c.self.inside in of_fresh (HasThisKeyOf c.args.key.now c.args.row) i.own i.fresh c.args.name.now c.args.self.now c.self.view_is (sym c.if-has.ensures) c.requires

pub invariant_of-self-else-has : goal.invariant_of-self-else-has
invariant_of-self-else-has c = let i = c.self.inside in (fresh_step i.own i.fresh c.rewrite-else-has.new.self c.args.self.now c.args.name.now (λ (before : Relation). key_of before.schema c.args.row) (Some (c.args.row, c.args.lsn)) (Ok (tt {0})) c.self.view_is c.self.invariant (sym c.if-has.ensures) c.rewrite-else-has.ensures tt).homed

pub returns-then-has-clause-own : goal.returns-then-has-clause-own
returns-then-has-clause-own c = let i = c.self.inside in (own_step i.own c.rewrite.new.self i.fresh c.args.self.now c.args.name.now (λ (before : Relation). key_of before.schema c.args.row) (Some (c.args.row, c.args.lsn)) (Ok (tt {0})) c.self.view_is c.self.invariant c.rewrite.ensures tt).own

pub returns-then-has-clause-puts : goal.returns-then-has-clause-puts
returns-then-has-clause-puts c = let i = c.self.inside in (own_step i.own c.rewrite.new.self i.fresh c.args.self.now c.args.name.now (λ (before : Relation). key_of before.schema c.args.row) (Some (c.args.row, c.args.lsn)) (Ok (tt {0})) c.self.view_is c.self.invariant c.rewrite.ensures tt).ok

pub returns-else-has-clause-puts : goal.returns-else-has-clause-puts
returns-else-has-clause-puts c = let i = c.self.inside in (fresh_step i.own i.fresh c.rewrite-else-has.new.self c.args.self.now c.args.name.now (λ (before : Relation). key_of before.schema c.args.row) (Some (c.args.row, c.args.lsn)) (Ok (tt {0})) c.self.view_is c.self.invariant (sym c.if-has.ensures) c.rewrite-else-has.ensures tt).ok
