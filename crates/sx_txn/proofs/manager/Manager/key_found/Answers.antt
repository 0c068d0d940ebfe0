use Rattle.std.proofs.Common.{List, Result, Ok, Err, IfOk, ◌≡◌}
use Rattle.std.specs.declared.alloc.AllocError.{AllocError}
use Rattle.sx_values.specs.declared.value.Value.{Value}
use Rattle.sx_txn.specs.Turns.{key_of_change}
use Rattle.sx_txn.specs.Lives.{kept_all}
use Rattle.sx_txn.specs.Patches.{IsKeyOf}
use Rattle.sx_txn.proofs.PutLemmas.{fits_found, not_found, key_is}
use Rattle.sx_txn.proofs.EventLemmas.{own_meets}
use Rattle.sx_txn.proofs.manager.Manager.key_found.Goals as goal

pub key_of_change-requires : goal.key_of_change-requires
key_of_change-requires c =
    let i = c.self.inside in
    fits_found i.tables i.log i.locks (kept_all i.living.items) i.begun c.args.self.now c.args.table.now c.args.change.now c.in-Some.found.now c.self.view_is c.requires c.in-Some.ensures.found

pub unreachable-requires : goal.unreachable-requires
unreachable-requires c =
    let i = c.self.inside in
    not_found i.tables i.log i.locks (kept_all i.living.items) i.begun c.args.self.now c.args.table.now c.args.change.now c.self.view_is c.requires c.in-None.ensures.found

when_ok : (r : Result (List Value) AllocError) (P Q : List Value → Type 0) → ((key : List Value) → P key → Q key) → IfOk r P → IfOk r Q
when_ok (Ok key) P Q gives holds = gives key holds
when_ok (Err e) P Q gives holds = holds

pub returns-clause-key : goal.returns-clause-key
returns-clause-key c =
    let i = c.self.inside in
    when_ok c.key_of_change.result (λ (key : List Value). key_of_change c.in-Some.found.now.schema c.args.change.now ≡ key) (IsKeyOf c.args.self.now.shapes c.args.table.now c.args.change.now)
    (λ key is. key_is i.tables i.log i.locks (kept_all i.living.items) i.begun c.args.self.now c.args.table.now c.args.change.now c.in-Some.found.now key c.self.view_is c.in-Some.ensures.found is) c.key_of_change.ensures

pub returns-clause-meets : goal.returns-clause-meets
returns-clause-meets c = let i = c.self.inside in own_meets i.tables i.log i.locks (kept_all i.living.items) i.begun c.args.self.now c.self.view_is c.self.invariant
