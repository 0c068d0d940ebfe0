use Rattle.std.proofs.Common.{◌∙◌, rules, Some, None, ap, unwrap_or, []}
use Rattle.sx_locks.proofs.LockLemmas.{sets_key, frees_absent}
use Rattle.sx_locks.proofs.keys.free_holder.Goals as goal

pub returns-in-Some-clause-freed : goal.returns-in-Some-clause-freed
returns-in-Some-clause-freed c =
    let now = c.free.new.self in
    let was = c.args.keys.now.entries in
    let after = (c.get_mut.follows.lender now).entries in
    sets_key was after c.args.txn c.args.key.now None (Some c.in-Some.holders.now) now c.in-Some.ensures.value ((c.get_mut.follows.holds now).3 (search rules)).0 c.free.ensures.freed

pub returns-in-Some-clause-bare : goal.returns-in-Some-clause-bare
returns-in-Some-clause-bare c =
    λ none. ap (λ o. unwrap_or o []) ((c.get_mut.follows.holds c.free.new.self).3 (search rules)).1 ∙ c.free.ensures.none.0 none

pub returns-in-None-clause-freed : goal.returns-in-None-clause-freed
returns-in-None-clause-freed c = rw c.get_mut.follows.holds-at-none (frees_absent c.args.keys.now.entries c.args.txn c.args.key.now c.in-None.ensures.value)
