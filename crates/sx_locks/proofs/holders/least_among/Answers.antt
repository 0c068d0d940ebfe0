use Rattle.std.proofs.Common.{sym}
use Rattle.sx_locks.proofs.HolderLemmas.{least_found, least_ended}
use Rattle.sx_locks.proofs.holders.least_among.Goals as goal

pub returns-then-conflicts_with : goal.returns-then-conflicts_with
returns-then-conflicts_with c =
    least_found c.args.modes.now.entries c.loop-other.other-iterator c.next.new.self c.args.txn c.args.mode c.in-Some.other.now c.in-Some.held.now c.iter-other-items.ensures.ordered c.loop-other.invariant c.in-Some.ensures.steps c.if-txn-other.true (sym c.if-conflicts_with.ensures)

pub returns : goal.returns
returns c =
    least_ended c.args.modes.now.entries c.loop-other.other-iterator c.args.txn c.args.mode c.iter-other-items.ensures.ordered c.loop-other.invariant c.in-None.ensures.steps.0
