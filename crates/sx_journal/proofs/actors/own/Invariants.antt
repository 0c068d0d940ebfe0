use Rattle.std.proofs.Common.{◌≡◌, ◌==◌, take, filter, reverse}
use Rattle.sx_journal.specs.declared.entry.Entry.{Entry as TheEntry}
use Rattle.sx_journal.proofs.actors.own.Given as goal

abbrev pub invariant-loop-entry : goal.invariant-loop-entry
invariant-loop-entry l = l.own.newest ≡ filter (λ (e : TheEntry). e.actor == l.actor) (reverse (take l.entry-index l.entry-items))
