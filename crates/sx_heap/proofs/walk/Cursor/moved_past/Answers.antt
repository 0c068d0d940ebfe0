use Rattle.std.proofs.Common.{ap, sym, ◌∙◌, Some}
use Rattle.sx_heap.proofs.WalkLemmas.{last_key-last}
use Rattle.sx_heap.proofs.walk.Cursor.moved_past.Goals as goal

pub returns-in_ok-key-in-Some : goal.returns-in_ok-key-in-Some
returns-in_ok-key-in-Some c = ap Some c.in_ok-key-in-Some.ensures ∙ sym (last_key-last c.args.self c.args.seen.now c.in-Some.last.now (sym c.in-Some.ensures.value))
