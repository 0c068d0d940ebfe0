use Rattle.sx_core.proofs.AttemptLemmas.{effect-unread}
use Rattle.sx_core.proofs.machine.Core.attempt.Goals as goal

pub refuse_switch-requires-clause-quiet : goal.refuse_switch-requires-clause-quiet
refuse_switch-requires-clause-quiet c = effect-unread c.in-Ok-Unread.pos c.in-Ok-Unread.end
