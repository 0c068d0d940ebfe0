use Rattle.std.proofs.Common.{refl}
use Rattle.sx_core.proofs.TurnLemmas.{uncommitted-switch}
use Rattle.sx_core.proofs.AttemptLemmas.{effect-no_transform, effect-not_scanned}
use Rattle.sx_core.proofs.machine.Core.switch.Goals as goal

pub returns-then-is_full-clause-answer : goal.returns-then-is_full-clause-answer
returns-then-is_full-clause-answer g c =
    let m = c.args.self.now in
    (refl, refl, record { many = c.is_full.ensures.0 c.if-is_full.true; uncommitted = uncommitted-switch m.opening m.past })

pub refuse_switch-requires-clause-quiet : goal.refuse_switch-requires-clause-quiet
refuse_switch-requires-clause-quiet g c = effect-not_scanned

pub refuse_switch-requires-in-Idle-clause-quiet : goal.refuse_switch-requires-in-Idle-clause-quiet
refuse_switch-requires-in-Idle-clause-quiet g c = effect-no_transform
