use Rattle.std.proofs.Common.{refl}
use Rattle.sx_core.proofs.TurnLemmas.{uncommitted-fetch}
use Rattle.sx_core.proofs.FetchLemmas.{effect-not_scanned, effect-no_transform}
use Rattle.sx_core.proofs.machine.Core.fetch.Goals as goal

pub returns-then-is_full : goal.returns-then-is_full
returns-then-is_full c =
    let m = c.args.self.now in
    (refl, record { many = c.is_full.ensures.0 c.if-is_full.true; uncommitted = uncommitted-fetch m.opening m.past c.args.n })

pub refuse_fetch-requires-clause-quiet : goal.refuse_fetch-requires-clause-quiet
refuse_fetch-requires-clause-quiet c = effect-not_scanned

pub refuse_fetch-requires-in-Idle-clause-quiet : goal.refuse_fetch-requires-in-Idle-clause-quiet
refuse_fetch-requires-in-Idle-clause-quiet c = effect-no_transform
