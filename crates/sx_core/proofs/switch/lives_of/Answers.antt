use Rattle.std.proofs.Common.{sym, refl, subst, map, []}
use Rattle.std.proofs.lemmas.List.{take_all}
use Rattle.sx_core.specs.Clients.{living_of}
use Rattle.sx_core.specs.Switching.{AreLives}
use Rattle.sx_core.proofs.SwitchLemmas.{lives_more}
use Rattle.sx_core.proofs.switch.lives_of.Goals as goal

pub loop-client-init : goal.loop-client-init
loop-client-init c = subst (AreLives c.args.locks.now c.args.source.now []) (sym c.new-lives.ensures.items) tt

pub loop-client-preserved : goal.loop-client-preserved
loop-client-preserved c =
    lives_more c.args.locks.now c.args.source.now c.args.clients.now c.loop-client.client-index _ _ c.loop-client.lives.items _ c.loop-client-test.true c.loop-client.invariant refl c.any_on.ensures c.in_ok-push.ensures.items

pub returns : goal.returns
returns c =
    let all = take_all c.loop-client.client-index c.args.clients.now c.loop-client-test.false in
    subst (AreLives c.args.locks.now c.args.source.now (map living_of c.args.clients.now)) (sym c.from_vec.ensures)
    (subst (λ l. AreLives c.args.locks.now c.args.source.now (map living_of l) c.loop-client.lives.items) all c.loop-client.invariant)
