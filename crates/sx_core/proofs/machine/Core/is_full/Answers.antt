use Rattle.std.proofs.Common.{◌+◌, length, ap, arith}
use Rattle.std.proofs.lemmas.Bool.Decides.{nat_tests}
use Rattle.sx_model.specs.Leaves.{living}
use Rattle.sx_core.specs.Machines.{Machine}
use Rattle.sx_core.proofs.machine.Core.is_full.Goals as goal

pub returns : goal.returns
returns c =
    let lives = ap length c.self.invariant.1.clients_are in
    let seen = ap (λ (m : Machine). length m.past + length (living m.past)) c.self.view_is in
    (λ many. grind (arith, nat_tests), λ many. grind (arith, nat_tests))
