use Rattle.std.proofs.Common.{◌∙◌, ap}
use Rattle.sx_model.specs.Logs.{log_of}
use Rattle.sx_core.specs.Machines.{Machine}
use Rattle.sx_core.proofs.machine.Core.log.Goals as goal

pub returns : goal.returns
returns c =
    c.log.ensures.log ∙ c.self.invariant.1.manager_meets.log_is ∙ ap (λ (m : Machine). log_of m.opening m.past) c.self.view_is
