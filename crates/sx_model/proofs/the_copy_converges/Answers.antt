use Rattle.sx_model.proofs.CopyLaws.{converged}
use Rattle.sx_model.proofs.the_copy_converges.Goals as goal

pub returns : goal.returns
returns c = converged
