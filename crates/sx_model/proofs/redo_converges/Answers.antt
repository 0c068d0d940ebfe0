use Rattle.sx_model.proofs.ConvergenceLaws.{converges}
use Rattle.sx_model.proofs.redo_converges.Goals as goal

pub returns : goal.returns
returns c = converges
