use Rattle.sx_model.proofs.LoadLaws.{loads_fit}
use Rattle.sx_model.proofs.loads_fit.Goals as goal

pub returns : goal.returns
returns c = loads_fit
