use Rattle.sx_model.proofs.FitLaws.{images_fit}
use Rattle.sx_model.proofs.images_fit.Goals as goal

pub returns : goal.returns
returns c = images_fit
