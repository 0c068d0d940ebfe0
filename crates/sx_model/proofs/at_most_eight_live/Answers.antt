use Rattle.sx_model.proofs.LivingLaws.{few_live}
use Rattle.sx_model.proofs.at_most_eight_live.Goals as goal

pub returns : goal.returns
returns c = few_live
