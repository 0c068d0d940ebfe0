use Rattle.sx_model.proofs.LivingLaws.{legal_living}
use Rattle.sx_model.proofs.the_living_differ.Goals as goal

pub returns : goal.returns
returns c = legal_living
