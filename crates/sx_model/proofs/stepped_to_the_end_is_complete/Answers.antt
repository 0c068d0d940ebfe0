use Rattle.sx_model.proofs.ScriptLaws.{complete_at_end}
use Rattle.sx_model.proofs.stepped_to_the_end_is_complete.Goals as goal

pub returns : goal.returns
returns c = complete_at_end
