use Rattle.sx_model.proofs.ScriptLaws.{stepped_keeps}
use Rattle.sx_model.proofs.stepped_keeps_the_script.Goals as goal

pub returns : goal.returns
returns c = stepped_keeps
