use Rattle.sx_model.proofs.FinishLaws.{switch_at_rest}
use Rattle.sx_model.proofs.a_switch_at_rest_is_done.Goals as goal

pub returns : goal.returns
returns c = switch_at_rest
