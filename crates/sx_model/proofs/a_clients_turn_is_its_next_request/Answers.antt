use Rattle.sx_model.proofs.ScriptLaws.{turn_is_next}
use Rattle.sx_model.proofs.a_clients_turn_is_its_next_request.Goals as goal

pub returns : goal.returns
returns c = turn_is_next
