use Rattle.sx_model.proofs.ScriptLaws.{legal_turn_of_client}
use Rattle.sx_model.proofs.a_clients_turn_is_of_a_client.Goals as goal

pub returns : goal.returns
returns c = legal_turn_of_client
