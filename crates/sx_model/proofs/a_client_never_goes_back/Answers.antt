use Rattle.sx_model.proofs.TurnLaws.{standing_forward}
use Rattle.sx_model.proofs.a_client_never_goes_back.Goals as goal

pub returns : goal.returns
returns c plan client past e = standing_forward plan client e past
