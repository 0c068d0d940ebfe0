use Rattle.sx_model.proofs.TurnLaws.{legal_bounded}
use Rattle.sx_model.proofs.a_journal_is_bounded.Goals as goal

pub returns : goal.returns
returns c = legal_bounded
