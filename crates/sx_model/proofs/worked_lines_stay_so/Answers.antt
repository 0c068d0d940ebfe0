use Rattle.sx_model.proofs.TurnLaws.{stay_over}
use Rattle.sx_model.proofs.worked_lines_stay_so.Goals as goal

pub returns : goal.returns
returns c plan past e over = stay_over plan e past over
