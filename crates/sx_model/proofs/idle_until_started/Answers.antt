use Rattle.sx_model.proofs.LegalLaws.{idle_unstarted}
use Rattle.sx_model.proofs.idle_until_started.Goals as goal

pub returns : goal.returns
returns c = idle_unstarted
