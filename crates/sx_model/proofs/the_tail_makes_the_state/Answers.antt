use Rattle.sx_model.proofs.CopyLaws.{redone_now}
use Rattle.sx_model.proofs.the_tail_makes_the_state.Goals as goal

pub returns : goal.returns
returns c = redone_now
