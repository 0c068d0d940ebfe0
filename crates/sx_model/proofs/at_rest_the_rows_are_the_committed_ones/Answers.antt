use Rattle.sx_model.proofs.RestLaws.{row_left-committed}
use Rattle.sx_model.proofs.at_rest_the_rows_are_the_committed_ones.Goals as goal

pub returns : goal.returns
returns c = row_left-committed
