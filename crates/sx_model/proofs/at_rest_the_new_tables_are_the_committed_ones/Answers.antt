use Rattle.sx_model.proofs.RestLaws.{new_tables_committed}
use Rattle.sx_model.proofs.at_rest_the_new_tables_are_the_committed_ones.Goals as goal

pub returns : goal.returns
returns c = new_tables_committed
