use Rattle.sx_model.proofs.EntryLaws.{log_grows_by_one}
use Rattle.sx_model.proofs.the_log_grows_by_one.Goals as goal

pub returns : goal.returns
returns c = log_grows_by_one
