use Rattle.sx_model.proofs.LsnLaws.{one_key}
use Rattle.sx_model.proofs.an_lsn_is_of_one_key.Goals as goal

pub returns : goal.returns
returns c = one_key
