use Rattle.sx_model.proofs.RestLaws.{committed_undid_nothing}
use Rattle.sx_model.proofs.a_committed_transaction_has_undone_nothing.Goals as goal

pub returns : goal.returns
returns c = committed_undid_nothing
