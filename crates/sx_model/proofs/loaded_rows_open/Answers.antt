use Rattle.sx_model.proofs.RestLaws.{opening_opened}
use Rattle.sx_model.proofs.loaded_rows_open.Goals as goal

pub returns : goal.returns
returns c = opening_opened
