use Rattle.sx_text.proofs.ReadBackLaws.{row_read-record_text}
use Rattle.sx_text.proofs.laws.rows_are_read_back.Goals as goal

pub returns : goal.returns
returns c layout row is values admits = row_read-record_text layout row is values admits
