use Rattle.sx_text.proofs.ReadBackLaws.{key_read-record_text}
use Rattle.sx_text.proofs.laws.keys_are_read_back.Goals as goal

pub returns : goal.returns
returns c layout key is values admits = key_read-record_text layout key is values admits
