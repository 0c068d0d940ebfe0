use Rattle.sx_lang.proofs.AgainLaws.{spec_read-spec_text}
use Rattle.sx_lang.proofs.laws.specs_are_read_back.Goals as goal

pub returns : goal.returns
returns c spec shaped spelled = spec_read-spec_text spec shaped spelled
