use Rattle.std.proofs.Common.{sym}
use Rattle.sx_lang.proofs.OnlyLaws.{spec_text-spec_read}
use Rattle.sx_lang.proofs.laws.specs_have_one_text.Goals as goal

pub returns : goal.returns
returns c = record {
  text = λ text spec e. sym (spec_text-spec_read text spec e).is;
  shaped = λ text spec e. (spec_text-spec_read text spec e).shaped;
  spelled = λ text spec e. (spec_text-spec_read text spec e).spelled;
}
