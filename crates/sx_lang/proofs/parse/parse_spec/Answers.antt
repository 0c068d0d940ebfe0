use Rattle.sx_lang.proofs.OnlyLaws.{answer_shaped, answer_spelled}
use Rattle.sx_lang.proofs.parse.parse_spec.Goals as goal

pub returns-clause-shaped : goal.returns-clause-shaped
returns-clause-shaped c = answer_shaped c.args.text.now c.spec_of.result c.spec_of.ensures

pub returns-clause-spelled : goal.returns-clause-spelled
returns-clause-spelled c = answer_spelled c.args.text.now c.spec_of.result c.spec_of.ensures
