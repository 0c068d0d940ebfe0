use Rattle.std.proofs.Common.{sym, ◌∙◌}
use Rattle.sx_lang.proofs.TestLaws.{past_four}
use Rattle.sx_lang.proofs.parse.tests_at.Goals as goal

pub returns : goal.returns
returns c = sym c.loop.invariant ∙ past_four c.loop.tests c.loop.counter c.loop.left.now c.loop-test.false
