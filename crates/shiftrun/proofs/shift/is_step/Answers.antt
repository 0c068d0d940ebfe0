use Rattle.std.proofs.Common.{◌∙◌, ap, codes, bytes_eq}
use Rattle.shiftrun.proofs.EndLaws.{one_word}
use Rattle.shiftrun.proofs.shift.is_step.Goals as goal

pub returns-then-words-eq1 : goal.returns-then-words-eq1
returns-then-words-eq1 c = one_word c.args.words.now c.index-words-0.result c.eq.result c.if-words-eq1.true c.index-words-0.is (c.eq.ensures ∙ ap (λ bytes. bytes_eq bytes (codes "step")) c.as_str.ensures.value)
