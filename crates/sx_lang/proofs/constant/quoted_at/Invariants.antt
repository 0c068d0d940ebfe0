use Rattle.std.proofs.Common.{◌≡◌, length}
use Rattle.sx_lang.specs.Reading.{quoted_at}
use Rattle.sx_lang.proofs.QuoteLaws.{with_front}
use Rattle.sx_lang.proofs.constant.quoted_at.Given as goal

abbrev pub invariant-loop-b : goal.invariant-loop-b
invariant-loop-b l = with_front l.bytes.items (quoted_at l.left) ≡ quoted_at l.fn.text

abbrev pub decreases-loop-b : goal.decreases-loop-b
decreases-loop-b l = length l.left
