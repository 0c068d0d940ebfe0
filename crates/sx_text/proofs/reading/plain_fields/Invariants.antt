use Rattle.std.proofs.Common.{◌≡◌, ◌++◌, [], map, length}
use Rattle.sx_text.specs.Records.{record_fields}
use Rattle.sx_text.proofs.PlainLaws.{pieces}
use Rattle.sx_text.proofs.reading.plain_fields.Given as goal

abbrev pub invariant-loop-at : goal.invariant-loop-at
invariant-loop-at l = map (λ field. field.now) l.fields.items ++ pieces [] l.rest ≡ record_fields l.fn.text

abbrev pub decreases-loop-at : goal.decreases-loop-at
decreases-loop-at l = length l.rest
