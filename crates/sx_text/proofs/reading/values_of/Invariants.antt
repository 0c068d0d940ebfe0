use Rattle.std.proofs.Common.{◌≡◌, ◌+◌, map, drop}
use Rattle.sx_text.specs.Reading.{values_from}
use Rattle.sx_text.proofs.FieldLaws.{with_front}
use Rattle.sx_text.proofs.reading.values_of.Given as goal

abbrev pub invariant-loop-index : goal.invariant-loop-index
invariant-loop-index l =
    with_front l.values.items (values_from (l.index + 1) (drop l.index l.kinds) (map (λ field. field.now) (drop l.index l.fields)))
    ≡ values_from 1 l.kinds (map (λ field. field.now) l.fields)
