use Rattle.std.proofs.Common.{◌≡◌, take}
use Rattle.sx_values.specs.Layouts.{projected}
use Rattle.sx_values.proofs.schema.values_at.Given as goal

abbrev pub invariant-loop-place : goal.invariant-loop-place
invariant-loop-place l = l.values.items ≡ projected (take l.place-index l.places) l.row
