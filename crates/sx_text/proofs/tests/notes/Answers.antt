use Rattle.std.proofs.Common.{◌∷◌, [], nat_eq}
use Rattle.std.specs.List.{IsDistinct}
use Rattle.sx_text.proofs.tests.notes.Goals as goal

one_place : IsDistinct nat_eq (0 ∷ [])
unfolding IsDistinct
one_place = (tt, tt)

pub new-requires-3-clause-distinct : goal.new-requires-3-clause-distinct
new-requires-3-clause-distinct c = rw (c.in_ok-push-3.ensures.ok, c.new-key.ensures) one_place
