use Rattle.std.proofs.Common.{[], ◌∷◌, nat_eq}
use Rattle.std.specs.List.{IsDistinct}
use Rattle.sx_ops.proofs.tests.keyed.Goals as goal

one_place : IsDistinct nat_eq (0 ∷ [])
unfolding IsDistinct
one_place = (tt, tt)

pub new-requires-clause-distinct : goal.new-requires-clause-distinct
new-requires-clause-distinct g c = rw c.in-Ok.ensures one_place
