use Rattle.std.proofs.Common.{[], ◌∷◌, nat_eq, refl}
use Rattle.std.specs.List.{IsDistinct}
use Rattle.sx_values.proofs.tests.keyed.Goals as goal

two_places : IsDistinct nat_eq (0 ∷ 1 ∷ [])
unfolding IsDistinct
two_places = ((refl, tt), (tt, tt))

pub new-requires-clause-distinct : goal.new-requires-clause-distinct
new-requires-clause-distinct g c = rw c.in-Ok.ensures two_places
