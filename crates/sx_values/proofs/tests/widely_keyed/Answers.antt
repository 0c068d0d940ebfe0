use Rattle.std.proofs.Common.{[], ◌∷◌, nat_eq, refl}
use Rattle.std.specs.List.{IsDistinct}
use Rattle.sx_values.proofs.tests.widely_keyed.Goals as goal

two_places : IsDistinct nat_eq (0 ∷ 1 ∷ [])
unfolding IsDistinct
two_places = ((refl, tt), (tt, tt))

pub wide-requires-clause-distinct : goal.wide-requires-clause-distinct
wide-requires-clause-distinct g c = rw c.in-Ok.ensures two_places
