use Rattle.std.proofs.Common.{[], ◌∷◌, nat_eq}
use Rattle.std.specs.List.{IsDistinct}
use Rattle.sx_txn.proofs.tests.schema.Goals as goal

one_place : IsDistinct nat_eq (0 ∷ [])
unfolding IsDistinct
one_place = (tt, tt)

pub new-requires-clause-distinct : goal.new-requires-clause-distinct
new-requires-clause-distinct c = rw (c.in_ok-push-3.ensures.ok, c.new-key.ensures) one_place
