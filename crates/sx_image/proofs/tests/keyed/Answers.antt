use Rattle.std.proofs.Common.{◌≡◌, ◌∷◌, ◌++◌, ◌∙◌, [], ℕ, List, nat_eq, ap}
use Rattle.std.specs.List.{IsDistinct}
use Rattle.sx_image.proofs.tests.keyed.Goals as goal

-- one place differs from all others
one_place : (key : List ℕ) → key ≡ 0 ∷ [] → IsDistinct nat_eq key
unfolding IsDistinct
one_place key is = rw is (tt, tt)

pub new-requires-clause-distinct : goal.new-requires-clause-distinct
new-requires-clause-distinct g c = one_place c.push.new.self (c.in_ok-push.ensures.ok ∙ ap (λ l. l ++ 0 ∷ []) c.new-key.ensures)
