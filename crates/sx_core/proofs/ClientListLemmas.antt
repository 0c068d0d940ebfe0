-- Clients with their transactions, as the code keeps them.
use Rattle.std.proofs.Common.{◌≡◌, ◌==◌, ◌∷◌, [], not, ℕ, List, Bool, true, false, map, filter, cond, refl, ap}
use Rattle.sx_model.specs.Leaves.{without}
use Rattle.sx_core.specs.declared.clients.Client.{Client}
use Rattle.sx_core.specs.Clients.{living_of}

pub without-filter : (items : List Client) (client : ℕ) → without client (map living_of items) ≡ map living_of (filter (λ (item : Client). not (item.client == client)) items)
without-filter [] client = refl
without-filter (item ∷ items) client = by (item.client == client) (without-filter items client)
  where
    by : (b : Bool) → without client (map living_of items) ≡ map living_of (filter (λ (other : Client). not (other.client == client)) items)
        → cond (not b) (living_of item ∷ without client (map living_of items)) (without client (map living_of items)) ≡ map living_of (cond (not b) (item ∷ filter (λ (other : Client). not (other.client == client)) items) (filter (λ (other : Client). not (other.client == client)) items))
    by true h = h
    by false h = ap (λ rest. living_of item ∷ rest) h
