-- How the holders of one key are kept.
use Rattle.std.specs.Prelude.{ℕ, List, [], ◌∷◌}
use Rattle.sx_locks.specs.declared.mode.Mode.{Mode}
use Rattle.sx_locks.specs.declared.holders.Holding.{Holding}
use Rattle.sx_locks.specs.declared.holders.Holding.TheVariants.{Nobody, One, Many}

-- the transactions with their modes, in rising order
abbrev pub holders_in : Holding → List (ℕ × Mode)
holders_in Nobody = []
holders_in (One txn mode) = (txn, mode) ∷ []
holders_in (Many modes) = modes.entries
