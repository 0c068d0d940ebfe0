-- Places in a list, counted from 1, and lists that are seen newest first.
use Rattle.std.specs.Prelude.{◌==◌, ◌+◌, if◌then◌else◌, ℕ, zero, suc, List, [], ◌∷◌, Option, Some, None, length, slice_get, take, drop, reverse}

-- the item at a place from 1, or None where there is none
abbrev pub at_place : {T : Type 0} → List T → ℕ → Option T
at_place items zero = None
at_place items (suc below) = slice_get items below

-- a list that grows at its front, the newest item first, and the room that is left
pub record Growing (T : Type 0) : Type 0 where
  pub newest : List T
  pub spare : ℕ

-- the item that came as number n, counted from 1, in a list that is seen newest first
abbrev pub numbered : {T : Type 0} → List T → ℕ → Option T
numbered [] n = None
numbered (item ∷ past) n = if n == length past + 1 then Some item else numbered past n

-- of a list that is seen newest first, the n items that came after the first `from`, the oldest first
abbrev pub following : {T : Type 0} → List T → ℕ → ℕ → List T
following newest from n = take n (drop from (reverse newest))
