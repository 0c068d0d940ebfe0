-- Walks through the rows of a table.
use Rattle.std.specs.Prelude.{◌≡◌, ◌↔◌, Bool, true, ℕ, List, [], ◌∷◌, filter, take, Option, Some, None, IsTrue}
use Rattle.std.specs.Ordering.{is_lt}
use Rattle.std.specs.declared.ops.Bound.{Bound}
use Rattle.std.specs.declared.ops.Bound.TheVariants.{Excluded, Unbounded}
use Rattle.sx_values.specs.declared.value.Value.{Value}
use Rattle.sx_values.specs.Values.{values_cmp}
use Rattle.sx_heap.specs.declared.seen.Seen.{Seen}
use Rattle.sx_heap.specs.declared.walk.Walked.{Walked}

-- whether a key stands behind a cursor, which is nothing or the last key that was handed out
abbrev pub is_after : Option (List Value) → List Value → Bool
is_after None key = true
is_after (Some last) key = is_lt (values_cmp last key)

-- the rows behind a cursor, in order
abbrev pub rows_after : Option (List Value) → List Seen → List Seen
rows_after cursor rows = filter (λ (s : Seen). is_after cursor s.key) rows

-- the key of the last of these rows, or the cursor where there are none
abbrev pub last_key : Option (List Value) → List Seen → Option (List Value)
last_key cursor [] = cursor
last_key cursor (seen ∷ rows) = last_key (Some seen.key) rows

-- where the rows behind a cursor begin
abbrev pub bound_of : Option (List Value) → Bound (List Value)
bound_of None = Unbounded
bound_of (Some last) = Excluded last

-- a turn hands out the next n rows behind the cursor, or all of them where they are fewer; it ends behind the last of them, or where it began if there are none; it says whether no row stands behind that
pub record WalksOn (rows : List Seen) (cursor : Option (List Value)) (n : ℕ) (walked : Walked) : Type 0 where
  pub hands_out : walked.seen ≡ take n (rows_after cursor rows)
  pub ends_at : walked.next ≡ last_key cursor walked.seen
  pub is_over : IsTrue walked.over ↔ (rows_after walked.next rows ≡ [])
