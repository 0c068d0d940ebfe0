-- What a source and a sink in memory hold, and what a call of each does.
use Rattle.std.specs.Prelude.{◌≡◌, ◌==◌, ◌||◌, Bool, true, false, ℕ, ◌-◌, min, List, ◌++◌, length, take, drop, Result, Ok, Err}
use Rattle.std.specs.List.{list_any}
use Rattle.sx_io.specs.Causes.{next_count}

-- the calls that are to fail, by their numbers from 1, and how many calls were made and have failed
pub record Calls : Type 0 where
  pub failing : List ℕ
  pub made : ℕ
  pub failed : ℕ

-- whether the next call is to fail
abbrev pub fails_next : Calls → Bool
fails_next calls = list_any (λ call. call == next_count calls.made) calls.failing

-- the calls with one more, which failed or didn't
abbrev pub after_call : Calls → Bool → Calls
after_call calls true = record calls { made = next_count calls.made; failed = next_count calls.failed }
after_call calls false = record calls { made = next_count calls.made }

-- a source in memory: the bytes that are left, and how many a read gives at most
pub record Reading : Type 0 where
  pub left : List ℕ
  pub piece : ℕ
  pub calls : Calls

-- A read that is to fail does nothing but count. Another gives what the piece, the buffer's length and the bytes allow.
abbrev pub Reads : {E : Type 0} → Reading → Reading → ℕ → Result ℕ E → Type 0
Reads old new room (Ok count) =
    (fails_next old.calls ≡ false) × (count ≡ min old.piece (min room (length old.left)))
    × (new ≡ record old { left = drop count old.left; calls = after_call old.calls false })
Reads old new room (Err failed) =
    (fails_next old.calls ≡ true) × (new ≡ record old { calls = after_call old.calls true })

-- a sink in memory: the bytes that were written, the room that is left, and how many bytes a write takes at most
pub record Writing : Type 0 where
  pub written : List ℕ
  pub room : ℕ
  pub piece : ℕ
  pub calls : Calls

-- whether the next write fails: no room is left, or it is to fail
abbrev pub refuses_next : Writing → Bool
refuses_next sink = (sink.room == 0) || fails_next sink.calls

-- A write that fails does nothing but count. Another takes what the piece, the room and the bytes allow.
abbrev pub Writes : {E : Type 0} → Writing → Writing → List ℕ → Result ℕ E → Type 0
Writes old new bytes (Ok count) =
    (refuses_next old ≡ false) × (count ≡ min old.piece (min old.room (length bytes)))
    × (new ≡ record old { written = old.written ++ take count bytes; room = old.room - count; calls = after_call old.calls false })
Writes old new bytes (Err failed) =
    (refuses_next old ≡ true) × (new ≡ record old { calls = after_call old.calls true })
