-- What reading to the end and writing to the end do, by their answers.
use Rattle.std.specs.Prelude.{◌≡◌, ℕ, ◌+◌, ◌<◌, ◌≤◌, List, [], length, take, Option, Some, Result, Ok, Err, IfSome, OnSome}
use Rattle.std.specs.Io.KnownBytes.{Appends, Consumes}
use Rattle.sx_io.specs.Causes.{Rose}
use Rattle.sx_io.specs.declared.whole.ReadFault.{ReadFault}
use Rattle.sx_io.specs.declared.whole.ReadFault.TheVariants.{Memory, Failed, TooLong}
use Rattle.sx_io.specs.declared.whole.WriteFault.{WriteFault}

-- all that was left has been read, and it is within the limit
pub record IsReadWhole (left rest : Option (List ℕ)) (limit : ℕ) (bytes : List ℕ) : Type 0 where
  pub whole : IfSome left (λ all. bytes ≡ all)
  pub ended : OnSome left (rest ≡ Some [])
  pub within : length bytes ≤ limit

-- one byte more than the limit has been read
pub record IsReadPast (left rest : Option (List ℕ)) (limit : ℕ) : Type 0 where
  pub read : (bytes : List ℕ) × (length bytes ≡ limit + 1) × Consumes left rest bytes
  pub over : IfSome left (λ all. limit < length all)

-- some bytes within the limit have been read, and no others are gone
abbrev pub IsReadInPart : Option (List ℕ) → Option (List ℕ) → ℕ → Type 0
IsReadInPart left rest limit = (bytes : List ℕ) × (length bytes ≤ limit) × Consumes left rest bytes

-- reading to the end gives all that was left, or tells of a fault whose count rose, or of more bytes than the limit
abbrev pub ReadsAll : (left rest : Option (List ℕ)) (before now limit : ℕ) → Result (List ℕ) ReadFault → Type 0
ReadsAll left rest before now limit (Ok bytes) = IsReadWhole left rest limit bytes
ReadsAll left rest before now limit (Err Memory) = IsReadInPart left rest (limit + 1)
ReadsAll left rest before now limit (Err Failed) = Rose before now × IsReadInPart left rest limit
ReadsAll left rest before now limit (Err TooLong) = IsReadPast left rest limit

-- a fault of writing: its count rose, and the bytes up to that one were taken
pub record IsWrittenInPart (written after : Option (List ℕ)) (before now : ℕ) (bytes : List ℕ) (taken : ℕ) : Type 0 where
  pub rose : Rose before now
  pub below : taken < length bytes
  pub front : Appends written after (take taken bytes)

-- writing to the end writes all the bytes, or tells how many were taken before a fault
abbrev pub WritesAll : {T : Type 0} → (written after : Option (List ℕ)) (before now : ℕ) (bytes : List ℕ) → Result T WriteFault → Type 0
WritesAll written after before now bytes (Ok done) = Appends written after bytes
WritesAll written after before now bytes (Err fault) = IsWrittenInPart written after before now bytes fault.taken
