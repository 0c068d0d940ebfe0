-- Answers of calls that may be refused, or may want memory.
use Rattle.std.specs.Prelude.{◌≡◌, Option, Some, None, Result, Ok, Err}

-- the answer is this fault where there is one; where there is none, it is Ok or want of memory
abbrev pub RefusesBy : {T E : Type 0} → Option E → E → Result T E → Type 0
RefusesBy (Some fault) memory answer = answer ≡ Err fault
RefusesBy None memory (Ok value) = Unit {0}
RefusesBy None memory (Err fault) = fault ≡ memory

-- the answer is this fault where there is one, and else this value
abbrev pub unless : {T E : Type 0} → Option E → T → Result T E
unless (Some fault) value = Err fault
unless None value = Ok value

-- the first of two faults
abbrev pub or_later : {E : Type 0} → Option E → Option E → Option E
or_later (Some fault) later = Some fault
or_later None later = later
