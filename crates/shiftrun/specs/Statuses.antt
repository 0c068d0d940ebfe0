-- The numbers of exit statuses.
use Rattle.std.specs.Prelude.{ℕ}
use Rattle.shiftrun.specs.declared.status.Status.{Status}
use Rattle.shiftrun.specs.declared.status.Status.TheVariants.{Reported, Refused, Words, Unread, Unwritten, Memory, Full}

-- the exit status of each ending
abbrev pub code : Status → ℕ
code Reported = 0
code Refused = 1
code Words = 2
code Unread = 3
code Unwritten = 4
code Memory = 5
code Full = 7
