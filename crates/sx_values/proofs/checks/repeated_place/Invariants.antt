use Rattle.std.proofs.Common.{◌≡◌, take, drop}
use Rattle.sx_values.specs.Names.{repeated_after, repeated_name}
use Rattle.sx_values.specs.SchemaFaults.{names_of}
use Rattle.sx_values.proofs.checks.repeated_place.Given as goal

abbrev pub invariant-loop-place : goal.invariant-loop-place
invariant-loop-place l =
    repeated_after (take l.place (names_of l.columns)) (drop l.place (names_of l.columns)) ≡ repeated_name (names_of l.columns)
