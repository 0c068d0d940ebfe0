use Rattle.std.proofs.Common.{◌≡◌, ◌++◌, drop, slice_get}
use Rattle.std.specs.List.{filter_map}
use Rattle.sx_text.specs.Reading.{kinds_of}
use Rattle.sx_text.proofs.reading.kinds_at.Given as goal

abbrev pub invariant-loop-place : goal.invariant-loop-place
invariant-loop-place l =
    l.kinds.items ++ kinds_of (filter_map (slice_get l.columns) (drop l.place-index l.places))
    ≡ kinds_of (filter_map (slice_get l.columns) l.places)
