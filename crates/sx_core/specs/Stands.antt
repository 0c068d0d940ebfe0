-- For which copy the propagator's image stands.
use Rattle.std.specs.Prelude.{⊤, List, Option, Some, None}
use Rattle.sx_image.specs.Images.{StandsFor}
use Rattle.sx_image.specs.declared.image.Kind.{Kind}
use Rattle.sx_sync.specs.declared.Phase.{Phase}
use Rattle.sx_sync.specs.declared.Phase.TheVariants.{Idle, Scanning, Chasing, Draining, Late, Done}
use Rattle.sx_journal.specs.declared.entry.Entry.{Entry}
use Rattle.sx_model.specs.Openings.{Opening}
use Rattle.sx_model.specs.Leaves.{Started, started, phase}
use Rattle.sx_model.specs.Copies.{copy}
use Rattle.sx_model.specs.Switches.{position}

-- an image stands for the copy that the journal tells of a transformation's sources
abbrev pub StandsNow : Opening → List Entry → Kind → Option Started → Type 0
StandsNow o past image None = ⊤
StandsNow o past image (Some s) = StandsFor o.catalog s.spec (copy o past) (position o past) image

-- the same while a transformation is before its switch
abbrev pub StandsIn : Opening → List Entry → Kind → Phase → Type 0
StandsIn o past image Idle = ⊤
StandsIn o past image Scanning = StandsNow o past image (started past)
StandsIn o past image Chasing = StandsNow o past image (started past)
StandsIn o past image Draining = StandsNow o past image (started past)
StandsIn o past image Late = ⊤
StandsIn o past image Done = ⊤

abbrev pub Stands : Opening → List Entry → Kind → Type 0
Stands o past image = StandsIn o past image (phase past)
