use Rattle.std.proofs.Common.{map, take}
use Rattle.sx_core.specs.Clients.{living_of}
use Rattle.sx_core.specs.Switching.{AreLives}
use Rattle.sx_core.proofs.switch.lives_of.Given as goal

abbrev pub invariant-loop-client : goal.invariant-loop-client
invariant-loop-client l = AreLives l.locks l.source (map living_of (take l.client-index l.clients)) l.lives.items
