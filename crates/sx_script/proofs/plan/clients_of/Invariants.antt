use Rattle.std.proofs.Common.{◌≡◌, take}
use Rattle.std.specs.List.{filter_map}
use Rattle.sx_script.specs.Plans.{client_of}
use Rattle.sx_script.proofs.plan.clients_of.Given as goal

abbrev pub invariant-loop-line : goal.invariant-loop-line
invariant-loop-line l = l.clients.items ≡ filter_map client_of (take l.line-index l.lines)
