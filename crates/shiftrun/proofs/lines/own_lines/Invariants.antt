use Rattle.std.proofs.Common.{◌≡◌, ◌++◌, [], length, take, drop}
use Rattle.sx_script.specs.Plans.{plan_of}
use Rattle.shiftrun.specs.Lines.{clients_of, own_lines}
use Rattle.shiftrun.proofs.CountLaws.{Count}
use Rattle.shiftrun.proofs.lines.own_lines.Given as goal

abbrev pub invariant-loop-client : goal.invariant-loop-client
invariant-loop-client l =
    let clients = clients_of (plan_of l.script) in
    record {
      made : l.lines.items ++ own_lines (take l.client-index clients) (drop l.client-index clients) ≡ own_lines [] clients;
      eight : length l.counts ≡ 8;
      count : Count clients l.client-index l.counts;
    }
