use Rattle.std.proofs.Common.{◌≡◌, ◌≤◌, ◌+◌, [], length}
use Rattle.sx_lines.specs.Lines.{text_lines}
use Rattle.sx_script.specs.Reading.{lines_read}
use Rattle.sx_script.proofs.ReadLaws.{whole}
use Rattle.sx_script.proofs.script.parse_script.Given as goal

abbrev pub invariant-loop-text : goal.invariant-loop-text
invariant-loop-text l = record {
  read : whole l.parser (lines_read l.parser (text_lines l.left)) ≡ lines_read [] (text_lines l.bytes);
  counted : l.count + length (text_lines l.left) ≡ length (text_lines l.bytes);
  few : l.count ≤ 20000;
}

abbrev pub decreases-loop-text : goal.decreases-loop-text
decreases-loop-text l = length l.left
