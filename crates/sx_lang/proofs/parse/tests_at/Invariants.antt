use Rattle.std.proofs.Common.{◌≡◌, ◌-◌}
use Rattle.sx_lang.specs.Reading.{tests_at}
use Rattle.sx_lang.proofs.TestLaws.{with_tests}
use Rattle.sx_lang.proofs.parse.tests_at.Given as goal

abbrev pub invariant-loop : goal.invariant-loop
invariant-loop l = with_tests l.tests (tests_at (4 - l.counter) l.left) ≡ tests_at 4 l.fn.text
