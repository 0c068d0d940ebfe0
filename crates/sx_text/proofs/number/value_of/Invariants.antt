use Rattle.std.proofs.Common.{◌≡◌, ◌<◌, ◌^◌, drop}
use Rattle.sx_text.specs.Numbers.{digits_behind}
use Rattle.sx_text.proofs.number.value_of.Given as goal

abbrev pub invariant-loop-digit : goal.invariant-loop-digit
invariant-loop-digit l = record {
  value : digits_behind l.number (drop l.digit-index l.digits) ≡ digits_behind 0 l.digits;
  small : l.number < 2 ^ 64;
}
