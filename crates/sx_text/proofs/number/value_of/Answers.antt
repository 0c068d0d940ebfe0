use Rattle.std.proofs.Common.{sym, ◌∙◌, ◌^◌, ap, arith}
use Rattle.std.proofs.Math.ListN.{drop_of_length-le}
use Rattle.sx_text.specs.Numbers.{digits_behind, value_within}
use Rattle.sx_text.proofs.NumberLaws.{too_large_at, within}
use Rattle.sx_text.proofs.number.value_of.Goals as goal

pub returns-in-None : goal.returns-in-None
returns-in-None c =
    let e = too_large_at (2 ^ 64) c.args.digits.now c.loop-digit.number c.loop-digit.digit-index c.loop-digit-test.true (sym c.with_digit.ensures ∙ c.in-None.is) in
    sym e ∙ ap (value_within (2 ^ 64)) c.loop-digit.invariant.value

pub returns : goal.returns
returns c =
    let none = drop_of_length-le c.args.digits.now {i = c.loop-digit.digit-index} (omega arith) in
    let all = sym (ap (digits_behind c.loop-digit.number) none) ∙ c.loop-digit.invariant.value in
    sym (within (2 ^ 64) c.loop-digit.number c.loop-digit.invariant.small) ∙ ap (value_within (2 ^ 64)) all
