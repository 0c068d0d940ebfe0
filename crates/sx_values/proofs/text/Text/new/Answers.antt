use Rattle.std.proofs.Common.{sym, ◌∙◌}
use Rattle.sx_values.proofs.TextLaws.{is_text-from_no_fault}
use Rattle.sx_values.proofs.text.Text.new.Goals as goal

pub invariant_of-result : goal.invariant_of-result
invariant_of-result c =
    let text = is_text-from_no_fault c.args.bytes.now (sym c.fault_of.ensures ∙ c.in_default.is) in
    rw c.in-Ok.ensures text
