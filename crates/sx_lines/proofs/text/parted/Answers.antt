use Rattle.std.proofs.Common.{sym, ◌∙◌, ap, drop, Some}
use Rattle.sx_lines.proofs.PartLaws.{parted_at, not_parted}
use Rattle.sx_lines.proofs.text.parted.Goals as goal

pub returns-in-Some-clause-parts : goal.returns-in-Some-clause-parts
returns-in-Some-clause-parts c =
    let there = parted_at c.args.mark c.args.bytes.now c.in-Some.at (sym c.index_of.ensures.index ∙ c.in-Some.is) in
    (λ i. Some (c.split_at.ensures.front i, (c.split_at-in-Some.ensures.back ∙ ap (drop 1) c.split_at.ensures.back) i)) ∙ sym there

pub returns-in-None-clause-parts : goal.returns-in-None-clause-parts
returns-in-None-clause-parts c = sym (not_parted c.args.mark c.args.bytes.now (sym c.index_of.ensures.index ∙ c.in-None.is))
