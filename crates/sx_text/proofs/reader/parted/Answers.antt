use Rattle.std.proofs.Common.{sym, ◌∙◌, ap, drop}
use Rattle.sx_text.proofs.WordLaws.{parted_at, whole_line}
use Rattle.sx_text.proofs.reader.parted.Goals as goal

pub returns-in-Some-clause-word : goal.returns-in-Some-clause-word
returns-in-Some-clause-word c = c.split_at.ensures.front ∙ (parted_at 32 c.args.line.now c.in-Some.at (sym c.space_in.ensures.index ∙ c.in-Some.is)).front

pub returns-in-Some-clause-left : goal.returns-in-Some-clause-left
returns-in-Some-clause-left c =
    c.split_at-in-Some.ensures.back ∙ ap (drop 1) c.split_at.ensures.back
    ∙ (parted_at 32 c.args.line.now c.in-Some.at (sym c.space_in.ensures.index ∙ c.in-Some.is)).back

pub returns-in-None-clause-word : goal.returns-in-None-clause-word
returns-in-None-clause-word c = (whole_line 32 c.args.line.now (sym c.space_in.ensures.index ∙ c.in-None.is)).front

pub returns-in-None-clause-left : goal.returns-in-None-clause-left
returns-in-None-clause-left c = c.split_at-in-None.ensures.back ∙ (whole_line 32 c.args.line.now (sym c.space_in.ensures.index ∙ c.in-None.is)).back
