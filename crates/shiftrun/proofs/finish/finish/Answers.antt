use Rattle.std.proofs.Common.{◌≡◌, ◌∙◌, None, sym, ap}
use Rattle.std.specs.Option.{option_copied}
use Rattle.sx_script.specs.Plans.{plan_of}
use Rattle.shiftrun.specs.Runs.{end_of}
use Rattle.shiftrun.proofs.RollLaws.{lines_end}
use Rattle.shiftrun.proofs.finish.finish.Goals as goal

pub returns-in-None : goal.returns-in-None
returns-in-None c =
    let plan = plan_of c.args.script.now in
    let none : plan.change ≡ None = sym c.change.ensures ∙ ap option_copied c.in-None.is in
    record { run = lines_end plan c.roll_all_back.new.core c.in_ok-roll_all_back.ensures.rolled none; ends = ap end_of (sym none) }
