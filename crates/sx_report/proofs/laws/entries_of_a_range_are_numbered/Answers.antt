use Rattle.sx_report.proofs.RangeLaws.{following_numbered}
use Rattle.sx_report.proofs.laws.entries_of_a_range_are_numbered.Goals as goal

pub returns : goal.returns
returns c newest from n index within = following_numbered newest from n index within
