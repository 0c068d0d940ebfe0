use Rattle.std.proofs.Common.{◌∙◌, length, ap}
use Rattle.shiftrun.proofs.HoldLaws.{behind_now}
use Rattle.shiftrun.proofs.propagator.is_behind.Goals as goal

pub returns : goal.returns
returns c = behind_now c.args.core.now c.args.image.now c.in-Some.image c.position.result c.len.result c.requires.held c.in-Some.is c.requires.scanned c.position.ensures (c.len.ensures ∙ ap length c.log.ensures)
