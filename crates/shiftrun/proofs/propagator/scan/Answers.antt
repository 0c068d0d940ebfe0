use Rattle.shiftrun.proofs.HoldLaws.{answer_fits_if, scan_held}
use Rattle.shiftrun.proofs.propagator.scan.Goals as goal

pub learn-requires : goal.learn-requires
learn-requires c =
    let out = c.in_ok-out.out in
    let sees = c.in_ok-out.ensures in
    record { fits = answer_fits_if c.args.core.now c.args.n out.reply out.seen c.args.image.now c.requires.held sees.right sees.seen }

pub returns : goal.returns
returns c =
    let out = c.in_ok-out.out in
    let sees = c.in_ok-out.ensures in
    scan_held c.args.core.now c.scanned.new.core c.args.n out.reply out.seen c.args.image.now c.learn.new.image c.requires.held sees.right sees.turns sees.seen c.in_ok-learn.ensures
