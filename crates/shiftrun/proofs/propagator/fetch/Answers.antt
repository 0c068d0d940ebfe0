use Rattle.shiftrun.proofs.HoldLaws.{fetch_fits_if, fetch_held}
use Rattle.shiftrun.proofs.propagator.fetch.Goals as goal

pub redo-requires : goal.redo-requires
redo-requires c =
    let out = c.in_ok-out.out in
    let fetches = c.in_ok-out.ensures in
    record { fits = fetch_fits_if c.args.core.now c.args.n out.reply out.recs c.args.image.now c.requires.held fetches.right fetches.recs }

pub returns : goal.returns
returns c =
    let out = c.in_ok-out.out in
    let fetches = c.in_ok-out.ensures in
    fetch_held c.args.core.now c.fetch.new.self c.args.n out.reply out.recs c.args.image.now c.redo.new.image c.requires.held fetches.right fetches.turns fetches.recs c.in_ok-redo.ensures
