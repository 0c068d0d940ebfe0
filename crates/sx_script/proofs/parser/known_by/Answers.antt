use Rattle.sx_script.proofs.KnownLaws.{are_new}
use Rattle.sx_script.proofs.parser.known_by.Goals as goal

pub with_targets-requires : goal.with_targets-requires
with_targets-requires c =
    rw (c.in_ok-copy.ensures, c.as_slice.ensures, c.in_ok-targets.ensures) (are_new c.args.catalog.now c.args.spec.now c.requires.shaped c.requires.fits)
