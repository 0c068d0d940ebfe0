use Rattle.sx_part.specs.PartImages.{schema_in}
use Rattle.sx_part.proofs.PartLemmas.{fits_change}
use Rattle.sx_part.proofs.parts.Parts.redo.Goals as goal

pub follow-requires-clause-fits : goal.follow-requires-clause-fits
follow-requires-clause-fits g c = fits_change (schema_in c.args.self.now) c.args.self.now.source c.args.rec.now.body c.in-Some.change c.requires.fits.fits c.in-Some.ensures.told
