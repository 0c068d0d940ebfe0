use Rattle.std.proofs.Common.{subst, ◌∙◌, sym, ◌≡◌, None}
use Rattle.sx_ops.specs.Checks.{spec_fault}
use Rattle.sx_values.specs.Catalogs.{source_schema}
use Rattle.sx_part.proofs.PartLemmas.{parted_new, names_differ}
use Rattle.sx_part.proofs.image.PartImage.new.Goals as goal

pub invariant_of-result : goal.invariant_of-result
invariant_of-result c =
    let fits = subst (λ spec. spec_fault c.args.catalog.now spec ≡ None) c.in-Part.is c.requires.fits in
    parted_new _ (c.new-failing.ensures.schema ∙ c.in_ok-copy-2.ensures ∙ sym c.in_ok-copy.ensures ∙ sym c.new-passing.ensures.schema) c.new-passing.ensures.empty c.new-failing.ensures.empty
    (rw (c.in_ok-copy-5.ensures, c.in_ok-copy-6.ensures) (names_differ c.args.catalog.now (source_schema c.args.catalog.now c.in-Part.table) c.in-Part.table c.in-Part.tests c.in-Part.yes c.in-Part.no fits))
