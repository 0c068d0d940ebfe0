use Rattle.std.proofs.Common.{◌≡◌, ◌∙◌, sym, subst, refl}
use Rattle.sx_part.specs.PartImages.{AreTablesOf}
use Rattle.sx_part.proofs.SplitLemmas.{split_made, both}
use Rattle.sx_part.proofs.image.tables_of.Goals as goal

pub returns : goal.returns
returns c =
    let made : c.push-2.new.self ≡ both c.args.parts = c.in_ok-push-2.ensures.ok ∙ rw (c.in_ok-push.ensures.ok, c.new-tables.ensures, c.in_ok-copy.ensures, c.in_ok-copy-2.ensures, c.in_ok-passing.ensures.fresh, c.in_ok-failing.ensures.fresh, c.requires.one_schema) refl in
    subst (AreTablesOf c.args.parts) (sym made) (split_made c.args.parts c.requires c.in_ok-passing.ensures.relation c.in_ok-failing.ensures.relation)
