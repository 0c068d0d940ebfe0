use Rattle.std.proofs.Common.{length, ◌∙◌, subst}
use Rattle.sx_lists.specs.Places.{following}
use Rattle.sx_image.specs.Images.{Follows}
use Rattle.sx_core.proofs.SwitchLemmas.{fresh_made}
use Rattle.sx_core.proofs.switch.fresh_tables.Goals as goal

pub returns : goal.returns
returns c =
    let log = c.args.log.now.newest in
    let tail = c.as_slice.ensures ∙ c.in_ok-tail.ensures in
    let follows : Follows (following log c.args.position 256) (length log) c.args.image c.follow.new.image =
    subst (λ recs. Follows recs (length log) c.args.image c.follow.new.image) tail (subst (λ end. Follows c.as_slice.result.now end c.args.image c.follow.new.image) c.len.ensures c.in_ok-follow.ensures.ok) in
    fresh_made log c.args.position c.args.image c.follow.new.image c.into_tables.result c.requires.next follows c.into_tables.ensures.ok
