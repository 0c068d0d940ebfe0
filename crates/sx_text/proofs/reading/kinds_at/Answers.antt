use Rattle.std.proofs.Common.{◌∙◌, ◌<◌, rules, get_or, length, add-one}
use Rattle.sx_text.proofs.FieldLaws.{kind_taken}
use Rattle.sx_text.proofs.reading.kinds_at.Goals as goal

pub loop-place-preserved : goal.loop-place-preserved
loop-place-preserved c =
    let i = c.loop-place.place-index in
    let there : get_or c.args.places.now i 0 < length c.args.columns.now = search rules in
    rw (c.in_ok-push.ensures.items, add-one)
    (kind_taken c.loop-place.kinds.items c.args.columns.now c.args.places.now i c.index-columns-place.result c.loop-place-test.true there ∙ c.loop-place.invariant)
