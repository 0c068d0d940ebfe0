use Rattle.std.proofs.Common.{◌≡◌, ◌∙◌, ◌+◌, List, length, sym, ap, subst}
use Rattle.std.proofs.lemmas.List.{length-reverse}
use Rattle.sx_values.specs.declared.catalog.Declared.{Declared}
use Rattle.sx_ops.specs.declared.spec.Spec.{Spec}
use Rattle.sx_image.specs.Images.{StandsFor, no_copy}
use Rattle.sx_model.specs.Openings.{Opening}
use Rattle.sx_model.specs.Logs.{log_of}
use Rattle.sx_script.specs.Plans.{plan_of}
use Rattle.shiftrun.proofs.StartLaws.{line_starts}
use Rattle.shiftrun.proofs.propagator.start.Goals as goal

pub returns : goal.returns
returns c =
    let plan = plan_of c.args.script.now in
    let old = c.args.core.now in
    let asked = c.in_ok-copy.field-0 in
    let catalog : c.in_ok-catalog.field-0 ≡ old.opening.catalog = c.in_ok-catalog.ensures ∙ sym (ap (λ (o : Opening). o.catalog) c.requires.opened) in
    let long : length c.as_slice.result.now ≡ length (log_of old.opening old.past) = sym (length-reverse c.as_slice.result.now) ∙ (ap length c.as_slice.ensures ∙ ap length c.log.ensures) in
    line_starts plan asked c.in-Some.spec.now c.strategy.result old c.start.new.self c.args.image.now c.hold.new.image c.in_ok-fresh.fresh (length c.as_slice.result.now + 1) c.in_ok-reply.reply
    (sym c.in-Some.ensures) c.in_ok-copy.ensures c.strategy.ensures c.requires.held c.in_ok-reply.ensures.0 c.in_ok-reply.ensures.1 (ap (λ n. n + 1) long)
    (subst (λ (s : Spec). StandsFor old.opening.catalog s no_copy (length c.as_slice.result.now + 1) c.in_ok-fresh.fresh) (sym c.in_ok-copy.ensures)
    (subst (λ (tables : List Declared). StandsFor tables c.in-Some.spec.now no_copy (length c.as_slice.result.now + 1) c.in_ok-fresh.fresh) catalog c.in_ok-fresh.ensures)) c.hold.ensures
