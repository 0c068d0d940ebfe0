use Rattle.std.proofs.Common.{◌≡◌, ◌++◌, ◌∷◌, [], List, true, is_some, sym, ◌∙◌, ap, subst}
use Rattle.sx_lines.specs.declared.line.Line.{Line}
use Rattle.sx_lines.specs.declared.line.Line.TheVariants.{Pace}
use Rattle.sx_script.specs.Plans.{plan_of}
use Rattle.sx_script.specs.Parsers.{Keeps}
use Rattle.sx_script.proofs.KeepLaws.{keeps_pace}
use Rattle.sx_script.proofs.parser.Parser.with_pace.Goals as goal

pub invariant_of-self : goal.invariant_of-self
invariant_of-self c =
    let s = c.self.inside in
    let P : List Line → Type 0 = λ lines. Keeps lines s.catalog s.known s.places.keys true s.is_counted s.is_ruled in
    let pushed : c.push.new.self.items ≡ s.lines.items ++ Pace c.args.pace ∷ [] = c.in_ok-push.ensures.items in
    let changed : is_some (plan_of s.lines.items).change ≡ true = ap (λ ls. is_some (plan_of ls).change) c.self.view_is ∙ sym c.is_changed.ensures ∙ c.if-not-is_changed.false in
    subst P (sym pushed) (keeps_pace s.lines.items s.catalog s.known s.places.keys s.is_started s.is_counted s.is_ruled c.args.pace c.self.invariant changed c.requires)
