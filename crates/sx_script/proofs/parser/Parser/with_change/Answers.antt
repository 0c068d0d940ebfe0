use Rattle.std.proofs.Common.{◌≡◌, ◌++◌, ◌∷◌, [], List, Some, false, is_some, sym, ap, ◌∙◌, subst, arith, rules}
use Rattle.std.proofs.lemmas.Grind.{common_steps}
use Rattle.sx_values.specs.declared.catalog.Declared.{Declared}
use Rattle.sx_ops.specs.Checks.{spec_fault, IsShaped}
use Rattle.sx_lines.specs.declared.line.Line.{Line}
use Rattle.sx_lines.specs.declared.line.Line.TheVariants.{Change}
use Rattle.sx_script.specs.Plans.{plan_of}
use Rattle.sx_script.specs.Parsers.{Keeps}
use Rattle.sx_script.proofs.KeepLaws.{keeps_change}
use Rattle.sx_script.proofs.parser.Parser.with_change.Goals as goal

pub invariant_of-self : goal.invariant_of-self
invariant_of-self c =
    let s = c.self.inside in
    let P : List Line → Type 0 = λ lines. Keeps lines s.catalog (Some c.in_ok-known_by.field-0) s.places.keys s.is_started s.is_counted s.is_ruled in
    let pushed : c.push.new.self.items ≡ s.lines.items ++ Change c.args.spec ∷ [] = c.in_ok-push.ensures.items in
    let shaped : IsShaped c.args.spec = search rules in
    let fits : is_some (spec_fault s.catalog c.args.spec) ≡ false = grind (arith, common_steps) in
    let unchanged : is_some (plan_of s.lines.items).change ≡ false = ap (λ ls. is_some (plan_of ls).change) c.self.view_is ∙ sym c.is_changed.ensures ∙ c.if-is_changed.false in
    let Q : List Declared → Type 0 = λ tables. Keeps (s.lines.items ++ Change c.args.spec ∷ []) s.catalog (Some tables) s.places.keys s.is_started s.is_counted s.is_ruled in
    subst P (sym pushed) (subst Q (sym c.in_ok-known_by.ensures) (keeps_change s.lines.items s.catalog s.known s.places.keys s.is_started s.is_counted s.is_ruled c.args.spec c.self.invariant unchanged shaped fits))
