use Rattle.std.proofs.Common.{true, false, is_some, ap, ◌≡◌, ◌++◌, ◌∷◌, [], List, sym, ◌∙◌, subst}
use Rattle.sx_values.specs.declared.catalog.Declared.{Declared}
use Rattle.sx_lines.specs.declared.line.Line.{Line}
use Rattle.sx_lines.specs.declared.line.Line.TheVariants.{Table}
use Rattle.sx_script.specs.Plans.{plan_of}
use Rattle.sx_script.specs.Parsers.{Keeps}
use Rattle.sx_script.proofs.KeepLaws.{keeps_table}
use Rattle.sx_script.proofs.parser.Parser.with_table.Goals as goal

pub invariant_of-self : goal.invariant_of-self
invariant_of-self c =
    let s = c.self.inside in
    let P : List Line → Type 0 = λ lines. Keeps lines c.declare.new.self s.known s.places.keys s.is_started s.is_counted s.is_ruled in
    let pushed : c.push.new.self.items ≡ s.lines.items ++ Table c.args.name c.args.schema ∷ [] = c.in_ok-push.ensures.items in
    let Copy : List Declared → Type 0 = λ tables. tables ≡ s.catalog ++ record { name = c.args.name; schema = c.args.schema; indexes = []; source = true } ∷ [] in
    let copied : Copy (s.catalog ++ record { name = c.in_ok-copy.field-0; schema = c.in_ok-copy-2.field-0; indexes = []; source = true } ∷ []) =
    λ i. s.catalog ++ record { name = c.in_ok-copy.ensures i; schema = c.in_ok-copy-2.ensures i; indexes = []; source = true } ∷ [] in
    let unchanged : is_some (plan_of s.lines.items).change ≡ false = ap (λ ls. is_some (plan_of ls).change) c.self.view_is ∙ sym c.is_changed.ensures ∙ c.if-is_changed.false in
    subst P (sym pushed) (keeps_table s.lines.items s.catalog c.declare.new.self s.known s.places.keys s.is_started s.is_counted s.is_ruled c.args.name c.args.schema c.self.invariant unchanged (c.in-Ok.ensures.ok ∙ copied))
