use Rattle.std.proofs.Common.{◌≡◌, ◌++◌, ◌∷◌, [], List, true, sym, ◌∙◌, subst}
use Rattle.sx_lines.specs.declared.line.Line.{Line}
use Rattle.sx_lines.specs.declared.line.Line.TheVariants.{Client}
use Rattle.sx_script.specs.Plans.{is_client}
use Rattle.sx_script.specs.Parsers.{Keeps}
use Rattle.sx_script.proofs.KeepLaws.{keeps_client}
use Rattle.sx_script.proofs.parser.Parser.with_client.Goals as goal

pub invariant_of-self : goal.invariant_of-self
invariant_of-self c =
    let s = c.self.inside in
    let P : List Line → Type 0 = λ lines. Keeps lines s.catalog s.known s.places.keys true s.is_counted s.is_ruled in
    let pushed : c.push.new.self.items ≡ s.lines.items ++ Client c.args.n c.args.what ∷ [] = c.in_ok-push.ensures.items in
    let is : is_client c.args.n ≡ true = sym c.is_client.ensures ∙ c.if-not-is_client.false in
    subst P (sym pushed) (keeps_client s.lines.items s.catalog s.known s.places.keys s.is_started s.is_counted s.is_ruled c.args.n c.args.what c.self.invariant is)
