use Rattle.std.proofs.Common.{◌≡◌, ◌++◌, ◌∷◌, [], List, true, sym, ◌∙◌, subst}
use Rattle.sx_sync.specs.Ready.{is_blocking}
use Rattle.sx_lines.specs.declared.line.Line.{Line}
use Rattle.sx_lines.specs.declared.line.Line.TheVariants.{Strategy}
use Rattle.sx_script.specs.Parsers.{Keeps}
use Rattle.sx_script.proofs.KeepLaws.{keeps_strategy}
use Rattle.sx_script.proofs.parser.Parser.with_strategy.Goals as goal

pub invariant_of-self : goal.invariant_of-self
invariant_of-self c =
    let s = c.self.inside in
    let P : List Line → Type 0 = λ lines. Keeps lines s.catalog s.known s.places.keys s.is_started s.is_counted true in
    let pushed : c.push.new.self.items ≡ s.lines.items ++ Strategy c.args.strategy ∷ [] = c.in_ok-push.ensures.items in
    let is : is_blocking c.args.strategy ≡ true = sym c.is_blocking.ensures ∙ c.if-not-is_blocking.false in
    subst P (sym pushed) (keeps_strategy s.lines.items s.catalog s.known s.places.keys s.is_started s.is_counted s.is_ruled c.args.strategy c.self.invariant c.if-self-2.false is)
