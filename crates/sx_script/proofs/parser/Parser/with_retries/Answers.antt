use Rattle.std.proofs.Common.{◌≡◌, ◌≤◌, ◌++◌, ◌∷◌, [], List, true, sym, subst, arith}
use Rattle.sx_lines.specs.declared.line.Line.{Line}
use Rattle.sx_lines.specs.declared.line.Line.TheVariants.{Retries}
use Rattle.sx_script.specs.Parsers.{Keeps}
use Rattle.sx_script.proofs.KeepLaws.{keeps_retries}
use Rattle.sx_script.proofs.parser.Parser.with_retries.Goals as goal

pub invariant_of-self : goal.invariant_of-self
invariant_of-self c =
    let s = c.self.inside in
    let P : List Line → Type 0 = λ lines. Keeps lines s.catalog s.known s.places.keys s.is_started true s.is_ruled in
    let pushed : c.push.new.self.items ≡ s.lines.items ++ Retries c.args.n ∷ [] = c.in_ok-push.ensures.items in
    let few : c.args.n ≤ 8 = omega arith in
    subst P (sym pushed) (keeps_retries s.lines.items s.catalog s.known s.places.keys s.is_started s.is_counted s.is_ruled c.args.n c.self.invariant c.if-self-2.false few)
