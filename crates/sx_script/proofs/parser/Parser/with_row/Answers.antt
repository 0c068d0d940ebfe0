use Rattle.std.proofs.Common.{◌≡◌, ◌++◌, ◌∷◌, [], List, true, false, not, None, sym, ◌∙◌, ap, subst, arith}
use Rattle.std.proofs.lemmas.Grind.{common_steps}
use Rattle.sx_values.specs.Layouts.{row_fault, key_of}
use Rattle.sx_lines.specs.declared.line.Line.{Line}
use Rattle.sx_lines.specs.declared.line.Line.TheVariants.{Row}
use Rattle.sx_script.specs.declared.parser.Place.{Place}
use Rattle.sx_script.specs.Parsers.{Keeps, is_among}
use Rattle.sx_script.proofs.KeepLaws.{among_eq, among_more, keeps_row, accepts_row, is_accepted, is_refused, was_there, was_new}
use Rattle.sx_script.proofs.parser.Parser.with_row.Goals as goal

pub returns-then-not-branch : goal.returns-then-not-branch
returns-then-not-branch c =
    let s = c.self.inside in
    let place : Place = record { table = c.in_ok-name.name; key = c.in_ok-key.key } in
    let named : place.table ≡ c.args.table = c.in_ok-name.ensures ∙ c.as_bytes.ensures.bytes in
    let keyed : place.key ≡ key_of c.in-Some.schema.now c.args.row = c.in_ok-key.ensures.key in
    let fault : row_fault c.in-Some.schema.now c.args.row ≡ None = grind (arith, common_steps) in
    let there : is_among s.places.keys place.table place.key ≡ true = sym (among_eq s.places.keys place) ∙ was_there _ _ c.in_ok-insert.ensures.added c.if-not-branch.true in
    let a = accepts_row s.lines.items s.catalog s.known s.places.keys s.is_started s.is_counted s.is_ruled c.args.table c.args.row place c.in-Some.schema.now c.self.invariant c.if-self.false (sym c.in-Some.ensures) fault named keyed in
    is_refused c.args.self s.lines.items (Row c.args.table c.args.row) (sym c.self.view_is) (a ∙ ap not there)

pub returns : goal.returns
returns c =
    let s = c.self.inside in
    let place : Place = record { table = c.in_ok-name.name; key = c.in_ok-key.key } in
    let named : place.table ≡ c.args.table = c.in_ok-name.ensures ∙ c.as_bytes.ensures.bytes in
    let keyed : place.key ≡ key_of c.in-Some.schema.now c.args.row = c.in_ok-key.ensures.key in
    let fault : row_fault c.in-Some.schema.now c.args.row ≡ None = grind (arith, common_steps) in
    let new : is_among s.places.keys place.table place.key ≡ false = sym (among_eq s.places.keys place) ∙ was_new _ _ c.in_ok-insert.ensures.added c.if-not-branch.false in
    let a = accepts_row s.lines.items s.catalog s.known s.places.keys s.is_started s.is_counted s.is_ruled c.args.table c.args.row place c.in-Some.schema.now c.self.invariant c.if-self.false (sym c.in-Some.ensures) fault named keyed in
    is_accepted c.args.self s.lines.items c.push.new.self.items (Row c.args.table c.args.row) (sym c.self.view_is) c.in_ok-push.ensures.items (a ∙ ap not new)

pub invariant_of-self : goal.invariant_of-self
invariant_of-self c =
    let s = c.self.inside in
    let place : Place = record { table = c.in_ok-name.name; key = c.in_ok-key.key } in
    let named : place.table ≡ c.args.table = c.in_ok-name.ensures ∙ c.as_bytes.ensures.bytes in
    let keyed : place.key ≡ key_of c.in-Some.schema.now c.args.row = c.in_ok-key.ensures.key in
    let P : List Line → Type 0 = λ lines. Keeps lines s.catalog s.known c.insert.new.self.keys s.is_started s.is_counted s.is_ruled in
    let pushed : c.push.new.self.items ≡ s.lines.items ++ Row c.args.table c.args.row ∷ [] = c.in_ok-push.ensures.items in
    let fault : row_fault c.in-Some.schema.now c.args.row ≡ None = grind (arith, common_steps) in
    let new : is_among s.places.keys place.table place.key ≡ false = sym (among_eq s.places.keys place) ∙ was_new _ _ c.in_ok-insert.ensures.added c.if-not-branch.false in
    let u = c.in_ok-insert.ensures.updates in
    subst P (sym pushed) (keeps_row s.lines.items s.catalog s.known s.places.keys c.insert.new.self.keys s.is_started s.is_counted s.is_ruled c.args.table c.args.row place c.in-Some.schema.now c.self.invariant (sym c.in-Some.ensures) fault named keyed new (among_more s.places.keys c.insert.new.self.keys place (λ q. u.0 q)))
