use Rattle.std.proofs.Common.{◌≡◌, sym, ◌∙◌, slice_get, option_copied, arith}
use Rattle.std.proofs.lemmas.Grind.{common_steps}
use Rattle.std.proofs.lemmas.Option.{gets}
use Rattle.sx_values.proofs.CatalogLaws.{found_at, not_found}
use Rattle.sx_values.proofs.catalog.table_of.Goals as goal

pub returns-in-Some : goal.returns-in-Some
returns-in-Some c =
    let found = found_at c.args.tables.now c.args.name.now c.in-Some.place (sym c.in-Some.ensures) in
    let read : option_copied c.get.result ≡ slice_get c.args.tables.now c.in-Some.place = grind (arith, common_steps, gets) in
    read ∙ found

pub returns-in-None : goal.returns-in-None
returns-in-None c = sym (not_found c.args.tables.now c.args.name.now (sym c.place_of.ensures ∙ c.in-None.is))
