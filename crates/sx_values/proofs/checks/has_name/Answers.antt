use Rattle.std.proofs.Common.{rules, tests}
use Rattle.std.proofs.lemmas.Iterator.{YieldsList-from_slice}
use Rattle.std.proofs.lemmas.Iterator.Search.{any_from_yields_List}
use Rattle.sx_values.specs.declared.schema.Column.{Column}
use Rattle.sx_values.specs.Names.{same_name}
use Rattle.sx_values.proofs.ListLaws.{list_any-map}
use Rattle.sx_values.proofs.checks.has_name.Goals as goal

pub returns : goal.returns
returns c =
    rw list_any-map (any_from_yields_List (λ (k : Column). same_name c.args.name.now k.name) _ _ _ c.any.ensures.ran (YieldsList-from_slice c.args.columns.now cc) (λ x b q k. search (rules, tests)))
