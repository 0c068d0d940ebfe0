use Rattle.std.proofs.Common.{rules, tests, get_or}
use Rattle.std.proofs.lemmas.Iterator.{YieldsList-from_slice}
use Rattle.std.proofs.lemmas.Iterator.Search.{all_from_yields_List}
use Rattle.std.proofs.lemmas.List.Folds.{list_all-map}
use Rattle.sx_values.specs.declared.value.Value.TheVariants.{Null}
use Rattle.sx_values.specs.Layouts.{is_null}
use Rattle.sx_values.proofs.faults.are_null_at.Goals as goal

pub returns : goal.returns
returns c =
    rw list_all-map (all_from_yields_List (λ place. is_null (get_or c.args.row.now place Null)) _ _ _ c.all.ensures.ran (YieldsList-from_slice c.args.places.now cc) (λ x b q k. search (rules, tests)))
