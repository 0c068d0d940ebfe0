use Rattle.sx_values.proofs.ListLaws.{repeated_found, repeated_further}
use Rattle.sx_values.proofs.checks.repeated_place.Goals as goal

pub returns-then-has_name-clause-name : goal.returns-then-has_name-clause-name
returns-then-has_name-clause-name c =
    repeated_found c.args.columns.now c.split_at.result.0.now c.loop-place.place c.index-columns-place.result _ (record {
      within = c.loop-place-test.true;
      is = c.index-columns-place.is;
      front_is = c.split_at.ensures.front;
      test = c.if-has_name.ensures;
    }) c.loop-place.invariant

pub loop-place-preserved : goal.loop-place-preserved
loop-place-preserved c =
    repeated_further c.args.columns.now c.split_at.result.0.now c.loop-place.place c.index-columns-place.result _ (record {
      within = c.loop-place-test.true;
      is = c.index-columns-place.is;
      front_is = c.split_at.ensures.front;
      test = c.if-has_name.ensures;
    }) c.loop-place.invariant
