use Rattle.std.proofs.Common.{◌∙◌, List, map, length, ap, sym, subst, arith, rules}
use Rattle.std.proofs.lemmas.Grind.{common_steps}
use Rattle.std.specs.List.{IsDistinct}
use Rattle.std.specs.Vec.Iter.{into_iter_items}
use Rattle.sx_values.specs.declared.catalog.Declared.{Declared}
use Rattle.sx_values.specs.Names.{same_name}
use Rattle.sx_values.specs.Catalogs.{table_names}
use Rattle.sx_core.specs.Loading.{empty_table}
use Rattle.sx_core.proofs.MakeLemmas.{loading_starts, loading_failed, loading_goes_on, loading_over, nothing_left}
use Rattle.sx_core.proofs.make.loaded.Goals as goal

pub empty_tables-requires : goal.empty_tables-requires
empty_tables-requires c = subst (λ (declared : List Declared). IsDistinct same_name (table_names declared)) (sym c.tables.ensures.tables) c.tables.ensures.catalog.distinct

pub loop-load-init : goal.loop-load-init
loop-load-init c = record {
  loading = loading_starts c.args.catalog.now c.args.rows (into_iter_items c.into_iter-load-iterator.result) c.new.result.newest c.in_ok-tables.tables
      (c.into_iter-load-iterator.ensures.into_iter_gives.0 ∙ c.into_vec-load-items.ensures) c.new.ensures (c.in_ok-tables.ensures ∙ ap (map empty_table) c.tables.ensures.tables);
  left = first_of (search rules, grind (arith, common_steps));
}

pub returns-in_err-put_load : goal.returns-in_err-put_load
returns-in_err-put_load c =
    let l = c.loop-load in
    loading_failed c.args.catalog.now c.args.rows l.yielded (into_iter_items l.load-iterator) l.base.log.newest l.base.tables c.in-Some.load (into_iter_items c.next.new.self) c.in_err-put_load.field-0.0 c.from_residual-in_err-put_load.result
    l.invariant.loading c.in-Some.ensures.steps.0 c.in_err-put_load.ensures.err c.from_residual-in_err-put_load.ensures.1

pub loop-load-preserved : goal.loop-load-preserved
loop-load-preserved c =
    let l = c.loop-load in
    record {
      loading =
          loading_goes_on c.args.catalog.now c.args.rows l.yielded (into_iter_items l.load-iterator) l.base.log.newest c.put_load.new.base.log.newest l.base.tables c.put_load.new.base.tables c.in-Some.load (into_iter_items c.next.new.self)
          l.invariant.loading c.in-Some.ensures.steps.0 c.put_load.ensures.apart c.in_ok-put_load.ensures.ok;
      left =
          let was = l.invariant.left in
          let gone = c.in-Some.ensures.steps.1 in
          let short = ap length c.in-Some.ensures.steps.0 in
          omega arith;
    }

pub returns : goal.returns
returns c =
    let l = c.loop-load in
    loading_over c.args.catalog.now c.args.rows l.yielded (into_iter_items l.load-iterator) l.base l.invariant.loading (nothing_left _ (sym l.invariant.left ∙ c.in-None.ensures.steps.0))
