use Rattle.std.proofs.Common.{◌≡◌, length}
use Rattle.std.specs.Vec.Iter.{into_iter_items, into_iter_len}
use Rattle.sx_core.proofs.MakeLemmas.{IsLoading}
use Rattle.sx_core.proofs.make.loaded.Given as goal

abbrev pub invariant-loop-load : goal.invariant-loop-load
invariant-loop-load l = record {
  loading : IsLoading l.fn.catalog l.fn.rows l.yielded (into_iter_items l.load-iterator) l.base.log.newest l.base.tables;
  left : into_iter_len l.load-iterator ≡ length (into_iter_items l.load-iterator);
}
