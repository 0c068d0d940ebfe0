use Rattle.std.proofs.Common.{◌≡◌, ◌++◌, map, drop}
use Rattle.sx_ops.specs.Targets.{targets}
use Rattle.sx_model.specs.Known.{adopted}
use Rattle.sx_core.proofs.AdoptLemmas.{AreAdopted}
use Rattle.sx_core.proofs.start.with_new.Given as goal

abbrev pub invariant-loop-target : goal.invariant-loop-target
invariant-loop-target l = record {
  new : AreAdopted l.known (drop l.target-index l.target-items);
  all : l.known ++ map adopted (drop l.target-index l.target-items) ≡ l.catalog ++ map adopted (targets l.catalog l.spec);
}
