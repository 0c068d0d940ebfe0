use Rattle.std.proofs.Common.{◌≡◌, ◌++◌, map, drop}
use Rattle.sx_model.specs.Known.{adopted}
use Rattle.sx_script.specs.Parsers.{AreNew}
use Rattle.sx_script.proofs.parser.with_targets.Given as goal

abbrev pub invariant-loop-target : goal.invariant-loop-target
invariant-loop-target l = record {
  new : AreNew l.tables (drop l.target-index l.targets);
  all : l.tables ++ map adopted (drop l.target-index l.targets) ≡ l.initial.tables ++ map adopted l.targets;
}
