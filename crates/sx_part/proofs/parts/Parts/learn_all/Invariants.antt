use Rattle.std.proofs.Common.{take}
use Rattle.sx_part.specs.PartImages.{IsParted, LearnsReadings}
use Rattle.sx_part.proofs.parts.Parts.learn_all.Given as goal

abbrev pub invariant-loop-reading : goal.invariant-loop-reading
invariant-loop-reading g l = record {
  parted : IsParted l.self;
  learns : LearnsReadings (take l.reading-index l.seen) l.fn.self l.self;
}
