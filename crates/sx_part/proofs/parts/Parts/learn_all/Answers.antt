use Rattle.std.proofs.Common.{◌≡◌, ◌+◌, ◌++◌, ◌∷◌, [], arith, take, subst, sym}
use Rattle.std.proofs.lemmas.Grind.{common_steps}
use Rattle.sx_part.specs.PartImages.{LearnsReadings}
use Rattle.sx_part.proofs.PartLemmas.{learns_next}
use Rattle.sx_part.proofs.parts.Parts.learn_all.Goals as goal

pub loop-reading-preserved : goal.loop-reading-preserved
loop-reading-preserved g c =
    let one_more : take (c.loop-reading.reading-index + 1) c.args.seen.now ≡ take c.loop-reading.reading-index c.args.seen.now ++ c.reading-item.result ∷ [] = grind (arith, common_steps, c.reading-item.is, c.loop-reading-test.true) in
    record {
      parted = c.in_ok-learn.ensures.parted;
      learns = subst (λ seen. LearnsReadings seen c.args.self.now c.learn.new.self) (sym one_more) (learns_next (take c.loop-reading.reading-index c.args.seen.now) c.reading-item.result c.args.self.now c.loop-reading.self c.learn.new.self c.loop-reading.invariant.learns c.in_ok-learn.ensures.sets);
    }
