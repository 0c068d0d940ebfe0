use Rattle.std.proofs.Common.{OnOk, sym, subst}
use Rattle.sx_journal.specs.declared.entry.Reply.{Reply}
use Rattle.shiftrun.specs.Holding.{LearnsAnswer}
use Rattle.shiftrun.proofs.propagator.merge.Goals as goal

pub returns-in-Scanned : goal.returns-in-Scanned
unfolding LearnsAnswer
returns-in-Scanned c =
    subst (λ (r : Reply). OnOk c.populate.result (LearnsAnswer r c.args.out.now.seen c.args.image.now c.populate.new.self)) (sym c.in-Scanned.is) c.populate.ensures.ok
