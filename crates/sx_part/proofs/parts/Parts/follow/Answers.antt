use Rattle.std.proofs.Common.{subst, Some}
use Rattle.sx_copy.proofs.CopyLemmas.{told_so}
use Rattle.sx_part.specs.PartImages.{SetsKey}
use Rattle.sx_part.proofs.PartLemmas.{unfollowed, followed, takes_change, not_other}
use Rattle.sx_part.proofs.parts.Parts.follow.Goals as goal

pub returns-then-not-take-clause-sets : goal.returns-then-not-take-clause-sets
returns-then-not-take-clause-sets g c =
    unfollowed c.args.change.now c.args.self.now (not_other _ c.if-ne.ensures) (takes_change c.args.self.now c.args.change.now c.stamps-stamps.result c.is_none.result _ c.is_none.ensures c.stamps-stamps.ensures.stamps c.if-not-take.ensures)

pub returns-in_ok-row-in-Some-clause-sets : goal.returns-in_ok-row-in-Some-clause-sets
returns-in_ok-row-in-Some-clause-sets g c =
    let taken = takes_change c.args.self.now c.args.change.now c.stamps-stamps.result c.is_none.result _ c.is_none.ensures c.stamps-stamps.ensures.stamps c.if-not-take.ensures in
    told_so c.set.result (λ sets. followed c.args.change.now c.args.self.now c.set.new.self (not_other _ c.if-ne.ensures) taken
    (rw c.in-Some.is (subst (λ row. SetsKey c.args.change.now.key.now (Some (row, c.args.change.now.lsn)) c.args.self.now c.set.new.self) c.in_ok-row-in-Some.ensures sets))) c.set.ensures.sets

pub returns-in-None-clause-sets : goal.returns-in-None-clause-sets
returns-in-None-clause-sets g c =
    let taken = takes_change c.args.self.now c.args.change.now c.stamps-stamps.result c.is_none.result _ c.is_none.ensures c.stamps-stamps.ensures.stamps c.if-not-take.ensures in
    told_so c.clear.result (λ sets. followed c.args.change.now c.args.self.now c.clear.new.self (not_other _ c.if-ne.ensures) taken (rw c.in-None.is sets)) c.clear.ensures.sets
