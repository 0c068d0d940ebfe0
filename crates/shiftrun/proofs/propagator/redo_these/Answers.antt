use Rattle.std.proofs.Common.{List, OnOk, sym, subst}
use Rattle.sx_log.specs.declared.record.Rec.{Rec}
use Rattle.sx_image.specs.Images.{Follows}
use Rattle.sx_journal.specs.declared.entry.Reply.{Reply}
use Rattle.shiftrun.specs.Holding.{LearnsFetch}
use Rattle.shiftrun.proofs.propagator.redo_these.Goals as goal

pub returns-in-Fetched : goal.returns-in-Fetched
unfolding LearnsFetch
returns-in-Fetched c =
    subst (λ (r : Reply). OnOk c.followed.result (LearnsFetch r c.args.out.now.recs c.args.image.now c.followed.new.image)) (sym c.in-Fetched.is)
    (subst (λ (l : List Rec). OnOk c.followed.result (Follows l c.in-Fetched.to c.args.image.now c.followed.new.image)) c.as_slice.ensures c.followed.ensures)
