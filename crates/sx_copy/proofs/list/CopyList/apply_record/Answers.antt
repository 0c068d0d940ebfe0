use Rattle.std.proofs.Common.{◌∙◌, sym, Some, None}
use Rattle.sx_ops.specs.Operators.{sources_of}
use Rattle.sx_copy.specs.CopyLists.{copy_at}
use Rattle.sx_copy.proofs.CopyLemmas.{behind_on-none, behind_on-record, told_so}
use Rattle.sx_copy.proofs.list.CopyList.apply_record.Goals as goal

pub returns-in-Some-clause-ok : goal.returns-in-Some-clause-ok
returns-in-Some-clause-ok c =
    told_so c.redo.result (λ redoes side key. redoes side key ∙ behind_on-record (Some c.in-Some.change) c.args.lsn c.args.rec.now.body c.in-Some.ensures.behind (sources_of c.args.spec.now) side key (copy_at c.args.self.now side key)) c.redo.ensures.ok

pub returns-in-None-clause-ok : goal.returns-in-None-clause-ok
returns-in-None-clause-ok c side key =
    sym (behind_on-none (sources_of c.args.spec.now) side key (copy_at c.args.self.now side key)) ∙ behind_on-record None c.args.lsn c.args.rec.now.body c.in-None.ensures.behind (sources_of c.args.spec.now) side key (copy_at c.args.self.now side key)
