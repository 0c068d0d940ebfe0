use Rattle.std.proofs.Common.{◌∙◌, sym, ap, subst}
use Rattle.sx_journal.specs.declared.entry.Request.{Request}
use Rattle.sx_model.specs.Replies.{client_reply}
use Rattle.sx_core.proofs.ReplyLemmas.{change-refused}
use Rattle.sx_core.specs.Answers.{AnswersClient}
use Rattle.sx_core.proofs.machine.Core.write.Goals as goal

pub note-requires : goal.note-requires
note-requires g c =
    let m = c.args.self.now in
    let refused = change-refused m.opening m.past c.args.actor c.args.txn c.args.table c.args.change c.in-Some.reply c.requires.inside.inside c.requires.inside.resting (sym c.in-Some.ensures) in
    record { comes = c.requires.comes; place = c.requires.place; answered = ap (client_reply m.opening m.past c.args.actor) c.asked_for.ensures ∙ refused.is; quiet = refused.quiet }

pub write_there-requires : goal.write_there-requires
write_there-requires g c =
    record { comes = c.requires.comes; place = c.requires.place; inside = c.requires.inside; admitted = sym c.in-None.ensures }

pub returns-in-Some : goal.returns-in-Some
returns-in-Some g c =
    let m = c.args.self.now in
    subst (λ (q : Request). AnswersClient m c.note.new.self c.args.actor q c.note.result) c.asked_for.ensures c.note.ensures
