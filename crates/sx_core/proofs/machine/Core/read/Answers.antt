use Rattle.std.proofs.Common.{sym}
use Rattle.sx_core.proofs.ReplyLemmas.{read-refused}
use Rattle.sx_core.proofs.machine.Core.read.Goals as goal

pub note-requires : goal.note-requires
note-requires g c =
    let m = c.args.self.now in
    let refused = read-refused m.opening m.past c.args.actor c.args.txn c.args.table c.args.key c.in-Some.reply c.requires.inside.inside c.requires.inside.resting (sym c.in-Some.ensures) in
    record { comes = c.requires.comes; place = c.requires.place; answered = refused.is; quiet = refused.quiet }

pub read_there-requires : goal.read_there-requires
read_there-requires g c =
    record { comes = c.requires.comes; place = c.requires.place; inside = c.requires.inside; admitted = sym c.in-None.ensures }
