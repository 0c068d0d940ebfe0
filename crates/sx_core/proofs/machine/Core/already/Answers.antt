use Rattle.sx_core.proofs.ReplyLemmas.{already-answered, quiet-already}
use Rattle.sx_core.proofs.machine.Core.already.Goals as goal

pub note-requires-clause-answered : goal.note-requires-clause-answered
note-requires-clause-answered c = already-answered c.args.self.now.opening c.args.self.now.past c.args.actor c.args.txn c.requires.inside

pub note-requires-clause-quiet : goal.note-requires-clause-quiet
note-requires-clause-quiet c = quiet-already
