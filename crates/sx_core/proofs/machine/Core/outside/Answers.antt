use Rattle.std.proofs.Common.{refl}
use Rattle.sx_core.proofs.TurnLemmas.{has_place}
use Rattle.sx_core.proofs.ReplyLemmas.{no_txn-answered, quiet-no_txn, uncommitted-outside}
use Rattle.sx_core.proofs.machine.Core.outside.Goals as goal

pub returns-then-is_full : goal.returns-then-is_full
returns-then-is_full c =
    let m = c.args.self.now in
    (refl, record { many = c.is_full.ensures.0 c.if-is_full.true; uncommitted = uncommitted-outside m.opening m.past c.args.actor c.args.request c.requires.outside })

pub begin-requires-clause-place : goal.begin-requires-clause-place
begin-requires-clause-place c =
    has_place c.args.self.now c.is_full.result c.if-is_full.false c.is_full.ensures

pub note-requires : goal.note-requires
note-requires c =
    let m = c.args.self.now in
    record { comes = c.requires.comes; place = has_place m c.is_full.result c.if-is_full.false c.is_full.ensures; answered = no_txn-answered m.opening m.past c.args.actor c.args.request c.requires.outside c.in_default.not-Begin; quiet = quiet-no_txn }
