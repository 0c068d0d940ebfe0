use Rattle.std.proofs.Common.{refl}
use Rattle.sx_core.proofs.TurnLemmas.{has_place}
use Rattle.sx_core.proofs.ReplyLemmas.{only_undo-answered, quiet-ending, uncommitted-ending}
use Rattle.sx_core.proofs.machine.Core.ending.Goals as goal

pub returns-then-is_full : goal.returns-then-is_full
returns-then-is_full g c =
    let m = c.args.self.now in
    (refl, record { many = c.is_full.ensures.0 c.if-is_full.true; uncommitted = uncommitted-ending m.opening m.past c.args.actor c.args.txn c.args.request c.requires.inside c.requires.ending })

pub undo-requires-clause-place : goal.undo-requires-clause-place
undo-requires-clause-place g c =
    has_place c.args.self.now c.is_full.result c.if-is_full.false c.is_full.ensures

pub note-requires : goal.note-requires
note-requires g c =
    let m = c.args.self.now in
    record { comes = c.requires.comes; place = has_place m c.is_full.result c.if-is_full.false c.is_full.ensures; answered = only_undo-answered m.opening m.past c.args.actor c.args.txn c.args.request c.requires.inside c.requires.ending c.in_default.not-Begin c.in_default.not-Undo; quiet = quiet-ending }

pub already-requires-clause-place : goal.already-requires-clause-place
already-requires-clause-place g c =
    has_place c.args.self.now c.is_full.result c.if-is_full.false c.is_full.ensures
