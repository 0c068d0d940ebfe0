use Rattle.std.proofs.Common.{refl}
use Rattle.sx_core.proofs.TurnLemmas.{has_place}
use Rattle.sx_core.proofs.ReplyLemmas.{uncommitted-inside}
use Rattle.sx_core.proofs.machine.Core.act.Goals as goal

pub returns-then-is_full : goal.returns-then-is_full
returns-then-is_full g c =
    let m = c.args.self.now in
    (refl, record { many = c.is_full.ensures.0 c.if-is_full.true; uncommitted = uncommitted-inside m.opening m.past c.args.actor c.args.txn c.args.request c.requires.inside.inside c.requires.inside.resting c.requires.other })

pub read-requires-clause-place : goal.read-requires-clause-place
read-requires-clause-place g c =
    has_place c.args.self.now c.is_full.result c.if-is_full.false c.is_full.ensures

pub write-requires-clause-place : goal.write-requires-clause-place
write-requires-clause-place g c =
    has_place c.args.self.now c.is_full.result c.if-is_full.false c.is_full.ensures

pub write-requires-in-Update-clause-place : goal.write-requires-in-Update-clause-place
write-requires-in-Update-clause-place g c =
    has_place c.args.self.now c.is_full.result c.if-is_full.false c.is_full.ensures

pub write-requires-in-Delete-clause-place : goal.write-requires-in-Delete-clause-place
write-requires-in-Delete-clause-place g c =
    has_place c.args.self.now c.is_full.result c.if-is_full.false c.is_full.ensures

pub undo-requires-clause-place : goal.undo-requires-clause-place
undo-requires-clause-place g c =
    has_place c.args.self.now c.is_full.result c.if-is_full.false c.is_full.ensures

pub already-requires-clause-place : goal.already-requires-clause-place
already-requires-clause-place g c =
    has_place c.args.self.now c.is_full.result c.if-is_full.false c.is_full.ensures

pub already-requires-clause-inside : goal.already-requires-clause-inside
already-requires-clause-inside g c = c.requires.inside.inside

pub undo-requires-clause-inside : goal.undo-requires-clause-inside
undo-requires-clause-inside g c = c.requires.inside.inside
