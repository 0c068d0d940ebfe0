use Rattle.std.proofs.Common.{◌≡◌, ◌<◌, ℕ, length, arith, subst}
use Rattle.sx_txn.specs.declared.lives.Live.{Live}
use Rattle.sx_txn.specs.Lives.{kept_of, with_write, HasRoomFor}
use Rattle.sx_txn.proofs.TurnLemmas.{Turned, Turned-none, Turned-more, Turned-ahead, Turned-map}
use Rattle.sx_txn.proofs.lives.note_write.Goals as goal

-- what becomes of each
abbrev Noted : ℕ → ℕ → Live → Live → Type 0
Noted txn lsn was now = kept_of now ≡ with_write txn lsn (kept_of was)

pub loop-live-init : goal.loop-live-init
loop-live-init c = Turned-none (Noted c.args.txn c.args.lsn) c.args.living.now

pub note-requires : goal.note-requires
note-requires c =
    let less : c.loop-live.live-index < length c.loop-live.living = omega arith in
    Turned-ahead (Noted c.args.txn c.args.lsn) (HasRoomFor c.args.txn) c.args.living.now c.loop-live.living c.loop-live.live-index c.live-item.result less c.loop-live.invariant c.requires

pub loop-live-preserved : goal.loop-live-preserved
loop-live-preserved c =
    let less : c.loop-live.live-index < length c.loop-live.living = omega arith in
    Turned-more (Noted c.args.txn c.args.lsn) c.args.living.now c.loop-live.living c.loop-live.live-index c.note.new.self c.live-item.result less c.loop-live.invariant c.note.ensures

pub returns : goal.returns
returns c =
    let whole : c.loop-live.live-index ≡ length c.args.living.now = omega arith in
    Turned-map (Noted c.args.txn c.args.lsn) kept_of (with_write c.args.txn c.args.lsn) (λ was now is. is) c.args.living.now c.loop-live.living
    (subst (λ (n : ℕ). Turned (Noted c.args.txn c.args.lsn) n c.args.living.now c.loop-live.living) whole c.loop-live.invariant)
