use Rattle.std.proofs.Common.{◌≡◌, ◌<◌, ℕ, length, arith, subst}
use Rattle.sx_txn.specs.declared.lives.Live.{Live}
use Rattle.sx_txn.specs.Lives.{kept_of, with_undo}
use Rattle.sx_txn.proofs.TurnLemmas.{Turned, Turned-none, Turned-more, Turned-map}
use Rattle.sx_txn.proofs.lives.undo_write.Goals as goal

-- what becomes of each
abbrev Undone : ℕ → Live → Live → Type 0
Undone txn was now = kept_of now ≡ with_undo txn (kept_of was)

pub loop-live-init : goal.loop-live-init
loop-live-init c = Turned-none (Undone c.args.txn) c.args.living.now

pub loop-live-preserved : goal.loop-live-preserved
loop-live-preserved c =
    let less : c.loop-live.live-index < length c.loop-live.living = omega arith in
    Turned-more (Undone c.args.txn) c.args.living.now c.loop-live.living c.loop-live.live-index c.undo.new.self c.live-item.result less c.loop-live.invariant c.undo.ensures

pub returns : goal.returns
returns c =
    let whole : c.loop-live.live-index ≡ length c.args.living.now = omega arith in
    Turned-map (Undone c.args.txn) kept_of (with_undo c.args.txn) (λ was now is. is) c.args.living.now c.loop-live.living
    (subst (λ (n : ℕ). Turned (Undone c.args.txn) n c.args.living.now c.loop-live.living) whole c.loop-live.invariant)
