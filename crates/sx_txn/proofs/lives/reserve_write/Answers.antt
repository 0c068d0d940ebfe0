use Rattle.std.proofs.Common.{◌≡◌, ◌<◌, ℕ, length, arith, subst, ◌∙◌}
use Rattle.sx_txn.specs.declared.lives.Live.{Live}
use Rattle.sx_txn.specs.Lives.{kept_of, HasRoomFor}
use Rattle.sx_txn.proofs.TurnLemmas.{Turned, Turned-none, Turned-more, Turned-same, Turned-all, map-set_same}
use Rattle.sx_txn.proofs.lives.reserve_write.Goals as goal

-- what becomes of each
abbrev Reserved : ℕ → Live → Live → Type 0
Reserved txn was now = (kept_of now ≡ kept_of was) × HasRoomFor txn now

pub loop-live-init : goal.loop-live-init
loop-live-init c = Turned-none (Reserved c.args.txn) c.args.living.now

pub returns-in_err-reserve-clause-same : goal.returns-in_err-reserve-clause-same
returns-in_err-reserve-clause-same c =
    let less : c.loop-live.live-index < length c.loop-live.living = omega arith in
    map-set_same kept_of c.loop-live.living c.loop-live.live-index c.reserve.new.self c.live-item.result less c.reserve.ensures.same
    ∙ Turned-same (Reserved c.args.txn) kept_of (λ was now is. is.0) c.args.living.now c.loop-live.living c.loop-live.live-index c.loop-live.invariant

pub loop-live-preserved : goal.loop-live-preserved
loop-live-preserved c =
    let less : c.loop-live.live-index < length c.loop-live.living = omega arith in
    Turned-more (Reserved c.args.txn) c.args.living.now c.loop-live.living c.loop-live.live-index c.reserve.new.self c.live-item.result less c.loop-live.invariant (c.reserve.ensures.same, c.in_ok-reserve.ensures.ok)

pub returns-clause-same : goal.returns-clause-same
returns-clause-same c = Turned-same (Reserved c.args.txn) kept_of (λ was now is. is.0) c.args.living.now c.loop-live.living c.loop-live.live-index c.loop-live.invariant

pub returns-clause-ok : goal.returns-clause-ok
returns-clause-ok c =
    let whole : c.loop-live.live-index ≡ length c.args.living.now = omega arith in
    Turned-all (Reserved c.args.txn) (HasRoomFor c.args.txn) (λ was now is. is.1) c.args.living.now c.loop-live.living
    (subst (λ (n : ℕ). Turned (Reserved c.args.txn) n c.args.living.now c.loop-live.living) whole c.loop-live.invariant)
