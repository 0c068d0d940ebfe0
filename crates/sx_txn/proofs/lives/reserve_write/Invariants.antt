use Rattle.std.proofs.Common.{◌≡◌}
use Rattle.sx_txn.specs.Lives.{kept_of, HasRoomFor}
use Rattle.sx_txn.proofs.TurnLemmas.{Turned}
use Rattle.sx_txn.proofs.lives.reserve_write.Given as goal

abbrev pub invariant-loop-live : goal.invariant-loop-live
invariant-loop-live l = Turned (λ was now. (kept_of now ≡ kept_of was) × HasRoomFor l.txn now) l.live-index l.initial.living l.living
