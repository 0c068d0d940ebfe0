use Rattle.std.proofs.Common.{◌≡◌}
use Rattle.sx_txn.specs.Lives.{kept_of, with_write}
use Rattle.sx_txn.proofs.TurnLemmas.{Turned}
use Rattle.sx_txn.proofs.lives.note_write.Given as goal

abbrev pub invariant-loop-live : goal.invariant-loop-live
invariant-loop-live l = Turned (λ was now. kept_of now ≡ with_write l.txn l.lsn (kept_of was)) l.live-index l.initial.living l.living
