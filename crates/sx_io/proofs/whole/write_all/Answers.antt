use Rattle.std.proofs.Common.{arith}
use Rattle.std.proofs.Math.Seq.{take-add}
use Rattle.std.proofs.KnownBytes.{Appends-trans}
use Rattle.sx_io.proofs.whole.write_all.Goals as goal

pub loop-taken-preserved : goal.loop-taken-preserved
loop-taken-preserved g c =
    let bytes = c.args.bytes.now in
    let taken = c.loop-taken.taken in
    let count = c.in-Ok.count in
    let wrote = c.in-Ok.ensures in
    let more = rw c.split_at.ensures.back at wrote.bytes in
    let joined = Appends-trans _ _ _ _ _ c.loop-taken.invariant.1 more in
    (omega (arith, wrote.bound), rw (take-add taken count bytes) joined, omega (arith, wrote.cause.later))
