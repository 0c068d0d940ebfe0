use Rattle.std.proofs.Common.{arith}
use Rattle.std.proofs.lemmas.Grind.{common_steps}
use Rattle.sx_io.proofs.ReadLemmas.{out_of_memory}
use Rattle.sx_io.proofs.whole.read_all.Goals as goal

pub returns-in_err-extend_from_slice-clause-answer :
    goal.returns-in_err-extend_from_slice-clause-answer
returns-in_err-extend_from_slice-clause-answer g c =
    let read = c.in_ok-count.ensures in
    let failed = c.from_residual-in_err-extend_from_slice.ensures.1 in
    out_of_memory _ _ _ _ _ _ _ c.read.new.buf c.in_ok-count.count _ failed (grind (arith, common_steps)) c.loop-piece.invariant.1 read.bytes.0
