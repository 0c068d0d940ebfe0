use Rattle.sx_model.proofs.ScanLaws.{reading_whole}
use Rattle.sx_model.proofs.a_whole_scan_reads_the_state.Goals as goal

pub returns : goal.returns
returns c = reading_whole
