use Rattle.sx_model.proofs.ScanLaws.{covers_whole}
use Rattle.sx_model.proofs.a_whole_scan_covers.Goals as goal

pub returns : goal.returns
returns c = covers_whole
