use Rattle.sx_text.proofs.ReadBackLaws.{printable_record_text}
use Rattle.sx_text.proofs.laws.records_are_printable.Goals as goal

pub returns : goal.returns
returns c values e = printable_record_text values e
