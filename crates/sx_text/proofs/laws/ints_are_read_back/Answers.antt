use Rattle.std.proofs.Common.{sym}
use Rattle.sx_text.proofs.DecimalLaws.{int_of-signed, signed-int_of}
use Rattle.sx_text.proofs.laws.ints_are_read_back.Goals as goal

pub returns : goal.returns
returns c = record { again = λ z e. int_of-signed z e; only = λ bytes z e. sym (signed-int_of bytes z e).text }
