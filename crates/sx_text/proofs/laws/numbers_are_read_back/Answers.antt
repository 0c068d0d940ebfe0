use Rattle.std.proofs.Common.{sym}
use Rattle.sx_text.proofs.DecimalLaws.{decimal-number_of, number_of-decimal}
use Rattle.sx_text.proofs.laws.numbers_are_read_back.Goals as goal

pub returns : goal.returns
returns c = record { again = λ n h. number_of-decimal n h; only = λ bytes n e. sym (decimal-number_of bytes n e).text }
