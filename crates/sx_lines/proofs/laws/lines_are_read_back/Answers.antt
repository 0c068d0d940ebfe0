use Rattle.std.proofs.Common.{not, ap}
use Rattle.sx_lines.proofs.AgainLaws.{line_again}
use Rattle.sx_lines.proofs.laws.lines_are_read_back.Goals as goal

pub returns-clause-again : goal.returns-clause-again
returns-clause-again c catalog text line has read = (line_again catalog text line has read).again

pub returns-clause-printable : goal.returns-clause-printable
returns-clause-printable c catalog text line has read = (line_again catalog text line has read).printable

pub returns-clause-meant : goal.returns-clause-meant
returns-clause-meant c catalog text line has read = ap not (line_again catalog text line has read).meant
