use Rattle.code_lines.proofs.Reading.{lines_are_read}
use Rattle.code_lines.proofs.laws.lines_are_read.Goals as goal

pub returns : goal.returns
returns c = lines_are_read
