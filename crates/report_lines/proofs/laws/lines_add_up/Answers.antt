use Rattle.report_lines.proofs.SumLemmas as sums
use Rattle.report_lines.proofs.laws.lines_add_up.Goals as goal

pub returns : goal.returns
returns c = sums.lines_add_up
