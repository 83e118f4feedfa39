use Rattle.report_lines.proofs.OneLemmas.{texts_are_one}
use Rattle.report_lines.proofs.laws.report_texts_are_one.Goals as goal

pub returns : goal.returns
returns c = texts_are_one
