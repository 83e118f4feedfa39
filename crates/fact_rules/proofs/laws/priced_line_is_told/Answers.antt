use Rattle.fact_rules.proofs.Lines.{priced_line_is_told}
use Rattle.fact_rules.proofs.laws.priced_line_is_told.Goals as goal

pub returns : goal.returns
returns c = priced_line_is_told
