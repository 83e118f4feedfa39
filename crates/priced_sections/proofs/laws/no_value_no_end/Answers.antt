use Rattle.priced_sections.proofs.NoEnd.{no_value_no_end}
use Rattle.priced_sections.proofs.laws.no_value_no_end.Goals as goal

pub returns : goal.returns
returns c = no_value_no_end
