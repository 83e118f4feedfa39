use Rattle.section_check.proofs.NoExit.{no_exit}
use Rattle.section_check.proofs.laws.no_value_no_exit.Goals as goal

pub returns : goal.returns
returns c = no_exit
