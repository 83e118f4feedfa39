use Rattle.section_check.proofs.Entered.{regions_are_apart}
use Rattle.section_check.proofs.laws.regions_are_apart.Goals as goal

pub returns : goal.returns
returns c = regions_are_apart
