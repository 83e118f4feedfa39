use Rattle.section_check.proofs.Regions.{marked_stays_accepted}
use Rattle.section_check.proofs.laws.marked_stays_accepted.Goals as goal

pub returns : goal.returns
returns c = marked_stays_accepted
