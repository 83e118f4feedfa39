use Rattle.priced_sections.proofs.Bounding.{steps_are_paid}
use Rattle.priced_sections.proofs.laws.steps_are_paid.Goals as goal

pub returns : goal.returns
returns c = steps_are_paid
