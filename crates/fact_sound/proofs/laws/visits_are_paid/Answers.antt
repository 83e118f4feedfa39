use Rattle.fact_sound.proofs.Positions.{visits_are_paid}
use Rattle.fact_sound.proofs.laws.visits_are_paid.Goals as goal

pub returns : goal.returns
returns c = visits_are_paid c.stays_are_paid.ensures
