use Rattle.bound_report.proofs.Settled.{settled_are_walked}
use Rattle.bound_report.proofs.laws.settled_are_walked.Goals as goal

pub returns : goal.returns
returns c = settled_are_walked c.known_is.ensures
