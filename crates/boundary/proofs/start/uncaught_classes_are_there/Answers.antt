use Rattle.boundary.proofs.Uncaught.{uncaught_there}
use Rattle.boundary.proofs.start.uncaught_classes_are_there.Goals as goal

pub returns : goal.returns
returns c = uncaught_there
