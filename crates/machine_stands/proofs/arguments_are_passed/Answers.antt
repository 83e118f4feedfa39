use Rattle.machine_stands.proofs.Calling.{arguments_passed}
use Rattle.machine_stands.proofs.arguments_are_passed.Goals as goal

pub returns : goal.returns
returns c = arguments_passed
