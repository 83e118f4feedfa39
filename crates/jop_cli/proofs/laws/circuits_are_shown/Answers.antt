use Rattle.jop_cli.proofs.ShownCircuits as law
use Rattle.jop_cli.proofs.laws.circuits_are_shown.Goals as goal

pub returns : goal.returns
returns c = law.circuits_are_shown
