use Rattle.bound_rules.proofs.Refusing.{faults_are_one}
use Rattle.bound_rules.proofs.laws.faults_are_one.Goals as goal

pub returns : goal.returns
returns c = faults_are_one
