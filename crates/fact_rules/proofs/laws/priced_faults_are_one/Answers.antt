use Rattle.fact_rules.proofs.Refusing.{priced_faults_are_one}
use Rattle.fact_rules.proofs.laws.priced_faults_are_one.Goals as goal

pub returns : goal.returns
returns c = priced_faults_are_one
