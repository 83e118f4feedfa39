use Rattle.text_laws.proofs.LoopFaults as law
use Rattle.text_laws.proofs.laws.bounds_faults_are_one.Goals as goal

pub returns : goal.returns
returns c = law.bounds_faults_are_one
