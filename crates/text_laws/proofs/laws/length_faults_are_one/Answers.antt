use Rattle.text_laws.proofs.LoopFaults as law
use Rattle.text_laws.proofs.laws.length_faults_are_one.Goals as goal

pub returns : goal.returns
returns c = law.length_faults_are_one
