use Rattle.text_laws.proofs.NoteFaults as law
use Rattle.text_laws.proofs.laws.note_faults_are_one.Goals as goal

pub returns : goal.returns
returns c = law.note_faults_are_one
