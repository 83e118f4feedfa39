use Rattle.frame_types.proofs.CauseLemmas.{frames_given, faults_caused}
use Rattle.frame_types.proofs.laws.frames_are_given.Goals as goal

pub returns : goal.returns
returns c = record { frames = frames_given; faults = faults_caused }
