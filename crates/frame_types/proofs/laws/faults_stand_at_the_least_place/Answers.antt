use Rattle.frame_types.proofs.FaultLaws.{fault_law}
use Rattle.frame_types.proofs.laws.faults_stand_at_the_least_place.Goals as goal

pub returns : goal.returns
returns c = fault_law
