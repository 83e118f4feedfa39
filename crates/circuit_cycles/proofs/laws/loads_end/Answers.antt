use Rattle.circuit_cycles.proofs.LoadEnds.{load_ends}
use Rattle.circuit_cycles.proofs.laws.loads_end.Goals as goal

pub returns : goal.returns
returns c = λ shape ring tags next cache newest older is valid split has. load_ends shape ring tags next cache newest older is valid split has
