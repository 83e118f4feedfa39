use Rattle.image_laws.proofs.SlotLemmas.{begins}
use Rattle.image_laws.proofs.laws.slots_are_inherited.Goals as goal

pub returns : goal.returns
returns c = λ cs r. begins cs r.acyclic
