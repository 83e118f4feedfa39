use Rattle.image_facts.proofs.Staying.{stay}
use Rattle.image_facts.proofs.first_objects_stay.Goals as goal

pub returns : goal.returns
returns c = stay
