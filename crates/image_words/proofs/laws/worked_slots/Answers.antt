use Rattle.image_words.proofs.Examples.{worked}
use Rattle.image_words.proofs.laws.worked_slots.Goals as goal

pub returns : goal.returns
returns c = worked
