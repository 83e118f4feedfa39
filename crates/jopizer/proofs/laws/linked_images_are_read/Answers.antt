use Rattle.jopizer.proofs.RefusedLemmas.{are_read}
use Rattle.jopizer.proofs.laws.linked_images_are_read.Goals as goal

pub returns : goal.returns
returns c = are_read c.one_class.ensures c.one_image.ensures
