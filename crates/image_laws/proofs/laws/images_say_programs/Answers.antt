use Rattle.image_laws.proofs.Whole.{says}
use Rattle.image_laws.proofs.laws.images_say_programs.Goals as goal

pub returns : goal.returns
returns c =
    says c.image_words_lie.ensures.front c.image_words_lie.ensures.types c.types_are_said.ensures.bits c.types_are_said.ensures.components c.types_are_said.ensures.instances c.methods_are_said.ensures.codes c.methods_are_said.ensures.records
    c.methods_are_said.ensures.apart c.first_objects_are_well_formed.ensures c.operands_are_said.ensures
