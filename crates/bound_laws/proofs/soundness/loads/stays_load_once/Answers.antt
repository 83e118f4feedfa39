use Rattle.bound_laws.proofs.SoundnessLemmas.Once.{stays_load_once}
use Rattle.bound_laws.proofs.soundness.loads.stays_load_once.Goals as goal

pub returns : goal.returns
returns c = stays_load_once c.places_tell_words.ensures c.steps_are_told.ensures c.activations_are_trees.ensures c.methods_have_code.ensures c.each_member_is_loaded_once.ensures c.loads_follow.ensures c.packed_has_words.ensures
