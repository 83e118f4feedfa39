use Rattle.activation_laws.proofs.Kept.{profiles_keep_bounds}
use Rattle.activation_laws.proofs.profiles_keep_bounds.Goals as goal

pub returns : goal.returns
returns c = profiles_keep_bounds c.places_tell_words.ensures c.steps_are_told.ensures c.activations_are_seen.ensures
