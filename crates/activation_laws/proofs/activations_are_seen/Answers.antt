use Rattle.activation_laws.proofs.Searching.{activations_are_seen}
use Rattle.activation_laws.proofs.activations_are_seen.Goals as goal

pub returns : goal.returns
returns c = activations_are_seen c.places_tell_words.ensures c.steps_are_told.ensures
