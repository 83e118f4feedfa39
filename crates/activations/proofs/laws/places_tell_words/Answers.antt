use Rattle.activations.proofs.Wording.{places_tell_words}
use Rattle.activations.proofs.laws.places_tell_words.Goals as goal

pub returns : goal.returns
returns c = places_tell_words
