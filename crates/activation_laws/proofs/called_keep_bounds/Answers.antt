use Rattle.activation_laws.proofs.Called.{called_keep_bounds}
use Rattle.activation_laws.proofs.called_keep_bounds.Goals as goal

pub returns : goal.returns
returns c = called_keep_bounds c.places_tell_words.ensures c.steps_are_told.ensures
