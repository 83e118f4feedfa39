use Rattle.activation_laws.proofs.Once.{activations_are_seen_once}
use Rattle.activation_laws.proofs.activations_are_seen_once.Goals as goal

pub returns : goal.returns
returns c = activations_are_seen_once c.cycles_keep.ensures
