use Rattle.activations.proofs.Keeping.{stays_keep}
use Rattle.activations.proofs.laws.stays_keep.Goals as goal

pub returns : goal.returns
returns c = stays_keep
