use Rattle.verifier_types.proofs.TakingLemmas.{taking}
use Rattle.verifier_types.proofs.laws.what_is_taken_is_found.Goals as goal

pub returns : goal.returns
returns c = taking
