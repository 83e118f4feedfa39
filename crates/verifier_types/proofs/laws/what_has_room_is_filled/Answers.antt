use Rattle.verifier_types.proofs.NumberLemmas.{padded_filled}
use Rattle.verifier_types.proofs.laws.what_has_room_is_filled.Goals as goal

pub returns : goal.returns
returns c = padded_filled
