use Rattle.array_fields.proofs.Setting.{are_apart}
use Rattle.array_fields.proofs.laws.known_fields_are_apart.Goals as goal

pub returns : goal.returns
returns c = record { apart = are_apart }
