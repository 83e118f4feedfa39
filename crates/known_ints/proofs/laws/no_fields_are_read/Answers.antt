use Rattle.known_ints.proofs.Tabling.{constants_apart, none_read}
use Rattle.known_ints.proofs.laws.no_fields_are_read.Goals as goal

pub returns-clause-apart : goal.returns-clause-apart
returns-clause-apart c = constants_apart

pub returns-clause-read : goal.returns-clause-read
returns-clause-read c = none_read
