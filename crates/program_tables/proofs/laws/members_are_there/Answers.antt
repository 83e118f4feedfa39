use Rattle.program_tables.proofs.NumberingLemmas.{method_there, field_there}
use Rattle.program_tables.proofs.laws.members_are_there.Goals as goal

pub returns : goal.returns
returns c = λ cs number p. (λ h. method_there cs number p h, λ h. field_there cs number p h)
