use Rattle.program_tables.proofs.NumberingLemmas.{methods_kept}
use Rattle.program_tables.proofs.laws.methods_stand_by_number.Goals as goal

pub returns : goal.returns
returns c = λ cs number. methods_kept cs number
