use Rattle.program_tables.proofs.ComponentLemmas.{component_has_number}
use Rattle.program_tables.proofs.laws.components_are_types.Goals as goal

pub returns : goal.returns
returns c = λ cs number k h. component_has_number cs number k h
