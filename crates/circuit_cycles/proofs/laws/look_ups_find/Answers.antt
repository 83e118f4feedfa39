use Rattle.circuit_cycles.proofs.TagLookups.{found_where}
use Rattle.circuit_cycles.proofs.laws.look_ups_find.Goals as goal

pub returns : goal.returns
returns c = λ shape ring tags next cache is valid has newer e older split. found_where shape ring tags next cache valid has newer e older split
