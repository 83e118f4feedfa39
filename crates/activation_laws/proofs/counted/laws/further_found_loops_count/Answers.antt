use Rattle.activation_laws.proofs.CountedLemmas.FurtherBeginning.{further_found_count}
use Rattle.activation_laws.proofs.counted.laws.further_found_loops_count.Goals as goal

pub returns : goal.returns
returns c = further_found_count c.reducible_cycles_are_loops.ensures
