use Rattle.activation_laws.proofs.CountedLemmas.FurtherBeginning.{of_known_run}
use Rattle.activation_laws.proofs.counted.laws.further_loops_of_runs.Goals as goal

pub returns : goal.returns
returns c = of_known_run c.puts_keep_arrays.ensures c.boot_holds_known.ensures c.boot_holds_constants.ensures c.further_loops_need_no_premise.ensures
