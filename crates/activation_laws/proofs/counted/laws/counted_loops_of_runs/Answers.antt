use Rattle.activation_laws.proofs.CountedLemmas.Beginning.{of_runs}
use Rattle.activation_laws.proofs.counted.laws.counted_loops_of_runs.Goals as goal

pub returns : goal.returns
returns c = of_runs c.counted_loops_need_no_premise.ensures c.runs_hold_constants.ensures c.boot_holds_constants.ensures
