use Rattle.counted_facts.proofs.Booting.{found_facts_of_runs}
use Rattle.counted_facts.proofs.laws.found_facts_of_runs.Goals as goal

pub returns : goal.returns
returns c = found_facts_of_runs c.puts_keep_arrays.ensures c.boot_holds_known.ensures c.boot_holds_constants.ensures c.found_facts_need_no_promise.ensures
