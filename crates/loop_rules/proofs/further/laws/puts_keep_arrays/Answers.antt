use Rattle.loop_rules.proofs.FurtherLemmas.Keeping.{puts_keep_arrays}
use Rattle.loop_rules.proofs.further.laws.puts_keep_arrays.Goals as goal

pub returns : goal.returns
returns c = puts_keep_arrays
