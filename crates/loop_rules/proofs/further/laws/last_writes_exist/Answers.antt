use Rattle.loop_rules.proofs.FurtherLemmas.Coming.{last_writes_exist}
use Rattle.loop_rules.proofs.further.laws.last_writes_exist.Goals as goal

pub returns : goal.returns
returns c = last_writes_exist
