use Rattle.loop_rules.proofs.FurtherLemmas.Reaching.{last_writes_are_reached, last_writes_write}
use Rattle.loop_rules.proofs.further.laws.last_writes_are_reached.Goals as goal

pub returns-clause-reached : goal.returns-clause-reached
returns-clause-reached c = last_writes_are_reached

pub returns-clause-write : goal.returns-clause-write
returns-clause-write c = last_writes_write
