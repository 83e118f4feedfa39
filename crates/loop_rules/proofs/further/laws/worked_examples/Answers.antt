use Rattle.loop_rules.proofs.FurtherLemmas.Examples.{worked}
use Rattle.loop_rules.proofs.further.laws.worked_examples.Goals as goal

pub returns : goal.returns
returns c = worked c.one_stands_before.ensures.line
