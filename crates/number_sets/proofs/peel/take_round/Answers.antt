use Rattle.number_sets.proofs.Peeling.{few}
use Rattle.number_sets.proofs.peel.take_round.Goals as goal

pub returns-clause-few : goal.returns-clause-few
returns-clause-few c = few c.args.above.now c.loop-number.order c.loop-number.invariant.0 c.is_distinct.ensures
