use Rattle.std.proofs.Common.{length}
use Rattle.number_sets.proofs.Ranks.{ranks_of, falls_of}
use Rattle.number_sets.proofs.peel.order_of.Goals as goal

pub returns-clause-ranked : goal.returns-clause-ranked
returns-clause-ranked c all some =
    let above = c.args.above.now in
    let order = c.take_round.new.order in
    (ranks_of (length above) order, falls_of above order c.in_ok-take_round.ensures.peeled all c.in_ok-take_round.ensures.few some)
