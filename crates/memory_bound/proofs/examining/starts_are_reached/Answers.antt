use Rattle.memory_bound.proofs.Reaching.{reaches_starts}
use Rattle.memory_bound.proofs.examining.starts_are_reached.Goals as goal

pub returns : goal.returns
returns c = λ P flow sites.
    reaches_starts c.starts_follow_one_another.ensures c.rows_are_of_their_kinds.ensures P c.args.task.now.flow c.args.m c.method.result.now flow c.method.ensures c.code-code.ensures.whole
