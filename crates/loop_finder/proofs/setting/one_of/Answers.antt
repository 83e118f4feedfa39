use Rattle.std.proofs.Common.{arith}
use Rattle.std.proofs.lemmas.Bool.{both_ways}
use Rattle.loop_finder.proofs.OneOf.{two_alone}
use Rattle.loop_finder.proofs.setting.one_of.Goals as goal

pub returns-else-are_all : goal.returns-else-are_all
returns-else-are_all c = let some = c.if-nodes-eq0.false in two_alone c.args.nodes.now (omega arith) (λ all. both_ways c.are_all.result c.if-are_all.false (c.are_all.ensures.1 all))
