use Rattle.loop_finder.proofs.counting.soonest_of_node.Goals as goal

pub soonest-requires : goal.soonest-requires
soonest-requires c = c.in-Some.ensures.fit.2
