use Rattle.persistent_lists.proofs.trees.+position_in.Given as goal

abbrev pub decreases-position_in : goal.decreases-position_in
decreases-position_in l = l.height
