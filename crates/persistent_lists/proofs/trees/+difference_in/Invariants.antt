use Rattle.persistent_lists.proofs.trees.+difference_in.Given as goal

abbrev pub decreases-difference_in : goal.decreases-difference_in
decreases-difference_in l = l.height
