use Rattle.persistent_lists.proofs.trees.+item_at.Given as goal

abbrev pub decreases-item_at : goal.decreases-item_at
decreases-item_at l = l.height
