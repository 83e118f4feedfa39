use Rattle.persistent_lists.proofs.trees.+tree_with.Given as goal

abbrev pub decreases-tree_with : goal.decreases-tree_with
decreases-tree_with l = l.height
