use Rattle.persistent_lists.proofs.trees.+passes_in.Given as goal

abbrev pub decreases-passes_in : goal.decreases-passes_in
decreases-passes_in g l = l.height
