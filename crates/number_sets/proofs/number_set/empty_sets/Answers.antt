use Rattle.std.proofs.Common.{◌++◌, ◌∷◌, [], List, ℕ, ap₂, ◌∙◌}
use Rattle.lists.proofs.Tables.{replicate_more}
use Rattle.number_sets.proofs.number_set.empty_sets.Goals as goal

pub loop-index-preserved : goal.loop-index-preserved
loop-index-preserved c = c.in_ok-push.ensures.items ∙ (ap₂ (λ (a : List (List ℕ)) (b : List ℕ). a ++ b ∷ []) c.loop-index.invariant c.new.ensures ∙ replicate_more c.loop-index._index)
