use Rattle.activation_laws.proofs.CountedLemmas.Beginning.{need_no_premise}
use Rattle.activation_laws.proofs.counted.laws.counted_loops_need_no_premise.Goals as goal

pub returns : goal.returns
returns c = need_no_premise c.counted_activations_keep.ensures
