use Rattle.activation_laws.proofs.CountedLemmas.Beginning.{further_need_no_premise}
use Rattle.activation_laws.proofs.counted.laws.further_loops_need_no_premise.Goals as goal

pub returns : goal.returns
returns c = further_need_no_premise c.further_activations_keep.ensures
