use Rattle.counted_facts.proofs.Holding.{found_facts_need_no_promise}
use Rattle.counted_facts.proofs.laws.found_facts_need_no_promise.Goals as goal

pub returns : goal.returns
returns c = found_facts_need_no_promise c.further_activations_keep.ensures c.found_facts_keep.ensures
