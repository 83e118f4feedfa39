use Rattle.activation_laws.proofs.CountedLemmas.Parting.{live_graphs_keep}
use Rattle.activation_laws.proofs.counted.laws.live_graphs_keep.Goals as goal

pub returns : goal.returns
returns c = live_graphs_keep c.walks_lead_on.ensures.leads_on c.dominance_is_antisymmetric.ensures
