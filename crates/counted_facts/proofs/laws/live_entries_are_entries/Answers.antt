use Rattle.counted_facts.proofs.Parting.{live_entries_are_entries}
use Rattle.counted_facts.proofs.laws.live_entries_are_entries.Goals as goal

pub returns : goal.returns
returns c = live_entries_are_entries c.walks_lead_on.ensures.leads_on c.dominance_is_antisymmetric.ensures
