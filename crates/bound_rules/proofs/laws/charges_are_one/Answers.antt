use Rattle.bound_rules.proofs.Charging.{charges_are_one}
use Rattle.bound_rules.proofs.laws.charges_are_one.Goals as goal

pub returns : goal.returns
returns c = charges_are_one c.walks_lead_on.ensures.comes_by c.headers_dominate_members.ensures c.loops_are_nested.ensures c.dominance_is_antisymmetric.ensures
