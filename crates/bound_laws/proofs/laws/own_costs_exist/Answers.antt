use Rattle.bound_laws.proofs.OwnCosts.{own_costs_exist}
use Rattle.bound_laws.proofs.laws.own_costs_exist.Goals as goal

pub returns : goal.returns
returns c = own_costs_exist c.costs_are_small.ensures.opcodes c.costs_are_small.ensures.raise c.typed_methods_reach_rows.ensures
