use Rattle.section_check.proofs.Charging.{starts_pay_loads, edges_pay_loads}
use Rattle.section_check.proofs.laws.entries_pay_loads.Goals as goal

pub returns-clause-starts : goal.returns-clause-starts
returns-clause-starts c = starts_pay_loads

pub returns-clause-edges : goal.returns-clause-edges
returns-clause-edges c = edges_pay_loads
