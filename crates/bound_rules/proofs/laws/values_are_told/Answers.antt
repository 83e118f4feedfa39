use Rattle.bound_rules.proofs.Valuing.{costs_are_told, values_are_told, iterations_are_told}
use Rattle.bound_rules.proofs.laws.values_are_told.Goals as goal

pub returns-clause-costs : goal.returns-clause-costs
returns-clause-costs c = costs_are_told

pub returns-clause-value : goal.returns-clause-value
returns-clause-value c = values_are_told

pub returns-clause-iterations : goal.returns-clause-iterations
returns-clause-iterations c = iterations_are_told
