use Rattle.section_check.proofs.Charging.{costs_are_charged}
use Rattle.section_check.proofs.laws.costs_are_charged.Goals as goal

pub returns : goal.returns
returns c = costs_are_charged
