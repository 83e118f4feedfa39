use Rattle.jop_cli.proofs.OneAllBounds as law
use Rattle.jop_cli.proofs.laws.all_bounds_are_one.Goals as goal

pub returns : goal.returns
returns c = law.all_bounds_are_one c.gives_one.ensures c.bound_lines_are_one.ensures c.own_costs_exist.ensures c.resolved_codes_are_short.ensures
