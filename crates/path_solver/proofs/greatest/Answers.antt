use Rattle.path_solver.specs.Longest.{bounded_loops}
use Rattle.path_solver.proofs.Solutions.{pass_of, none_of, no_walk, value_tells, exceed_tells}
use Rattle.path_solver.proofs.greatest.Goals as goal

pub returns-in-Some-clause-value : goal.returns-in-Some-clause-value
returns-in-Some-clause-value c =
    let g = c.args.g.now in
    let loops = c.args.nest.now in
    let f = c.in-Some.found in
    let s = pass_of g loops c.args.costs.now c.args.bounds.now c.args.loads.now c.in_ok-found.field-0 f c.in-Some.is c.in_ok-found.ensures.pass in
    value_tells g loops c.args.costs.now c.args.bounds.now c.args.loads.now f.listed.items f.iteration_costs.items f.dist.items f.value f.turns_exceed s c.within_limit.result c.within_limit.ensures

pub returns-in-Some-clause-turns : goal.returns-in-Some-clause-turns
returns-in-Some-clause-turns c =
    let g = c.args.g.now in
    let loops = c.args.nest.now in
    let f = c.in-Some.found in
    let s = pass_of g loops c.args.costs.now c.args.bounds.now c.args.loads.now c.in_ok-found.field-0 f c.in-Some.is c.in_ok-found.ensures.pass in
    exceed_tells g loops c.args.costs.now c.args.bounds.now c.args.loads.now f.listed.items f.iteration_costs.items f.dist.items f.value f.turns_exceed s

pub returns-in-None-clause-none : goal.returns-in-None-clause-none
returns-in-None-clause-none c =
    let loops = bounded_loops c.args.nest.now c.args.bounds.now c.args.loads.now in
    no_walk c.args.g.now loops (none_of c.in_ok-found.field-0 _ c.in-None.is c.in_ok-found.ensures.unreached)
