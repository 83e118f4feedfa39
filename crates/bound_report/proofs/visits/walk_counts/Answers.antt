use Rattle.std.proofs.Common.{◌≡◌, ℕ, ◌^◌, ◌<◌, ◌≤◌, sym, subst, arith}
use Rattle.section_check.specs.Bounded.{IsGreatest}
use Rattle.path_solver.specs.Longest.{bounded_loops}
use Rattle.bound_report.proofs.VisitsLemmas.Posing.{found_exceeds, found_greatest, found_fits}
use Rattle.bound_report.proofs.visits.walk_counts.Goals as goal

pub returns-in_default-try_from-clause-cause : goal.returns-in_default-try_from-clause-cause
returns-in_default-try_from-clause-cause c =
    let over = c.in_default-try_from.ensures in
    let large : 2 ^ 64 ≤ c.in-Some.found.value = omega arith in
    found_exceeds c.args.g.now c.args.nest.now c.args.costs.now c.args.bounds.now c.args.loads.now c.in_ok-found.field-0 c.in-Some.found c.in-Some.is c.in_ok-found.ensures.pass large

pub returns-clause-greatest : goal.returns-clause-greatest
returns-clause-greatest c =
    let ok = c.in-Ok.ensures in
    let is = c.in_ok-counted.ensures.value in
    let small : c.in-Some.found.value < 2 ^ 64 = omega arith in
    let same : c.in_ok-counted.field-0.value ≡ c.in-Some.found.value = omega arith in
    let P : ℕ → Type 0 = λ v. IsGreatest c.args.g.now c.args.costs.now (bounded_loops c.args.nest.now c.args.bounds.now c.args.loads.now) v in
    subst P (sym same) (found_greatest c.args.g.now c.args.nest.now c.args.costs.now c.args.bounds.now c.args.loads.now c.in_ok-found.field-0 c.in-Some.found c.in-Some.is c.in_ok-found.ensures.pass small)

pub returns-clause-fits : goal.returns-clause-fits
returns-clause-fits c =
    let ok = c.in-Ok.ensures in
    let small : c.in-Some.found.value < 2 ^ 64 = omega arith in
    found_fits c.args.g.now c.args.nest.now c.args.costs.now c.args.bounds.now c.args.loads.now c.in_ok-found.field-0 c.in-Some.found c.in-Some.is c.in_ok-found.ensures.pass small
