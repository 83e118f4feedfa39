use Rattle.std.proofs.Common.{◌≡◌, ℕ, ◌+◌, ◌<◌, ◌≤◌, List, length, get_or, set, sym, subst, arith}
use Rattle.std.proofs.lemmas.List.{take_more, take_all}
use Rattle.std.proofs.lemmas.List.Elements.{All-get_or}
use Rattle.path_solver.specs.Distances.{distance_limit, limited}
use Rattle.path_solver.specs.Totals.{AreIterationsAdded}
use Rattle.path_solver.proofs.Adding.{added_none, added_more}
use Rattle.path_solver.proofs.totals.add_iteration_cost.Goals as goal

pub loop-u-init : goal.loop-u-init
loop-u-init c = added_none c.args.iteration_cost c.args.totals.now c.requires.limited

pub loop-u-preserved : goal.loop-u-preserved
loop-u-preserved c =
    let us = c.args.members.now in
    let i = c.loop-u.u-index in
    let lt = c.loop-u-test.true in
    let old = c.args.totals.now in
    let now = c.loop-u.totals in
    let x = c.limited_sum.result in
    let v = get_or us i 0 in
    let short : v < length old = All-get_or (λ u. u < length old) us i 0 lt c.requires.within in
    let long = c.loop-u.invariant.long in
    let inside : v < length now = omega arith in
    let is : x ≡ limited (get_or now v 0 + c.args.iteration_cost) = c.limited_sum.ensures in
    let small : x ≤ distance_limit = omega arith in
    let P : List ℕ → Type 0 = λ ls. AreIterationsAdded ls c.args.iteration_cost old (set now v x) in
    subst P (sym (take_more us i 0 lt)) (added_more us old now c.args.iteration_cost i x c.requires.rising lt inside is small c.loop-u.invariant)

pub returns : goal.returns
returns c =
    let P : List ℕ → Type 0 = λ ls. AreIterationsAdded ls c.args.iteration_cost c.args.totals.now c.loop-u.totals in
    subst P (take_all c.loop-u.u-index c.args.members.now c.loop-u-test.false) c.loop-u.invariant
