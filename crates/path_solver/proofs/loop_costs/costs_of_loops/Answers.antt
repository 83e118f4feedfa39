use Rattle.std.proofs.Common.{◌≡◌, ℕ, ◌+◌, ◌-◌, ◌<◌, List, length, get_or, set, sym, ap, ◌∙◌, subst, arith}
use Rattle.std.proofs.lemmas.List.{with_items_is}
use Rattle.path_solver.specs.Ordering.{NoLoopHas}
use Rattle.path_solver.proofs.Costing.{AreLoopCostsFrom, AreLoopCostsSoFar, members_listed, iterations_step, iterations_idle, iterations_end}
use Rattle.path_solver.proofs.loop_costs.costs_of_loops.Goals as goal
use Rattle.path_solver.proofs.loop_costs.costs_of_loops.Goals.{in-Some+in_ok-iteration_cost, in_default}

-- the node k places before the last one
from_end : (order order' : List ℕ) (k : ℕ) → order' ≡ order → get_or order' (length order' - 1 - k) 0 ≡ get_or order (length order - 1 - k) 0
from_end order order' k same = ap (λ (us : List ℕ). get_or us (length us - 1 - k) 0) same

pub greatest_iteration-requires-clause-members : goal.greatest_iteration-requires-clause-members
greatest_iteration-requires-clause-members c =
    let p = c.args.topology.now in
    let ls = c.args.loops.now in
    let k = c.loop-k.k in
    let order = c.as_slice-order.result.now in
    let same : order ≡ p.order.items = c.as_slice-order.ensures.value in
    let long : length order ≡ length p.order.items = ap length same in
    let test = c.loop-k-test.true in
    let u = get_or order (length order - 1 - k) 0 in
    let lt : k < length p.order.items = omega arith in
    members_listed p ls k u c.in-Some.i c.index-loops-i.result lt (from_end p.order.items order k same) c.in-Some.ensures c.index-loops-i.is c.members.result.now c.members.ensures c.requires.led

pub loop-k-preserved : goal.loop-k-preserved
loop-k-preserved c =
    let p = c.args.topology.now in
    let ls = c.args.loops.now in
    let k = c.loop-k.k in
    let order = c.as_slice-order.result.now in
    let same : order ≡ p.order.items = c.as_slice-order.ensures.value in
    let long : length order ≡ length p.order.items = ap length same in
    let test = c.loop-k-test.true in
    let u = get_or order (length order - 1 - k) 0 in
    let lt : k < length p.order.items = omega arith in
    let at = from_end p.order.items order k same in
    let iteration_costs = c.loop-k.iteration_costs.items in
    let fees = c.loop-k.fees.items in
    let dist = c.loop-k.dist.items in
    let costs = c.args.costs.now in
    let bounds = c.args.bounds.now in
    let loads = c.args.loads.now in
    let Holds : List ℕ → List ℕ → List ℕ → Type 0 = λ ws fs ds. AreLoopCostsSoFar p ls costs bounds loads (length p.order.items - (k + 1)) ws fs ds in
    elim c.match-headed_loop.branch [
      | in-Some+in_ok-iteration_cost w ↦
          let i = w.in-Some.i in
          let iteration_cost = w.in_ok-iteration_cost.iteration_cost in
          let dist' = w.greatest_iteration.new.dist in
          let iteration_costs_are : c.match-headed_loop.iteration_costs.items ≡ set iteration_costs i iteration_cost = ap (λ v. v.items) w.iteration_costs-is in
          let fees_are : c.match-headed_loop.fees.items ≡ set fees u w.limited_fee.result = ap (λ v. v.items) w.fees-is in
          let ok = c.loop-k.dist.ok in
          let ds = w.in_ok-iteration_cost.ensures in
          let size : length dist' ≡ c.loop-k.dist.len = omega (arith, ok.0, ds.long, c.loop-k.invariant.dist_long) in
          let dist_is : c.match-headed_loop.dist.items ≡ dist' = ap (λ v. v.items) w.dist-is ∙ with_items_is c.loop-k.dist dist' size in
          let P : List ℕ → Type 0 = λ ws. Holds ws c.match-headed_loop.fees.items c.match-headed_loop.dist.items in
          let Q : List ℕ → Type 0 = λ fs. Holds (set iteration_costs i iteration_cost) fs c.match-headed_loop.dist.items in
          let R : List ℕ → Type 0 = λ ds. Holds (set iteration_costs i iteration_cost) (set fees u w.limited_fee.result) ds in
          subst P (sym iteration_costs_are) (subst Q (sym fees_are) (subst R (sym dist_is) (
          iterations_step p ls k u i w.index-loops-i.result lt at w.in-Some.ensures w.index-loops-i.is costs bounds loads w.members.result.now iteration_costs fees w.deref.result.now dist dist' iteration_cost w.limited_fee.result w.members.ensures w.deref.ensures.value w.limited_fee.ensures c.requires.topology c.requires.loops.headers c.requires.led c.loop-k.invariant ds)))
      | in_default w ↦
          let S : ℕ → Type 0 = λ v. NoLoopHas ls v in
          let none : NoLoopHas ls (get_or p.order.items (length p.order.items - 1 - k) 0) = subst S at w.in_default.ensures in
          let P : List ℕ → Type 0 = λ ws. Holds ws c.match-headed_loop.fees.items c.match-headed_loop.dist.items in
          let Q : List ℕ → Type 0 = λ fs. Holds iteration_costs fs c.match-headed_loop.dist.items in
          let R : List ℕ → Type 0 = λ ds. Holds iteration_costs fees ds in
          subst P (sym (ap (λ v. v.items) w.iteration_costs-is)) (subst Q (sym (ap (λ v. v.items) w.fees-is)) (subst R (sym (ap (λ v. v.items) w.dist-is)) (
          iterations_idle p ls k costs bounds loads iteration_costs fees dist lt none c.loop-k.invariant)))
    ]

pub returns : goal.returns
returns c =
    let p = c.args.topology.now in
    let k = c.loop-k.k in
    let long : length c.as_slice-order.result.now ≡ length p.order.items = ap length c.as_slice-order.ensures.value in
    let test = c.loop-k-test.false in
    let none : length p.order.items - k ≡ 0 = omega arith in
    let P : ℕ → Type 0 = λ j. AreLoopCostsFrom p c.args.loops.now c.args.costs.now c.args.bounds.now c.args.loads.now j c.loop-k.iteration_costs.items c.loop-k.fees.items in
    iterations_end p c.args.loops.now c.args.costs.now c.args.bounds.now c.args.loads.now c.loop-k.iteration_costs.items c.loop-k.fees.items (subst P none c.loop-k.invariant.loop_costs)
