use Rattle.std.proofs.Common.{◌≡◌, ℕ, List, Option, map, ap, ◌∙◌, subst}
use Rattle.bound_texts.specs.Loops.Bounds.{LoopBound}
use Rattle.method_flow.specs.Flow.{Flow}
use Rattle.node_costs.specs.Costs.{bound_of_node}
use Rattle.memory_bound.specs.Setting.{bounds_in}
use Rattle.memory_bound.specs.Shapes.{headers_in}
use Rattle.memory_bound.specs.Loops.{AreMakingBounds, IsFirstWithout, bounds_of_loops}
use Rattle.memory_bound.proofs.Examined.{loops_found}
use Rattle.memory_bound.proofs.examining.loops_of.Goals as goal

pub returns : goal.returns
returns c =
    let task = c.args.task.now in
    let m = c.args.m in
    let s = c.args.s.now in
    let making = c.args.making.now in
    let f = c.flow.result.now in
    let d = c.bounds.result.now in
    let hs = c.in_ok-headers.headers.items in
    let bs = c.in_ok-bounds.bounds.items in
    let headers = c.in_ok-headers.ensures in
    let are : bs ≡ bounds_of_loops (bounds_in task) m s =
    c.in_ok-bounds.ensures ∙ ap (map (bound_of_node f d m)) (c.deref.ensures.value ∙ headers)
    ∙ ap (λ (g : Flow). map (bound_of_node g d m) (headers_in s)) c.flow.ensures.flow ∙ ap (λ (lines : List LoopBound). map (bound_of_node task.flow lines m) (headers_in s)) c.bounds.ensures in
    loops_found (bounds_in task) m making s (record { unbounded = c.first_unbounded.result; bounds = c.in_ok-making_bounds.field-0 }) hs bs headers are
    (subst (λ (ks : List ℕ). IsFirstWithout making bs ks c.first_unbounded.result) c.deref-3.ensures.value
    (subst (λ (os : List (Option ℕ)). IsFirstWithout making os c.deref-3.result.now c.first_unbounded.result) c.deref-2.ensures.value c.first_unbounded.ensures))
    (subst (λ (os : List (Option ℕ)). AreMakingBounds making os c.in_ok-making_bounds.field-0.items) c.deref-4.ensures.value c.in_ok-making_bounds.ensures)
