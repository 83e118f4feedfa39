use Rattle.std.proofs.Common.{◌≡◌, ℕ, ◌<◌, ◌≤◌, ◌^◌, Bool, List, length, take, drop, ◌++◌, All, Contains, sym, ap, ◌∙◌, subst, arith}
use Rattle.std.proofs.lemmas.List.{take-append-le}
use Rattle.std.proofs.Math.Seq.{take-length}
use Rattle.loop_nest.specs.Digraph.{Digraph, IsDigraph}
use Rattle.loop_nest.specs.Nest.{NaturalLoop}
use Rattle.path_solver.specs.Reaching.{IsFlagged, AreReaching}
use Rattle.path_solver.specs.Ordering.{AreLoops}
use Rattle.path_solver.specs.Topology.{IsTopologicalOrder}
use Rattle.path_solver.specs.Iteration.{IsOrderly}
use Rattle.path_solver.specs.LoopCosts.{AreLed, AreLoopCosts}
use Rattle.path_solver.specs.Distances.{sources_at, LeadForward, IsReachedBy}
use Rattle.path_solver.specs.Problem.{IsProblem}
use Rattle.path_solver.specs.declared.topology.TopologicalOrder.{TopologicalOrder}
use Rattle.path_solver.proofs.Onward.{nest_loops}
use Rattle.path_solver.proofs.Orderly.{orderly}
use Rattle.path_solver.proofs.Structure.{led, in_order}
use Rattle.path_solver.proofs.measures.measure.Goals as goal

orderly_here : (g : Digraph) (loops : List NaturalLoop) (flags : List Bool) (p : TopologicalOrder) (costs : List ℕ) → length costs ≡ g.nodes → IsDigraph g → AreReaching g flags → IsTopologicalOrder g loops flags p → IsOrderly (length costs) p
orderly_here g loops flags p costs long wf reach topology = let P : ℕ → Type 0 = λ n. IsOrderly n p in subst P (sym long) (orderly g loops flags p wf reach topology)

pub costs_of_loops-requires-clause-topology : goal.costs_of_loops-requires-clause-topology
costs_of_loops-requires-clause-topology c = orderly_here c.args.g.now c.args.nest.now c.args.listed.now c.in_ok-topology.topology c.args.costs.now c.requires.costs c.nodes-nodes.ensures.valid c.requires.listed c.in_ok-topology.ensures

pub costs_of_loops-requires-clause-loops : goal.costs_of_loops-requires-clause-loops
costs_of_loops-requires-clause-loops c =
    let P : List NaturalLoop → Type 0 = λ ls. AreLoops ls in
    subst P (sym c.loops-loops.ensures) (nest_loops c.args.g.now c.args.nest.now c.requires.nest)

pub costs_of_loops-requires-clause-led : goal.costs_of_loops-requires-clause-led
costs_of_loops-requires-clause-led c =
    let order = c.in_ok-topology.topology.order.items in
    let P : List NaturalLoop → Type 0 = λ ls. AreLed order ls in
    let setting : IsProblem c.args.g.now c.args.nest.now c.args.listed.now c.in_ok-topology.topology = record {
      laws = c.nest_laws.ensures;
      digraph = c.nodes-nodes.ensures.valid;
      reducible = c.requires.reducible;
      nest = c.requires.nest;
      reaching = c.requires.listed;
      topology = c.in_ok-topology.ensures;
    }
    in
    subst P (sym c.loops-loops.ensures) (led c.args.g.now c.args.nest.now c.args.listed.now c.in_ok-topology.topology setting)

pub spread-requires-clause-ends : goal.spread-requires-clause-ends
spread-requires-clause-ends c u =
    let ord = orderly_here c.args.g.now c.args.nest.now c.args.listed.now c.in_ok-topology.topology c.args.costs.now c.requires.costs c.nodes-nodes.ensures.valid c.requires.listed c.in_ok-topology.ensures in
    ord.forward_within u

pub spread-requires-clause-within : goal.spread-requires-clause-within
spread-requires-clause-within c =
    let ord = orderly_here c.args.g.now c.args.nest.now c.args.listed.now c.in_ok-topology.topology c.args.costs.now c.requires.costs c.nodes-nodes.ensures.valid c.requires.listed c.in_ok-topology.ensures in
    let P : List ℕ → Type 0 = λ us. All (λ u. u < length c.args.costs.now) us in
    subst P (sym c.deref.ensures.value) ord.within

pub spread-requires-clause-forward : goal.spread-requires-clause-forward
spread-requires-clause-forward c =
    let ord = orderly_here c.args.g.now c.args.nest.now c.args.listed.now c.in_ok-topology.topology c.args.costs.now c.requires.costs c.nodes-nodes.ensures.valid c.requires.listed c.in_ok-topology.ensures in
    let order = c.in_ok-topology.topology.order.items in
    let Q : List ℕ → Type 0 = λ us. LeadForward (sources_at c.in_ok-topology.topology.forward) us in
    let here : LeadForward (sources_at c.in_ok-topology.topology.forward) order = λ q j lt has listed. ord.before q j lt has in
    subst Q (sym c.deref.ensures.value) here

written : (n : ℕ) (new old : List ℕ) → length new ≡ n → take n (new ++ old) ≡ new
written n new old long = take-append-le n new old (omega (arith, long)) ∙ ap (λ (k : ℕ). take k new) (sym long) ∙ take-length new

pub returns : goal.returns
returns c =
    let g = c.args.g.now in
    let loops = c.args.nest.now in
    let flags = c.args.listed.now in
    let p = c.in_ok-topology.topology in
    let iteration_costs = c.in_ok-iteration_costs.field-0.iteration_costs.items in
    let fees = c.in_ok-iteration_costs.field-0.fees.items in
    let dist = c.spread.new.dist in
    let setting : IsProblem g loops flags p = record {
      laws = c.nest_laws.ensures;
      digraph = c.nodes-nodes.ensures.valid;
      reducible = c.requires.reducible;
      nest = c.requires.nest;
      reaching = c.requires.listed;
      topology = c.in_ok-topology.ensures;
    }
    in
    let T : List NaturalLoop → Type 0 = λ ls. AreLoopCosts p ls c.args.costs.now c.args.bounds.now c.args.loads.now iteration_costs fees in
    let nodes = c.nodes-nodes.ensures.nodes in
    let S : List ℕ → List ℕ → Type 0 = λ us fs. (u : ℕ) → Contains us u → IsReachedBy (sources_at p.forward) c.args.costs.now fs dist u in
    let S1 : List ℕ → Type 0 = λ us. S us c.deref-2.result.now in
    let S2 : List ℕ → Type 0 = λ fs. S p.order.items fs in
    let each = subst S2 c.deref-2.ensures.value (subst S1 c.deref.ensures.value c.spread.ensures.each) in
    let a = c.deref_mut.ensures.len in
    let b = c.spread.ensures.long in
    let d = c.in_ok-dist.ensures.len in
    let e = c.requires.costs in
    let is = written c.in_ok-dist.dist.len dist (drop (length dist) c.in_ok-dist.dist.items) (omega arith) in
    record {
      setting = setting;
      costs_long = c.requires.costs;
      bounds_long = c.requires.bounds;
      loads_long = c.requires.loads;
      loop_costs = subst T c.loops-loops.ensures c.in_ok-iteration_costs.ensures;
      dist_long = ap length is ∙ (let k : length dist ≡ length c.args.costs.now = omega arith in k);
      dist_limited = let P : List ℕ → Type 0 = λ ds. All (λ x. x ≤ 2 ^ 66) ds in subst P (sym is) c.spread.ensures.limited;
      each = let P : List ℕ → Type 0 = λ ds. (u : ℕ) → IsFlagged flags u → IsReachedBy (sources_at p.forward) c.args.costs.now fees ds u in
          subst P (sym is) (λ u flag. each u (in_order g loops flags p setting u flag));
    }
