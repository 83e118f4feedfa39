use Rattle.std.proofs.Common.{◌≡◌, ℕ, ◌<◌, Bool, false, List, length, get_or, All, sym, ◌∙◌, subst, arith}
use Rattle.std.specs.Prelude.{◌↔◌, IsTrue}
use Rattle.std.specs.List.Sorted.{IsStrictlyIncreasing}
use Rattle.std.proofs.lemmas.Bool.{both_ways}
use Rattle.std.proofs.lemmas.List.{get_or_default}
use Rattle.loop_nest.specs.Digraph.{Digraph, IsDigraph}
use Rattle.loop_nest.specs.Nest.{NaturalLoop}
use Rattle.path_solver.specs.Distances.{IsMost, cost_through}
use Rattle.path_solver.specs.Reaching.{AreReaching}
use Rattle.path_solver.specs.Totals.{SomeIterationsExceed}
use Rattle.path_solver.specs.declared.topology.TopologicalOrder.{TopologicalOrder}
use Rattle.path_solver.specs.Problem.{IsMeasured}
use Rattle.path_solver.proofs.Solutions.{nothing_too_large, all_within}
use Rattle.path_solver.proofs.pass.one_pass.Goals as goal

-- at the entry, listed or not
entry_flag : (flags : List Bool) (b : Bool) → 0 < length flags → b ≡ get_or flags 0 b → get_or flags 0 false ≡ b
entry_flag flags b lt is = get_or_default flags 0 false b lt ∙ sym is

some_nodes : (g : Digraph) (flags : List Bool) → AreReaching g flags → IsDigraph g → 0 < length flags
some_nodes g flags reach wf = let long = reach.long in let entry = wf.entry in omega arith

measured_of : (g : Digraph) (loops : List NaturalLoop) (flags seen : List Bool) (p : TopologicalOrder) (costs bounds loads iteration_costs fees dist : List ℕ) → seen ≡ flags
    → IsMeasured g loops seen p costs bounds loads iteration_costs fees dist → IsMeasured g loops flags p costs bounds loads iteration_costs fees dist
measured_of g loops flags seen p costs bounds loads iteration_costs fees dist is h = let P : List Bool → Type 0 = λ fs. IsMeasured g loops fs p costs bounds loads iteration_costs fees dist in subst P is h

most_of : (costs dist seen us exits : List ℕ) (value : ℕ) → seen ≡ dist → us ≡ exits → IsMost (cost_through costs seen) us value → IsMost (cost_through costs dist) exits value
most_of costs dist seen us exits value a b h =
    let P : List ℕ → Type 0 = λ ds. IsMost (cost_through costs ds) us value in
    let Q : List ℕ → Type 0 = λ es. IsMost (cost_through costs dist) es value in
    subst Q b (subst P a h)

exceed_of : (loops ls : List NaturalLoop) (iteration_costs ws : List ℕ) (n m : ℕ) (b : Bool) → ls ≡ loops → ws ≡ iteration_costs → n ≡ m → IsTrue b ↔ SomeIterationsExceed ls ws n → IsTrue b ↔ SomeIterationsExceed loops iteration_costs m
exceed_of loops ls iteration_costs ws n m b x y z h =
    let P : List NaturalLoop → Type 0 = λ zs. IsTrue b ↔ SomeIterationsExceed zs ws n in
    let Q : List ℕ → Type 0 = λ zs. IsTrue b ↔ SomeIterationsExceed loops zs n in
    let R : ℕ → Type 0 = λ k. IsTrue b ↔ SomeIterationsExceed loops iteration_costs k in
    subst R z (subst Q y (subst P x h))

pub index-requires : goal.index-requires
index-requires c =
    let lt = some_nodes c.args.g.now c.in_ok-listed.listed.items c.in_ok-listed.ensures c.nodes-nodes.ensures.valid in
    omega arith

pub returns-then-not-index-clause-unreached : goal.returns-then-not-index-clause-unreached
returns-then-not-index-clause-unreached c =
    let flags = c.in_ok-listed.listed.items in
    let lt = some_nodes c.args.g.now flags c.in_ok-listed.ensures c.nodes-nodes.ensures.valid in
    let out = entry_flag flags c.index.result.now lt c.index.ensures ∙ c.if-not-index.true in
    λ r. both_ways (get_or flags 0 false) out ((c.in_ok-listed.ensures.each 0).1 r)

pub returns-then-not-index-clause-fits : goal.returns-then-not-index-clause-fits
returns-then-not-index-clause-fits c =
    let flags = c.in_ok-listed.listed.items in
    let lt = some_nodes c.args.g.now flags c.in_ok-listed.ensures c.nodes-nodes.ensures.valid in
    let out = entry_flag flags c.index.result.now lt c.index.ensures ∙ c.if-not-index.true in
    nothing_too_large c.args.g.now c.args.costs.now _ c.reducible_is_reached.ensures c.nodes-nodes.ensures.valid c.requires.reducible (λ r. both_ways (get_or flags 0 false) out ((c.in_ok-listed.ensures.each 0).1 r))

pub iterations_exceed-requires-clause-rising : goal.iterations_exceed-requires-clause-rising
iterations_exceed-requires-clause-rising c =
    let P : List NaturalLoop → Type 0 = λ ls. All (λ l. IsStrictlyIncreasing l.members) ls in
    subst P (sym c.loops.ensures) (λ i d lt. (c.requires.nest.loops i d lt).rising)

pub iterations_exceed-requires-clause-within : goal.iterations_exceed-requires-clause-within
iterations_exceed-requires-clause-within c =
    let P : List NaturalLoop → ℕ → Type 0 = λ ls n. All (λ (l : NaturalLoop). All (λ u. u < n) l.members) ls in
    let Q : List NaturalLoop → Type 0 = λ ls. P ls c.nodes-nodes.result in
    let R : ℕ → Type 0 = λ n. P c.args.nest.now n in
    let a = c.in_ok-iteration_costs.ensures in
    subst Q (sym c.loops.ensures) (subst R (sym c.nodes-nodes.ensures.nodes) (all_within c.args.g.now c.args.nest.now c.deref.result.now c.in_ok-iteration_costs.field-0.topology a.setting))

measured_here : (c : goal.In_ok-turns_exceed) → IsMeasured c.args.g.now c.args.nest.now c.in_ok-listed.listed.items c.in_ok-iteration_costs.field-0.topology c.args.costs.now c.args.bounds.now c.args.loads.now
    c.in_ok-iteration_costs.field-0.iteration_costs.items c.in_ok-iteration_costs.field-0.fees.items c.in_ok-iteration_costs.field-0.dist.items
measured_here c =
    let found = c.in_ok-iteration_costs.field-0 in
    measured_of c.args.g.now c.args.nest.now c.in_ok-listed.listed.items c.deref.result.now found.topology c.args.costs.now c.args.bounds.now c.args.loads.now found.iteration_costs.items found.fees.items found.dist.items
    c.deref.ensures.value c.in_ok-iteration_costs.ensures

pub returns-clause-measured : goal.returns-clause-measured
returns-clause-measured c = measured_here c

pub returns-clause-pass : goal.returns-clause-pass
returns-clause-pass c =
    let g = c.args.g.now in
    let loops = c.args.nest.now in
    let flags = c.in_ok-listed.listed.items in
    let iteration_costs = c.in_ok-iteration_costs.field-0.iteration_costs.items in
    let dist = c.in_ok-iteration_costs.field-0.dist.items in
    let lt = some_nodes g flags c.in_ok-listed.ensures c.nodes-nodes.ensures.valid in
    record {
      reaching = c.in_ok-listed.ensures;
      entry = entry_flag flags c.index.result.now lt c.index.ensures ∙ c.if-not-index.false;
      measures = record { topology = c.in_ok-iteration_costs.field-0.topology; fees = c.in_ok-iteration_costs.field-0.fees.items; measured = measured_here c };
      most = most_of c.args.costs.now dist c.deref-2.result.now c.exits.result.now g.exits c.greatest_end-value.result c.deref-2.ensures.value c.exits.ensures.exits c.greatest_end-value.ensures.most;
      turns = exceed_of loops c.loops.result.now iteration_costs c.deref-3.result.now c.nodes-nodes.result g.nodes c.in_ok-turns_exceed.turns_exceed c.loops.ensures c.deref-3.ensures.value c.nodes-nodes.ensures.nodes c.in_ok-turns_exceed.ensures;
    }
