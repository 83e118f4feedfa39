use Rattle.std.proofs.Common.{◌≡◌, ℕ, ◌<◌, Bool, true, false, List, length, All, Contains, sym, ◌∙◌, subst}
use Rattle.loop_nest.specs.Digraph.{AreSources}
use Rattle.loop_nest.specs.Nest.{NaturalLoop}
use Rattle.loop_nest.specs.Walks.{Walk}
use Rattle.path_solver.specs.Reaching.{IsFlagged}
use Rattle.path_solver.specs.Ordering.{AreLoops, graph_of, IsForwardOrder}
use Rattle.path_solver.specs.Distances.{ArePlaces}
use Rattle.path_solver.proofs.Growing.{targets_below}
use Rattle.path_solver.proofs.Onward.{nest_loops, onward_acyclic, sources_flagged, targets_flagged, retaken, order_below}
use Rattle.path_solver.proofs.topology.topological_order.Goals as goal

pub taken-requires-clause-loops : goal.taken-requires-clause-loops
taken-requires-clause-loops c =
    let P : List NaturalLoop → Type 0 = λ ls. AreLoops ls in
    subst P (sym c.loops-loops.ensures) (nest_loops c.args.g.now c.args.nest.now c.requires.nest)

pub forward_order-requires-clause-targets : goal.forward_order-requires-clause-targets
forward_order-requires-clause-targets c =
    let g = c.args.g.now in
    let ls = c.args.nest.now in
    let flags = c.args.listed.now in
    let es = c.in_ok-onward.field-0.onward.items in
    let taken = retaken g.edges c.edges.result.now ls c.loops-loops.result.now flags false es c.edges.ensures.edges c.loops-loops.ensures c.in_ok-onward.ensures.onward in
    let P : List (ℕ × ℕ) → Type 0 = λ zs. (u v : ℕ) → Contains zs (u, v) → IsFlagged flags v in
    subst P (sym c.deref.ensures.value) (targets_flagged g ls flags false es taken)

pub forward_order-requires-clause-sources : goal.forward_order-requires-clause-sources
forward_order-requires-clause-sources c =
    let g = c.args.g.now in
    let ls = c.args.nest.now in
    let flags = c.args.listed.now in
    let es = c.in_ok-onward.field-0.onward.items in
    let taken = retaken g.edges c.edges.result.now ls c.loops-loops.result.now flags false es c.edges.ensures.edges c.loops-loops.ensures c.in_ok-onward.ensures.onward in
    let P : List (ℕ × ℕ) → Type 0 = λ zs. (u v : ℕ) → Contains zs (u, v) → IsFlagged flags u in
    subst P (sym c.deref.ensures.value) (sources_flagged g ls flags es c.requires.listed taken)

pub forward_order-requires-clause-acyclic : goal.forward_order-requires-clause-acyclic
forward_order-requires-clause-acyclic c =
    let g = c.args.g.now in
    let ls = c.args.nest.now in
    let flags = c.args.listed.now in
    let es = c.in_ok-onward.field-0.onward.items in
    let taken = retaken g.edges c.edges.result.now ls c.loops-loops.result.now flags false es c.edges.ensures.edges c.loops-loops.ensures c.in_ok-onward.ensures.onward in
    let P : List (ℕ × ℕ) → Type 0 = λ zs. (u v : ℕ) (ns : List ℕ) → Contains zs (u, v) → Walk (graph_of (length flags) zs) v u ns → ⊥ in
    subst P (sym c.deref.ensures.value) (onward_acyclic g ls flags es (length flags) c.cycles_take_back_edges.ensures c.nodes-nodes.ensures.valid c.requires.reducible c.requires.nest taken)

ordered : (flags : List Bool) (es qs : List (ℕ × ℕ)) (us : List ℕ) → qs ≡ es → IsForwardOrder flags qs us → IsForwardOrder flags es us
ordered flags es qs us is h = let P : List (ℕ × ℕ) → Type 0 = λ zs. IsForwardOrder flags zs us in subst P is h

pub places-requires-clause-within : goal.places-requires-clause-within
places-requires-clause-within c =
    let flags = c.args.listed.now in
    let us = c.in_ok-order.order.items in
    let P : ℕ → Type 0 = λ n. All (λ u. u < n) c.deref-2.result.now in
    let Q : List ℕ → Type 0 = λ ls. All (λ u. u < length flags) ls in
    subst P (c.requires.listed.long ∙ sym c.nodes-nodes.ensures.nodes) (subst Q (sym c.deref-2.ensures.value) (order_below flags c.deref.result.now us c.in_ok-order.ensures))

pub by_target-requires : goal.by_target-requires
by_target-requires c =
    let g = c.args.g.now in
    let ls = c.args.nest.now in
    let flags = c.args.listed.now in
    let es = c.in_ok-onward.field-0.onward.items in
    let taken = retaken g.edges c.edges.result.now ls c.loops-loops.result.now flags false es c.edges.ensures.edges c.loops-loops.ensures c.in_ok-onward.ensures.onward in
    let P : ℕ → Type 0 = λ n. All (λ (e : ℕ × ℕ). e.1 < n) c.deref-3.result.now in
    let Q : List (ℕ × ℕ) → Type 0 = λ zs. All (λ (e : ℕ × ℕ). e.1 < length flags) zs in
    subst P (c.requires.listed.long ∙ sym c.nodes-nodes.ensures.nodes) (subst Q (sym c.deref-3.ensures.value) (targets_below flags es (targets_flagged g ls flags false es taken)))

pub by_target-requires-2 : goal.by_target-requires-2
by_target-requires-2 c =
    let g = c.args.g.now in
    let ls = c.args.nest.now in
    let flags = c.args.listed.now in
    let es = c.in_ok-onward.field-0.backward.items in
    let taken = retaken g.edges c.edges.result.now ls c.loops-loops.result.now flags true es c.edges.ensures.edges c.loops-loops.ensures c.in_ok-onward.ensures.backward in
    let P : ℕ → Type 0 = λ n. All (λ (e : ℕ × ℕ). e.1 < n) c.deref-4.result.now in
    let Q : List (ℕ × ℕ) → Type 0 = λ zs. All (λ (e : ℕ × ℕ). e.1 < length flags) zs in
    subst P (c.requires.listed.long ∙ sym c.nodes-nodes.ensures.nodes) (subst Q (sym c.deref-4.ensures.value) (targets_below flags es (targets_flagged g ls flags true es taken)))

pub returns : goal.returns
returns c =
    let g = c.args.g.now in
    let ls = c.args.nest.now in
    let flags = c.args.listed.now in
    let onward = c.in_ok-onward.field-0.onward.items in
    let backward = c.in_ok-onward.field-0.backward.items in
    let order = c.in_ok-order.order.items in
    let P : List ℕ → ℕ → Type 0 = λ us n. ArePlaces us n c.in_ok-places.places.items in
    let P1 : List ℕ → Type 0 = λ us. P us c.nodes-nodes.result in
    let P2 : ℕ → Type 0 = λ n. P order n in
    let Q1 : List (ℕ × ℕ) → Type 0 = λ es. AreSources es c.nodes-nodes.result c.in_ok-forward.forward in
    let Q2 : ℕ → Type 0 = λ n. AreSources onward n c.in_ok-forward.forward in
    let R1 : List (ℕ × ℕ) → Type 0 = λ es. AreSources es c.nodes-nodes.result c.in_ok-back.back in
    let R2 : ℕ → Type 0 = λ n. AreSources backward n c.in_ok-back.back in
    let nodes = c.nodes-nodes.ensures.nodes in
    record {
      onward = onward;
      backward = backward;
      are_onward = retaken g.edges c.edges.result.now ls c.loops-loops.result.now flags false onward c.edges.ensures.edges c.loops-loops.ensures c.in_ok-onward.ensures.onward;
      are_backward = retaken g.edges c.edges.result.now ls c.loops-loops.result.now flags true backward c.edges.ensures.edges c.loops-loops.ensures c.in_ok-onward.ensures.backward;
      ordered = ordered flags onward c.deref.result.now order c.deref.ensures.value c.in_ok-order.ensures;
      placed = subst P2 nodes (subst P1 c.deref-2.ensures.value c.in_ok-places.ensures);
      forward_sources = subst Q2 nodes (subst Q1 c.deref-3.ensures.value c.in_ok-forward.ensures);
      back_sources = subst R2 nodes (subst R1 c.deref-4.ensures.value c.in_ok-back.ensures);
    }
