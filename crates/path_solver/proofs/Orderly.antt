-- A topological order is orderly.
use Rattle.std.proofs.Common.{◌≡◌, ℕ, ◌<◌, Bool, true, false, List, [], get_or, All, Contains, subst, inl, inr, arith}
use Rattle.std.proofs.lemmas.Bool.{cases_lt}
use Rattle.std.proofs.lemmas.List.{get_or_past}
use Rattle.std.proofs.lemmas.List.Elements.{All-from_get_or, Contains-get_or}
use Rattle.lists.specs.Members.{nil_contains}
use Rattle.loop_nest.specs.Digraph.{Digraph, Edge, IsDigraph, AreSources, sources_of}
use Rattle.loop_nest.specs.Nest.{NaturalLoop}
use Rattle.loop_nest.proofs.Searching.{from_sources}
use Rattle.loop_nest.proofs.Ends.{ends_within}
use Rattle.path_solver.specs.Reaching.{AreReaching}
use Rattle.path_solver.specs.Distances.{sources_at}
use Rattle.path_solver.specs.Topology.{IsTopologicalOrder}
use Rattle.path_solver.specs.Iteration.{IsOrderly}
use Rattle.path_solver.specs.declared.topology.TopologicalOrder.{TopologicalOrder}
use Rattle.path_solver.proofs.Onward.{order_below}

-- the sources that are listed for a node are those of the edges to it
pub listed_sources : (es : List (ℕ × ℕ)) (n : ℕ) (ss : List (List ℕ)) → AreSources es n ss → (u : ℕ) → u < n → sources_at ss u ≡ sources_of es u
listed_sources es n ss h u lt = h.each u lt

pub source_edge : (es : List (ℕ × ℕ)) (n : ℕ) (ss : List (List ℕ)) → AreSources es n ss → (q u : ℕ) → Contains (sources_at ss u) q → Contains es (q, u)
source_edge es n ss h q u has =
    let long = h.long in
    elim (cases_lt u n) [
      | inl low ↦ let P : List ℕ → Type 0 = λ qs. Contains qs q in from_sources es q u (subst P (listed_sources es n ss h u low) has)
      | inr high ↦
          let none : sources_at ss u ≡ [] = get_or_past ss u [] (omega arith) in
          let P : List ℕ → Type 0 = λ qs. Contains qs q in
          absurd (nil_contains q (subst P none has))
    ]

sources_below : (g : Digraph) (ls : List NaturalLoop) (flags : List Bool) (b : Bool) (es : List (ℕ × ℕ)) (ss : List (List ℕ)) → IsDigraph g → ((u v : ℕ) → Contains es (u, v) → Edge g u v) → AreSources es g.nodes ss → (u : ℕ) → All (λ v. v < g.nodes) (sources_at ss u)
sources_below g ls flags b es ss wf sub h u =
    All-from_get_or (λ v. v < g.nodes) (sources_at ss u) 0 (λ i lt.
    let q = get_or (sources_at ss u) i 0 in
    (ends_within wf q u (sub q u (source_edge es g.nodes ss h q u (Contains-get_or (sources_at ss u) i 0 lt)))).0)

pub orderly : (g : Digraph) (ls : List NaturalLoop) (flags : List Bool) (p : TopologicalOrder) → IsDigraph g → AreReaching g flags → IsTopologicalOrder g ls flags p → IsOrderly g.nodes p
orderly g ls flags p wf reach h =
    let P : ℕ → Type 0 = λ n. All (λ u. u < n) p.order.items in
    record {
      apart = h.ordered.apart;
      within = subst P reach.long (order_below flags h.onward p.order.items h.ordered);
      placed = h.placed;
      forward_long = h.forward_sources.long;
      back_long = h.back_sources.long;
      forward_within = sources_below g ls flags false h.onward p.forward wf (λ u v c. ((h.are_onward u v).0 c).0) h.forward_sources;
      back_within = sources_below g ls flags true h.backward p.back wf (λ u v c. ((h.are_backward u v).0 c).0) h.back_sources;
      before = λ q j lt has. h.ordered.before q j lt (source_edge h.onward g.nodes p.forward h.forward_sources q (get_or p.order.items j 0) has);
    }
