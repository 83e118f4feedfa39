-- No iteration of a loop costs more than its exact iteration cost, whatever walks to an exit cost.
use Rattle.std.proofs.Common.{◌≡◌, ℕ, ◌≤◌, ◌<◌, ℤ, pos, Bool, eqb, List, [], ◌∷◌, length, get_or, map, Contains, Option, Some, None, refl, sym, ap, ◌∙◌, subst, inl, inr, arith}
use Rattle.std.specs.Prelude.{◌-ℤ◌}
use Rattle.std.proofs.lemmas.Bool.{cases_eq, cond-true, cond-false, eq-eqb, ne_eqb}
use Rattle.lists.specs.Members.{at_head, in_tail, cons_cases, nil_contains}
use Rattle.loop_nest.specs.Digraph.{Digraph}
use Rattle.loop_nest.specs.Walks.{Walk}
use Rattle.loop_nest.specs.Walks.Walk.{stay, along}
use Rattle.loop_nest.specs.Nest.{NaturalLoop}
use Rattle.section_check.specs.Bounded.{BoundedLoop, IsIteration, cost_of_iteration}
use Rattle.section_check.specs.Section.{Certified, potential, listed}
use Rattle.section_check.specs.Placing.{IsEntryAt, IsMisplaced}
use Rattle.section_check.specs.Placing.IsMisplaced.{lists_no_node, holds_no_node, heads_faulty, enters_aside, holds_entry, exceeds_limit}
use Rattle.section_check.specs.Conditions.{IsAccepted}
use Rattle.path_solver.specs.declared.topology.TopologicalOrder.{TopologicalOrder}
use Rattle.path_solver.specs.Reaching.{IsFlagged}
use Rattle.path_solver.specs.Certifying.{certified}
use Rattle.path_solver.specs.Longest.{bounded_loops}
use Rattle.path_solver.specs.Problem.{IsProblem}
use Rattle.path_solver.proofs.Accepting.{AreExactlyLeft, edges_hold, starts_with}
use Rattle.path_solver.proofs.Correspond.{bounded_at, price_at, to_priced, same_loops}
use Rattle.path_solver.proofs.Exact.{AreExact}
use Rattle.path_solver.proofs.Placed.{well_placed}
use Rattle.path_solver.proofs.Structure.{own_header, members_below, listed_below, in_order, from_order}

-- ---- potentials that a function gives

abbrev pub potentials_of : (ℕ → ℤ) → List ℕ → List (ℕ × ℤ)
potentials_of f us = map (λ u. (u, f u)) us

pub potentials_listed : (f : ℕ → ℤ) (us : List ℕ) → listed (potentials_of f us) ≡ us
potentials_listed f [] = refl
potentials_listed f (u ∷ us) = ap (λ (vs : List ℕ). u ∷ vs) (potentials_listed f us)

pub potential_there : (f : ℕ → ℤ) (us : List ℕ) (u : ℕ) → Contains us u → potential (potentials_of f us) u ≡ Some (f u)
potential_there f [] u has = absurd (nil_contains u has)
potential_there f (x ∷ us) u has =
    elim (cases_eq x u) [
      | inl same ↦ cond-true (eqb x u) (Some (f x)) (potential (potentials_of f us) u) (eq-eqb x u same) ∙ ap (λ (z : ℕ). Some (f z)) same
      | inr other ↦
          cond-false (eqb x u) (Some (f x)) (potential (potentials_of f us) u) (ne_eqb x u other)
          ∙ elim (cons_cases x u us has) [ inl same ↦ absurd (other same) | inr there ↦ potential_there f us u there ]
    ]

pub potential_nowhere : (f : ℕ → ℤ) (us : List ℕ) (u : ℕ) → (Contains us u → ⊥) → potential (potentials_of f us) u ≡ None
potential_nowhere f [] u out = refl
potential_nowhere f (x ∷ us) u out =
    cond-false (eqb x u) (Some (f x)) (potential (potentials_of f us) u) (ne_eqb x u (λ same. out (let P : ℕ → Type 0 = λ z. Contains (x ∷ us) z in subst P same (at_head x us))))
    ∙ potential_nowhere f us u (λ has. out (in_tail x u us has))

-- ---- the graph without its exits

abbrev without_exits : Digraph → Digraph
without_exits g = record g { exits = [] }

same_walk : {g : Digraph} {u v : ℕ} {ns : List ℕ} → Walk g u v ns → Walk (without_exits g) u v ns
same_walk (stay {u}) = stay
same_walk (along {u} {v} {w} {ns} e t) = along e (same_walk t)

misplaced_with : (g : Digraph) (c : Certified) (bounds : List ℕ) (loads : List (Option ℕ)) (u : ℕ) → IsMisplaced (without_exits g) c bounds loads u → IsMisplaced g c bounds loads u
misplaced_with g c bounds loads u (lists_no_node has beyond) = lists_no_node has beyond
misplaced_with g c bounds loads u (holds_no_node held beyond) = holds_no_node held beyond
misplaced_with g c bounds loads u (heads_faulty f) = heads_faulty f
misplaced_with g c bounds loads u (enters_aside v e f) = enters_aside v e f
misplaced_with g c bounds loads u (holds_entry at f) = holds_entry at f
misplaced_with g c bounds loads u (exceeds_limit at f) = exceeds_limit at f

module _ (g : Digraph) (loops : List NaturalLoop) (flags : List Bool) (p : TopologicalOrder) (h : IsProblem g loops flags p) (costs bounds loads iteration_costs : List ℕ) (b : length bounds ≡ length loops) (l : length loads ≡ length loops) (fees dist : ℕ → ℕ)
    (m : AreExact p loops costs bounds loads iteration_costs fees dist) where
  -- the listed nodes with what exact distances leave of a value
  abbrev pub nodes_of : ℕ → List (ℕ × ℤ)
  nodes_of value = potentials_of (λ u. pos value -ℤ pos (dist u)) p.order.items

  pub left_of : (value : ℕ) → AreExactlyLeft flags value dist (nodes_of value)
  left_of value = record {
    each = λ u flag. potential_there (λ x. pos value -ℤ pos (dist x)) p.order.items u (in_order g loops flags p h u flag);
    others = λ u out. potential_nowhere (λ x. pos value -ℤ pos (dist x)) p.order.items u (λ has. out (from_order g loops flags p h u has));
  }

  pub nodes_below : (value : ℕ) (u : ℕ) → Contains (listed (nodes_of value)) u → u < g.nodes
  nodes_below value u has =
      let P : List ℕ → Type 0 = λ us. Contains us u in
      listed_below g loops flags p h u (from_order g loops flags p h u (subst P (potentials_listed (λ x. pos value -ℤ pos (dist x)) p.order.items) has))

  abbrev section : Certified
  section = record { nodes = nodes_of 0; loops = certified loops iteration_costs }

  module _ (entry : IsFlagged flags 0) where
    accepted : IsAccepted (without_exits g) costs section bounds (map Some loads)
    accepted = record {
      placed = λ u wrong.
          well_placed g loops flags p h bounds loads iteration_costs b l m.long (nodes_of 0) (nodes_below 0) 0 (omega arith) (starts_with g loops flags p h costs bounds loads iteration_costs b l fees dist m 0 (nodes_of 0) (left_of 0) entry) u
          (misplaced_with g section bounds (map Some loads) u wrong);
      edges = edges_hold g loops flags p h costs bounds loads iteration_costs b l fees dist m 0 (nodes_of 0) (left_of 0);
      exits = λ u has. absurd (nil_contains u has);
    }

    pub iteration_bounded : (i : ℕ) (k : NaturalLoop) → IsEntryAt loops i k → IsFlagged flags k.header → (ns : List ℕ) → IsIteration g (bounded_loops loops bounds loads) (bounded_at loops bounds loads b l k i) ns
        → cost_of_iteration costs (bounded_loops loops bounds loads) ns ≤ get_or iteration_costs i 0
    iteration_bounded i k at flag ns iteration =
        let has : Contains loops k = (i, at.0, at.1) in
        let below = members_below g loops flags p h k k.header has (own_header g loops flags p h k has) in
        let reached = h.laws.reached g h.digraph h.reducible k.header below in
        let priced_there = to_priced loops bounds loads b l iteration_costs m.long i k at in
        let same = same_loops loops bounds loads b l iteration_costs m.long in
        let here : IsIteration (without_exits g) (bounded_loops loops bounds loads) (bounded_at loops bounds loads b l k i) ns = record {
          last = iteration.last;
          walk = same_walk iteration.walk;
          within = iteration.within;
          back = iteration.back;
          first = iteration.first;
          kept = iteration.kept;
        }
        in
        let P : List BoundedLoop → Type 0 = λ ks. IsIteration (without_exits g) ks (bounded_at loops bounds loads b l k i) ns in
        let Q : List BoundedLoop → Type 0 = λ ks. cost_of_iteration costs ks ns ≤ get_or iteration_costs i 0 in
        subst Q same (h.laws.iterations (without_exits g) costs section bounds (map Some loads) accepted (price_at loops bounds loads b l iteration_costs m.long k i) (i, priced_there.0, priced_there.1) (reached.0, same_walk reached.1) (pos 0 -ℤ pos (dist k.header)) ((left_of 0).each k.header flag) ns (subst P (sym same) here))
