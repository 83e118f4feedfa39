-- No distance exceeds the greatest cost at an exit by more than an iteration of each loop around.
use Rattle.std.proofs.Common.{◌≡◌, ℕ, ◌+◌, ◌≤◌, Bool, true, false, ◌&&◌, List, ◌∷◌, drop, Contains, sym, subst, inl, inr, arith}
use Rattle.std.proofs.lemmas.Bool.{and_parts, and_from, and_right, false_from_ne_true}
use Rattle.lists.specs.Members.{at_head, in_tail, has_or_not}
use Rattle.loop_nest.specs.Digraph.{Digraph, Edge}
use Rattle.loop_nest.specs.Walks.{Walk}
use Rattle.loop_nest.specs.Walks.Walk.{stay, along}
use Rattle.loop_nest.specs.Nest.{NaturalLoop}
use Rattle.loop_nest.proofs.SimpleWalks.{begins, VisitsOnce, simple_walk}
use Rattle.path_solver.specs.declared.topology.TopologicalOrder.{TopologicalOrder}
use Rattle.section_check.specs.Bounded.{holds}
use Rattle.section_check.proofs.Elements.{contains_from_holds, holds_from_contains}
use Rattle.path_solver.specs.Reaching.{IsFlagged}
use Rattle.path_solver.specs.Distances.{IsMost}
use Rattle.path_solver.specs.Totals.{iteration_costs_around}
use Rattle.path_solver.proofs.CostsAround.{reserve_where, around_where, reserve_grows, reserve_grows_by}
use Rattle.path_solver.specs.Problem.{IsProblem}
use Rattle.path_solver.proofs.Exact.{AreExact}
use Rattle.path_solver.proofs.Limiting.{exactly_through}
use Rattle.path_solver.proofs.AlongEdges.{grows}
use Rattle.path_solver.proofs.AlongEdges.Grows.{backward, entering, exceeding}
use Rattle.path_solver.proofs.Structure as structure

module _ (g : Digraph) (loops : List NaturalLoop) (flags : List Bool) (p : TopologicalOrder) (h : IsProblem g loops flags p) (costs bounds loads iteration_costs : List ℕ) (fees dist : ℕ → ℕ) (m : AreExact p loops costs bounds loads iteration_costs fees dist) (value : ℕ) (most : IsMost (exactly_through costs dist) g.exits value) where
  -- the loop has u, and its header is one of the nodes to come
  abbrev is_ahead : ℕ → List ℕ → NaturalLoop → Bool
  is_ahead u rest l = holds l.members u && holds rest l.header

  abbrev ahead : ℕ → List ℕ → ℕ
  ahead u rest = reserve_where (is_ahead u rest) loops iteration_costs

  ahead_around : (u : ℕ) (rest : List ℕ) → ahead u rest ≤ iteration_costs_around loops iteration_costs u
  ahead_around u rest =
      let is = around_where loops iteration_costs u in
      let more = reserve_grows (is_ahead u rest) (λ l. holds l.members u) loops iteration_costs (λ l has is. (and_parts (holds l.members u) (holds rest l.header) is).0) in
      omega arith

  -- a loop that is ahead behind an edge is ahead before it, too
  stays_ahead : (u v : ℕ) (rest : List ℕ) → Edge g u v → (Contains rest v → ⊥) → (l : NaturalLoop) → Contains loops l → is_ahead v rest l ≡ true → is_ahead u (v ∷ rest) l ≡ true
  stays_ahead u v rest edge once l has is =
      let parts = and_parts (holds l.members v) (holds rest l.header) is in
      let inside = contains_from_holds l.members v parts.0 in
      let comes = contains_from_holds rest l.header parts.1 in
      elim (has_or_not l.members u) [
        | inl in' ↦ and_from (holds l.members u) (holds (v ∷ rest) l.header) (holds_from_contains l.members u in') (holds_from_contains (v ∷ rest) l.header (in_tail v l.header rest comes))
        | inr out ↦
            let P : ℕ → Type 0 = λ z. Contains rest z in
            absurd (once (subst P (sym (structure.entered_at_header g loops flags p h l u v has edge inside out)) comes))
      ]

  ahead_along : (u v : ℕ) (rest : List ℕ) → Edge g u v → IsFlagged flags v → (Contains rest v → ⊥) → dist v ≤ value + ahead v rest → dist u ≤ value + ahead u (v ∷ rest)
  ahead_along u v rest edge flag once near =
      let more = reserve_grows (is_ahead v rest) (is_ahead u (v ∷ rest)) loops iteration_costs (stays_ahead u v rest edge once) in
      elim (grows g loops flags p h costs bounds loads iteration_costs fees dist m u v edge flag) [
        | backward i l at same inside on ↦
            let P : ℕ → Type 0 = λ z. Contains rest z in
            let Q : ℕ → Type 0 = λ z. holds (z ∷ rest) l.header ≡ true in
            let no' : is_ahead v rest l ≡ false = and_right (holds l.members v) (holds rest l.header) (false_from_ne_true (holds rest l.header) (λ has. once (subst P same (contains_from_holds rest l.header has)))) in
            let yes' : is_ahead u (v ∷ rest) l ≡ true =
            and_from (holds l.members u) (holds (v ∷ rest) l.header) (holds_from_contains l.members u inside) (subst Q same (holds_from_contains (l.header ∷ rest) l.header (at_head l.header rest)))
            in
            let by = reserve_grows_by (is_ahead v rest) (is_ahead u (v ∷ rest)) loops iteration_costs i l at no' yes' (stays_ahead u v rest edge once) in
            omega arith
        | entering i l at same outside on ↦ omega arith
        | exceeding none on ↦ omega arith
      ]

  ahead_exit : (u : ℕ) → Contains g.exits u → dist u ≤ value
  ahead_exit u exit =
      let above = most.above u exit in
      omega arith

  ahead_all : {u x : ℕ} {ns : List ℕ} → Walk g u x ns → Contains g.exits x → VisitsOnce ns → IsFlagged flags u × (dist u ≤ value + ahead u (drop 1 ns))
  ahead_all (stay {u}) exit once = let most_here = ahead_exit u exit in (structure.listed_exit g loops flags p h u exit, omega arith)
  ahead_all (along {u} {v} {w} {ns} e t) exit once =
      let ih = ahead_all t exit once.1 in
      let b = begins t in
      let P : List ℕ → Type 0 = λ zs. VisitsOnce zs → dist v ≤ value + ahead v (drop 1 zs) → dist u ≤ value + ahead u zs in
      let step : P (v ∷ b.0) = λ o near. ahead_along u v b.0 e ih.0 o.0 near in
      (structure.listed_source g loops flags p h u v e ih.0, subst P (sym b.1) step once.1 ih.1)

  pub range : (u : ℕ) → IsFlagged flags u → dist u ≤ value + iteration_costs_around loops iteration_costs u
  range u flag =
      let r = (h.reaching.each u).0 flag in
      let s = simple_walk r.walk in
      let a = ahead_all s.walk r.among s.once in
      let most_here = a.1 in
      let below = ahead_around u (drop 1 s.nodes) in
      omega arith
