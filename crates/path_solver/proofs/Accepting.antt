-- Potentials that are what exact distances leave of a value descend along every edge.
use Rattle.std.proofs.Common.{◌≡◌, ℕ, ◌+◌, ◌*◌, ◌≤◌, ℤ, pos, Bool, true, false, List, length, get_or, Contains, Option, Some, None, refl, sym, ap, ◌∙◌, subst, inl, inr, arith}
use Rattle.std.specs.Prelude.{◌+ℤ◌, ◌-ℤ◌}
use Rattle.std.proofs.lemmas.Bool.{false≢true, false_from_ne_true}
use Rattle.std.proofs.lemmas.Int.{ints}
use Rattle.loop_nest.specs.Digraph.{Digraph, Edge}
use Rattle.loop_nest.specs.Nest.{NaturalLoop}
use Rattle.section_check.specs.Bounded.{holds}
use Rattle.section_check.specs.Section.{Certified, PricedLoop, start_value, with_fee, entry_fee, headed_fee, headed_by, potential}
use Rattle.section_check.specs.Placing.{IsEntryAt}
use Rattle.section_check.specs.Conditions.{DescendsTo, Descends, DescendsFrom, EdgeHolds, EdgesHold, CoversCost, ExitsHold}
use Rattle.section_check.proofs.Elements.{contains_from_holds, holds_from_contains}
use Rattle.path_solver.specs.declared.topology.TopologicalOrder.{TopologicalOrder}
use Rattle.path_solver.specs.Reaching.{IsFlagged}
use Rattle.path_solver.specs.Ordering.{NoLoopHas}
use Rattle.path_solver.specs.Certifying.{certified}
use Rattle.path_solver.specs.Distances.{IsMost}
use Rattle.path_solver.specs.Problem.{IsProblem}
use Rattle.path_solver.proofs.Correspond.{prices, price_at, headed_none, headed_at}
use Rattle.path_solver.proofs.Exact.{AreExact}
use Rattle.path_solver.proofs.Headed.{headed_or_not}
use Rattle.path_solver.proofs.Limiting.{exactly_through}
use Rattle.path_solver.proofs.AlongEdges.{grows, fee_is, entry_reached}
use Rattle.path_solver.proofs.AlongEdges.Grows.{backward, entering, exceeding}
use Rattle.path_solver.proofs.Structure as structure

-- exactly the flagged nodes are listed, each with the value less its distance
pub record AreExactlyLeft (flags : List Bool) (value : ℕ) (dist : ℕ → ℕ) (nodes : List (ℕ × ℤ)) : Type 0 where
  pub each : (u : ℕ) → IsFlagged flags u → potential nodes u ≡ Some (pos value -ℤ pos (dist u))
  pub others : (u : ℕ) → (IsFlagged flags u → ⊥) → potential nodes u ≡ None

not_held : (ms : List ℕ) (u : ℕ) → (Contains ms u → ⊥) → holds ms u ≡ false
not_held ms u out = false_from_ne_true (holds ms u) (λ has. out (contains_from_holds ms u has))

module _ (g : Digraph) (loops : List NaturalLoop) (flags : List Bool) (p : TopologicalOrder) (h : IsProblem g loops flags p) (costs bounds loads iteration_costs : List ℕ) (b : length bounds ≡ length loops) (l : length loads ≡ length loops) (fees dist : ℕ → ℕ)
    (m : AreExact p loops costs bounds loads iteration_costs fees dist) (value : ℕ) (nodes : List (ℕ × ℤ)) (left : AreExactlyLeft flags value dist nodes) where
  abbrev section : Certified
  section = record { nodes = nodes; loops = certified loops iteration_costs }

  abbrev priced_loops : List PricedLoop
  priced_loops = prices loops bounds loads b l iteration_costs m.long

  abbrev price : NaturalLoop → ℕ → PricedLoop
  price k i = price_at loops bounds loads b l iteration_costs m.long k i

  headed : (i : ℕ) (k : NaturalLoop) (v : ℕ) → IsEntryAt loops i k → k.header ≡ v → headed_by v priced_loops ≡ Some (price k i)
  headed i k v at same =
      let P : ℕ → Type 0 = λ z. headed_by z priced_loops ≡ Some (price k i) in
      subst P same (headed_at loops bounds loads b l iteration_costs m.long h.nest.rising i k at)

  headed_not : (v : ℕ) → NoLoopHas loops v → headed_by v priced_loops ≡ None
  headed_not = headed_none loops bounds loads b l iteration_costs m.long

  fee_of : (i : ℕ) (k : NaturalLoop) (v : ℕ) → IsEntryAt loops i k → k.header ≡ v → IsFlagged flags v → fees v ≡ get_or bounds i 0 * get_or iteration_costs i 0 + get_or loads i 0
  fee_of i k v at same flag =
      let P : ℕ → Type 0 = λ z. IsFlagged flags z → fees z ≡ get_or bounds i 0 * get_or iteration_costs i 0 + get_or loads i 0 in
      subst P same (fee_is g loops flags p h costs bounds loads iteration_costs fees dist m i k at) flag

  descends : (u v : ℕ) → Edge g u v → IsFlagged flags v → Descends (headed_by v priced_loops) (get_or costs u 0) u (pos value -ℤ pos (dist u)) (pos value -ℤ pos (dist v))
  descends u v e flag =
      let cost = get_or costs u 0 in
      let x = pos value -ℤ pos (dist u) in
      let y = pos value -ℤ pos (dist v) in
      let P : Option PricedLoop → Type 0 = λ o. Descends o cost u x y in
      elim (grows g loops flags p h costs bounds loads iteration_costs fees dist m u v e flag) [
        | backward i k at same inside on ↦
            let Q : Bool → Type 0 = λ z. DescendsTo z (price k i) cost x y in
            subst P (sym (headed i k v at same)) (subst Q (sym (holds_from_contains k.members u inside)) (omega (arith, ints)))
        | entering i k at same outside on ↦
            let Q : Bool → Type 0 = λ z. DescendsTo z (price k i) cost x y in
            let is = fee_of i k v at same flag in
            subst P (sym (headed i k v at same)) (subst Q (sym (not_held k.members u outside)) (omega (arith, ints)))
        | exceeding none on ↦ subst P (sym (headed_not v none)) (omega (arith, ints))
      ]

  pub edges_hold : EdgesHold g costs section priced_loops
  edges_hold u v e =
      let P : (t : Bool) → Type 0 = λ t. get_or flags v false ≡ t → EdgeHolds costs section priced_loops u v in
      let go : (t : Bool) → P t =
      elim [
        | true ↦ λ flag.
            let Q : Option ℤ → Type 0 = λ z. DescendsFrom (headed_by v priced_loops) (get_or costs u 0) u (potential nodes u) z in
            let R : Option ℤ → Type 0 = λ z. DescendsFrom (headed_by v priced_loops) (get_or costs u 0) u z (Some (pos value -ℤ pos (dist v))) in
            subst Q (sym (left.each v flag)) (subst R (sym (left.each u (structure.listed_source g loops flags p h u v e flag))) (descends u v e flag))
        | false ↦ λ no'.
            let Q : Option ℤ → Type 0 = λ z. DescendsFrom (headed_by v priced_loops) (get_or costs u 0) u (potential nodes u) z in
            subst Q (sym (left.others v (λ yes'. false≢true (sym no' ∙ yes')))) tt
      ]
      in
      go (get_or flags v false) refl

  pub exits_hold : IsMost (exactly_through costs dist) g.exits value → ExitsHold g costs section
  exits_hold most u exit =
      let flag = structure.listed_exit g loops flags p h u exit in
      let P : Option ℤ → Type 0 = λ z. CoversCost (get_or costs u 0) z in
      let above = most.above u exit in
      let near : get_or costs u 0 + dist u ≤ value = omega arith in
      subst P (sym (left.each u flag)) (omega (arith, ints))

  entry_pays : IsFlagged flags 0 → headed_fee (headed_by 0 priced_loops) ≡ dist 0
  entry_pays flag =
      let P : Option PricedLoop → Type 0 = λ o. headed_fee o ≡ dist 0 in
      let reached = entry_reached g loops flags p h costs bounds loads iteration_costs fees dist m flag in
      elim (headed_or_not loops 0) [
        | inl r ↦ let is = fee_of r.0 r.1 0 r.2 r.3 flag in subst P (sym (headed r.0 r.1 0 r.2 r.3)) (omega arith)
        | inr none ↦ let free = m.others 0 none in subst P (sym (headed_not 0 none)) (omega arith)
      ]

  starts : IsFlagged flags 0 → ((pos value -ℤ pos (dist 0)) +ℤ pos (entry_fee priced_loops 0)) ≡ pos value
  starts flag = let pays = entry_pays flag in omega (arith, ints)

  pub starts_with : IsFlagged flags 0 → start_value section priced_loops ≡ Some (pos value)
  starts_with flag =
      let P : Option ℤ → Type 0 = λ z. with_fee z (entry_fee priced_loops 0) ≡ Some (pos value) in
      subst P (sym (left.each 0 flag)) (ap Some (starts flag))
