-- A greatest walk of a method that was prepared, by the counts that are found.
use Rattle.std.proofs.Common.{◌≡◌, ℕ, ◌^◌, ◌<◌, List, length, refl, ap, ◌∙◌, subst, inl, inr, arith}
use Rattle.std.specs.Prelude.{slice_index}
use Rattle.std.proofs.lemmas.Bool.{cases_lt}
use Rattle.std.proofs.lemmas.List.{length-map}
use Rattle.section_check.specs.Bounded.{IsGreatest}
use Rattle.path_solver.specs.Longest.{bounded_loops, WalkExceeds}
use Rattle.path_solver.specs.Reaching.{ReachesExit}
use Rattle.path_solver.specs.Regions.{charged}
use Rattle.bound_rules.specs.declared.faults.BoundRefusal.{BoundRefusal}
use Rattle.compact_walks.specs.Limited.{cycles_limit, picked, ArePicked, SomeExceeds}
use Rattle.bound_report.specs.declared.visits.WalkCounts.{WalkCounts}
use Rattle.bound_report.specs.Visits.Counts.{AreCounts}
use Rattle.bound_finder.specs.declared.prepared.Prepared.{Prepared}
use Rattle.bound_finder.specs.Prepared.{IsInShape}
use Rattle.bound_finder.specs.Found.IsLargeBy.{node, walk}
use Rattle.bound_report.specs.Walks.{AreWalkCounts, IsNotWalked}
use Rattle.bound_report.proofs.OfWalks.{charged_long}

module _ (p : Prepared) (shape : IsInShape p) (costs fees bounds : List ℕ) (are : ArePicked p.shape.nodes p.costs.items costs) (paid : fees ≡ charged p.charges.loads.items p.charges.flags.items) (given : bounds ≡ p.bounds.items) where
  pub costs_long : length costs ≡ p.shape.graph.nodes
  costs_long = ap length are.are ∙ (length-map p.shape.nodes (λ (x : ℕ). slice_index p.costs.items x) ∙ shape.shape.1.long)

  pub fees_long : length fees ≡ length p.shape.nest
  fees_long = let flags = shape.flags in let loads = shape.loads in ap length paid ∙ (charged_long p.charges.loads.items p.charges.flags.items (omega arith) ∙ loads)

  pub bounds_long : length bounds ≡ length p.shape.nest
  bounds_long = ap length given ∙ shape.bounds

  pub walk_counted : (w : WalkCounts) → IsGreatest p.shape.graph costs (bounded_loops p.shape.nest bounds fees) w.value
      → AreCounts p.shape.graph costs (bounded_loops p.shape.nest bounds fees) w.value w.visits.items w.entered.items → (WalkExceeds p.shape.graph costs (bounded_loops p.shape.nest bounds fees) → ⊥) → AreWalkCounts p w
  walk_counted w greatest counts fits = record { small = are.small; greatest = there (λ xs bs fs. IsGreatest p.shape.graph xs (bounded_loops p.shape.nest bs fs) w.value) greatest; below = below; counts = there (λ xs bs fs. AreCounts p.shape.graph xs (bounded_loops p.shape.nest bs fs) w.value w.visits.items w.entered.items) counts }
    where
      there : (K : List ℕ → List ℕ → List ℕ → Type 0) → K costs bounds fees → K (picked p.shape.nodes p.costs.items) p.bounds.items (charged p.charges.loads.items p.charges.flags.items)
      there K k =
          subst (λ (xs : List ℕ). K xs p.bounds.items (charged p.charges.loads.items p.charges.flags.items)) are.are
          (subst (λ (xs : List ℕ). K costs xs (charged p.charges.loads.items p.charges.flags.items)) given (subst (λ (xs : List ℕ). K costs bounds xs) paid k))

      below : w.value < cycles_limit
      below =
          elim (cases_lt w.value (2 ^ 64)) [
            | inl less ↦ less
            | inr more ↦ absurd (fits (record { walk = greatest.walk; bounded = greatest.bounded; exceeds = (let same = greatest.attained in omega arith) }))
          ]

  pub walk_too_large : (fault : BoundRefusal) → WalkExceeds p.shape.graph costs (bounded_loops p.shape.nest bounds fees) → IsNotWalked p fault
  walk_too_large fault w =
      let K : List ℕ → List ℕ → List ℕ → Type 0 = λ xs bs fs. WalkExceeds p.shape.graph xs (bounded_loops p.shape.nest bs fs) in
      inr (inr (walk are.small
      (subst (λ (xs : List ℕ). K xs p.bounds.items (charged p.charges.loads.items p.charges.flags.items)) are.are
      (subst (λ (xs : List ℕ). K costs xs (charged p.charges.loads.items p.charges.flags.items)) given (subst (λ (xs : List ℕ). K costs bounds xs) paid w))) refl))

  pub walk_never_ends : (fault : BoundRefusal) → (ReachesExit p.shape.graph 0 → ⊥) → IsNotWalked p fault
  walk_never_ends fault never = inr (inl (are.small, never))

pub node_too_large : (p : Prepared) (fault : BoundRefusal) → SomeExceeds p.shape.nodes p.costs.items → IsNotWalked p fault
node_too_large p fault e = inr (inr (node e refl))
