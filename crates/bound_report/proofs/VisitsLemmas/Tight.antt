-- Where a distance comes from: the nodes before it.
use Rattle.std.proofs.Common.{◌≡◌, ℕ, ◌+◌, ◌^◌, ◌<◌, List, get_or, Contains, sym, ap, ◌∙◌, subst, arith, inl, inr}
use Rattle.std.proofs.lemmas.Bool.{cases_eq}
use Rattle.lists.specs.Members.{nil_contains, has_or_not}
use Rattle.loop_nest.specs.Nest.{NaturalLoop}
use Rattle.path_solver.specs.Distances.{limited, IsMost, cost_through, sources_at}
use Rattle.path_solver.specs.Iteration.{IsIterationCost}
use Rattle.path_solver.specs.Reaching.{IsFlagged}
use Rattle.path_solver.proofs.Structure as structure
use Rattle.bound_report.specs.declared.visits.problem.Problem.{Problem}
use Rattle.bound_report.specs.Visits.Paths.{IsPosed, cost_of_node, fee_of, sources, IsReachedInside}

-- the greatest number is one of them, where there is a node
pub attained : (f : ℕ → ℕ) (us : List ℕ) (most u : ℕ) → IsMost f us most → Contains us u → (q : ℕ) × Contains us q × (f q ≡ most)
attained f us most u m has = elim m.attained [
  | inl none ↦ absurd (nil_contains u (let P : List ℕ → Type 0 = λ zs. Contains zs u in subst P none.0 has))
  | inr some ↦ some
]

-- numbers below the limit are exact
exact_sum : (c d arriving fee here : ℕ) → limited (c + d) ≡ arriving → here ≡ limited (arriving + fee) → here < 2 ^ 65 → c + d + fee ≡ here
exact_sum c d arriving fee here a b few = omega arith

exact_end : (c d most : ℕ) → limited (c + d) ≡ most → most < 2 ^ 64 → c + d ≡ most
exact_end c d most a few = omega arith

-- a node before another
pub tight_before : (q : Problem) (dist inside : List ℕ) (u : ℕ) → IsReachedInside q dist inside u → get_or dist u 0 < 2 ^ 65
    → (p : ℕ) × Contains (sources q u) p × (cost_of_node q p + get_or dist p 0 + fee_of q u ≡ get_or dist u 0)
tight_before q dist inside u r few =
    let best = attained (cost_through q.costs.now dist) (sources q u) r.by.arriving r.source r.by.most r.is_source in
    (best.0, best.1, exact_sum (cost_of_node q best.0) (get_or dist best.0 0) r.by.arriving (fee_of q u) (get_or dist u 0) best.2 r.by.is few)

-- an end of the greatest cost
pub tight_end : (costs dist ends : List ℕ) (most e : ℕ) → IsMost (cost_through costs dist) ends most → Contains ends e → most < 2 ^ 64 → (p : ℕ) × Contains ends p × (get_or costs p 0 + get_or dist p 0 ≡ most)
tight_end costs dist ends most e m has few =
    let best = attained (cost_through costs dist) ends most e m has in
    (best.0, best.1, exact_end (get_or costs best.0 0) (get_or dist best.0 0) most best.2 few)

-- ---- what an iteration costs is told once

one_most : (f h : ℕ → ℕ) (us : List ℕ) (a b : ℕ) → ((u : ℕ) → Contains us u → f u ≡ h u) → IsMost f us a → IsMost h us b → a ≡ b
one_most f h us a b same x y =
    elim x.attained [
      | inl none ↦ elim y.attained [
        | inl none' ↦ none.1 ∙ sym none'.1
        | inr some ↦ absurd (nil_contains some.0 (let P : List ℕ → Type 0 = λ zs. Contains zs some.0 in subst P none.0 some.1))
      ]
      | inr some ↦ elim y.attained [
        | inl none ↦ absurd (nil_contains some.0 (let P : List ℕ → Type 0 = λ zs. Contains zs some.0 in subst P none.0 some.1))
        | inr some' ↦
            let below = y.above some.0 some.1 in
            let above = x.above some'.0 some'.1 in
            let one = same some.0 some.1 in
            let two = same some'.0 some'.1 in
            let at = some.2 in
            let at' = some'.2 in
            omega arith
      ]
    ]

module _ (q : Problem) (posed : IsPosed q) (l : NaturalLoop) (among : Contains q.nest.now l) (listed : IsFlagged q.found.now.listed.items l.header) (dist dist' : List ℕ) (cost cost' : ℕ)
    (x : IsIterationCost q.found.now.topology l.members l.header q.costs.now q.found.now.fees.items dist cost) (y : IsIterationCost q.found.now.topology l.members l.header q.costs.now q.found.now.fees.items dist' cost') where
  abbrev Same : ℕ → Type 0
  Same u = Contains l.members u → get_or dist u 0 ≡ get_or dist' u 0

  same_step : (u : ℕ) → IsFlagged q.found.now.listed.items u → ((p : ℕ) → Contains (sources q u) p → Same p) → Same u
  same_step u flag before inside = elim (cases_eq u l.header) [
    | inl same ↦ ap (λ (z : ℕ). get_or dist z 0) same ∙ (x.start ∙ (sym y.start ∙ sym (ap (λ (z : ℕ). get_or dist' z 0) same)))
    | inr other ↦
        let a = x.each u inside other in
        let b = y.each u inside other in
        let s = posed.measured.setting in
        let source_in : (p : ℕ) → Contains (sources q u) p → Contains l.members p = λ p has. elim (has_or_not l.members p) [
          | inl there ↦ there
          | inr out ↦
              absurd (other (structure.entered_at_header q.g.now q.nest.now q.found.now.listed.items q.found.now.topology s l p u among
              (structure.forward_edge q.g.now q.nest.now q.found.now.listed.items q.found.now.topology s p u has).0 inside out))
        ] in
        let arriving : a.arriving ≡ b.arriving =
        one_most (cost_through q.costs.now dist) (cost_through q.costs.now dist') (sources q u) a.arriving b.arriving
        (λ p has. ap (λ (d : ℕ). limited (cost_of_node q p + d)) (before p has (source_in p has))) a.most b.most in
        a.is ∙ (ap (λ (n : ℕ). limited (n + fee_of q u)) arriving ∙ sym b.is)
  ]

  same_dist : (u : ℕ) → IsFlagged q.found.now.listed.items u → Same u
  same_dist = structure.onward q.g.now q.nest.now q.found.now.listed.items q.found.now.topology posed.measured.setting Same same_step

  pub one_cost : cost ≡ cost'
  one_cost =
      let s = posed.measured.setting in
      one_most (cost_through q.costs.now dist) (cost_through q.costs.now dist') (sources_at q.found.now.topology.back l.header) cost cost'
      (λ p has.
      let edge = structure.back_edge q.g.now q.nest.now q.found.now.listed.items q.found.now.topology s p l.header has in
      let P : NaturalLoop → Type 0 = λ z. Contains z.members p in
      let inside : Contains l.members p = subst P (structure.header_decides q.g.now q.nest.now q.found.now.listed.items q.found.now.topology s l edge.3.0 among edge.3.1 edge.3.2) edge.3.3 in
      ap (λ (d : ℕ). limited (cost_of_node q p + d)) (same_dist p edge.1 inside)) x.most y.most
