-- How exact distances grow along the edges between listed nodes.
use Rattle.std.proofs.Common.{◌≡◌, ℕ, ◌+◌, ◌*◌, ◌≤◌, Bool, List, get_or, Contains, refl, sym, ap, ◌∙◌, subst, inl, inr, arith}
use Rattle.std.proofs.lemmas.Bool.{cases_eq}
use Rattle.lists.specs.Members.{has_or_not}
use Rattle.loop_nest.specs.Digraph.{Digraph, Edge}
use Rattle.loop_nest.specs.Nest.{NaturalLoop}
use Rattle.section_check.specs.Placing.{IsEntryAt}
use Rattle.path_solver.specs.declared.topology.TopologicalOrder.{TopologicalOrder}
use Rattle.path_solver.specs.Reaching.{IsFlagged}
use Rattle.path_solver.specs.Ordering.{NoLoopHas}
use Rattle.path_solver.specs.Problem.{IsProblem}
use Rattle.path_solver.proofs.Exact.{IsExactlyReached, HasExactCosts, AreExact}
use Rattle.path_solver.proofs.Headed.{headed_or_not}
use Rattle.path_solver.proofs.Structure as structure

-- distances D within a loop and d from the entry grow alike: where D's sources are behind by no more than x, so is its target
alike : (sources : ℕ → List ℕ) (costs : List ℕ) (fees d D : ℕ → ℕ) (u x : ℕ) → IsExactlyReached sources costs fees d u → IsExactlyReached sources costs fees D u → ((q : ℕ) → Contains (sources u) q → d q ≤ x + D q) → d u ≤ x + D u
alike sources costs fees d D u x h t behind =
    let is = h.is in
    let is' = t.is in
    elim h.most.attained [
      | inl none ↦ let zero' = none.1 in omega arith
      | inr some ↦
          let q = some.0 in
          let near = behind q some.1 in
          let most = some.2 in
          let above = t.most.above q some.1 in
          omega arith
    ]

-- how the distance grows along an edge from u to v: back to the header of a loop that has u, into a loop, or to no header
pub data Grows (loops : List NaturalLoop) (costs iteration_costs : List ℕ) (fees dist : ℕ → ℕ) (u v : ℕ) : Type 0 where
  backward : (i : ℕ) (l : NaturalLoop) → IsEntryAt loops i l → l.header ≡ v → Contains l.members u → get_or costs u 0 + dist u ≤ dist v + get_or iteration_costs i 0 → Grows loops costs iteration_costs fees dist u v
  entering : (i : ℕ) (l : NaturalLoop) → IsEntryAt loops i l → l.header ≡ v → (Contains l.members u → ⊥) → get_or costs u 0 + dist u + fees v ≤ dist v → Grows loops costs iteration_costs fees dist u v
  exceeding : NoLoopHas loops v → get_or costs u 0 + dist u + fees v ≤ dist v → Grows loops costs iteration_costs fees dist u v

module _ (g : Digraph) (loops : List NaturalLoop) (flags : List Bool) (p : TopologicalOrder) (h : IsProblem g loops flags p) (costs bounds loads iteration_costs : List ℕ) (fees dist : ℕ → ℕ) (m : AreExact p loops costs bounds loads iteration_costs fees dist) where
  -- along an edge that closes no loop the cost of its source is paid, and the fee of its target
  along_forward : (u v : ℕ) → Contains (structure.forward g loops flags p h v) u → get_or costs u 0 + dist u + fees v ≤ dist v
  along_forward u v has =
      let r = m.each v (structure.in_order g loops flags p h v (structure.forward_edge g loops flags p h u v has).2) in
      let is = r.is in
      let above = r.most.above u has in
      omega arith

  pub turned : (i : ℕ) (l : NaturalLoop) → IsEntryAt loops i l → IsFlagged flags l.header → HasExactCosts p l i costs bounds loads iteration_costs fees
  turned i l at flag = m.loop_costs i l at (structure.in_order g loops flags p h l.header flag)

  -- a member of a loop is no farther than its header and the way from there
  within_loop : (i : ℕ) (l : NaturalLoop) → IsEntryAt loops i l → (t : HasExactCosts p l i costs bounds loads iteration_costs fees) → (u : ℕ) → IsFlagged flags u → Contains l.members u → dist u ≤ dist l.header + t.dist u
  within_loop i l at t =
      let P : ℕ → Type 0 = λ u. Contains l.members u → dist u ≤ dist l.header + t.dist u in
      structure.onward g loops flags p h P (λ u flag before inside.
      elim (cases_eq u l.header) [
        | inl same ↦ let e = ap (λ (z : ℕ). dist z) same in omega arith
        | inr other ↦
            alike (structure.forward g loops flags p h) costs fees dist t.dist u (dist l.header) (m.each u (structure.in_order g loops flags p h u flag)) (t.each u inside other) (λ q has.
            let edge = (structure.forward_edge g loops flags p h q u has).0 in
            before q has (elim (has_or_not l.members q) [
              | inl in' ↦ in'
              | inr out ↦ absurd (other (structure.entered_at_header g loops flags p h l q u (i, at.0, at.1) edge inside out))
            ]))
      ])

  -- along an edge that closes a loop the cost of its source is paid, but for an iteration of the loop
  along_back : (i : ℕ) (l : NaturalLoop) (u : ℕ) → IsEntryAt loops i l → IsFlagged flags l.header → Edge g u l.header → Contains l.members u → get_or costs u 0 + dist u ≤ dist l.header + get_or iteration_costs i 0
  along_back i l u at flag edge inside =
      let t = turned i l at flag in
      let in_loops : Contains loops l = (i, at.0, at.1) in
      let near = within_loop i l at t u (structure.listed_source g loops flags p h u l.header edge flag) inside in
      let above = t.most.above u (structure.is_back g loops flags p h u l.header l edge flag in_loops refl inside) in
      omega arith

  -- the fee of a header is all its iterations, and the load
  pub fee_is : (i : ℕ) (l : NaturalLoop) → IsEntryAt loops i l → IsFlagged flags l.header → fees l.header ≡ get_or bounds i 0 * get_or iteration_costs i 0 + get_or loads i 0
  fee_is i l at flag = (turned i l at flag).fee

  -- the entry is reached by its fee alone
  pub entry_reached : IsFlagged flags 0 → dist 0 ≡ fees 0
  entry_reached flag =
      let r = m.each 0 (structure.in_order g loops flags p h 0 flag) in
      let is = r.is in
      elim r.most.attained [
        | inl none ↦ let zero' = none.1 in omega arith
        | inr some ↦ absurd (structure.entry_not_arrived_at g loops flags p h some.0 some.1)
      ]

  pub grows : (u v : ℕ) → Edge g u v → IsFlagged flags v → Grows loops costs iteration_costs fees dist u v
  grows u v edge flag =
      elim (headed_or_not loops v) [
        | inl r ↦
            let i = r.0 in
            let l = r.1 in
            let at = r.2 in
            let same = r.3 in
            elim (has_or_not l.members u) [
              | inl inside ↦
                  let P : ℕ → Type 0 = λ z. IsFlagged flags z in
                  let Q : ℕ → Type 0 = λ z. Edge g u z in
                  let R : ℕ → Type 0 = λ z. get_or costs u 0 + dist u ≤ dist z + get_or iteration_costs i 0 in
                  backward i l at same inside (subst R same (along_back i l u at (subst P (sym same) flag) (subst Q (sym same) edge) inside))
              | inr outside ↦
                  let on : structure.GoesOn g loops flags p h u v = λ k has heads inside.
                  let is = structure.header_decides g loops flags p h l k (i, at.0, at.1) has (heads ∙ sym same) in
                  let P : NaturalLoop → Type 0 = λ z. Contains z.members u in
                  outside (subst P is inside)
                  in
                  entering i l at same outside (along_forward u v (structure.is_forward g loops flags p h u v edge flag on))
            ]
        | inr none ↦
            let on : structure.GoesOn g loops flags p h u v = λ k has heads inside. none has.0 k (has.1, has.2) heads in
            exceeding none (along_forward u v (structure.is_forward g loops flags p h u v edge flag on))
      ]
