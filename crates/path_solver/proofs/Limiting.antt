-- The measures of a graph are the exact numbers, up to the limit.
use Rattle.std.proofs.Common.{◌≡◌, ◌≢◌, ℕ, zero, suc, ◌+◌, ◌*◌, ◌^◌, ◌≤◌, Bool, List, get_or, Contains, sym, ap, ◌∙◌, subst, inl, inr, arith}
use Rattle.std.proofs.lemmas.Bool.{cases_eq, cases_lt}
use Rattle.lists.specs.Members.{has_or_not, nil_contains}
use Rattle.loop_nest.specs.Digraph.{Digraph}
use Rattle.loop_nest.specs.Nest.{NaturalLoop}
use Rattle.section_check.specs.Placing.{IsEntryAt}
use Rattle.path_solver.specs.declared.topology.TopologicalOrder.{TopologicalOrder}
use Rattle.path_solver.specs.Reaching.{IsFlagged}
use Rattle.path_solver.specs.Distances.{limited, IsMost, cost_through, sources_at, IsReachedBy}
use Rattle.path_solver.specs.LoopCosts.{HasLoopCosts}
use Rattle.path_solver.specs.Problem.{IsMeasured}
use Rattle.path_solver.proofs.Exact.{IsExactlyReached, HasExactCosts, AreExact}
use Rattle.path_solver.proofs.Headed.{headed_or_not}
use Rattle.path_solver.proofs.Structure as structure

abbrev pub exactly_through : List ℕ → (ℕ → ℕ) → ℕ → ℕ
exactly_through costs dist q = get_or costs q 0 + dist q

-- the greatest of limited numbers is the greatest of the numbers, limited
pub most_limited : (f g : ℕ → ℕ) (us : List ℕ) (a b : ℕ) → IsMost f us a → IsMost g us b → ((u : ℕ) → Contains us u → f u ≡ limited (g u)) → a ≡ limited b
most_limited f g us a b m n same =
    elim m.attained [
      | inl none ↦
          elim n.attained [
            | inl none' ↦ let x = none.1 in let y = none'.1 in omega arith
            | inr some ↦ let P : List ℕ → Type 0 = λ zs. Contains zs some.0 in absurd (nil_contains some.0 (subst P none.0 some.1))
          ]
      | inr some ↦
          elim n.attained [
            | inl none ↦ let P : List ℕ → Type 0 = λ zs. Contains zs some.0 in absurd (nil_contains some.0 (subst P none.0 some.1))
            | inr some' ↦
                let at_most = n.above some.0 some.1 in
                let at_least = m.above some'.0 some'.1 in
                let here = same some.0 some.1 in
                let there = same some'.0 some'.1 in
                let x = some.2 in
                let y = some'.2 in
                omega arith
          ]
    ]

pub through_limited : (cost d e : ℕ) → d ≡ limited e → limited (cost + d) ≡ limited (cost + e)
through_limited cost d e same = omega arith

sum_limited : (a b f g d e : ℕ) → a ≡ limited b → f ≡ limited g → d ≡ limited (a + f) → e ≡ b + g → d ≡ limited e
sum_limited a b f g d e arriving fee is is' = omega arith

-- a distance is limited where those before it are, and the fee
pub reached_limited : (src : ℕ → List ℕ) (costs fees dist : List ℕ) (fees' dist' : ℕ → ℕ) (u : ℕ) → IsReachedBy src costs fees dist u → IsExactlyReached src costs fees' dist' u
    → ((q : ℕ) → Contains (src u) q → get_or dist q 0 ≡ limited (dist' q)) → get_or fees u 0 ≡ limited (fees' u) → get_or dist u 0 ≡ limited (dist' u)
reached_limited src costs fees dist fees' dist' u r x before fee =
    let arriving =
    most_limited (cost_through costs dist) (exactly_through costs dist') (src u) r.arriving x.arriving r.most x.most (λ q has. through_limited (get_or costs q 0) (get_or dist q 0) (dist' q) (before q has))
    in
    sum_limited r.arriving x.arriving (get_or fees u 0) (fees' u) (get_or dist u 0) (dist' u) arriving fee r.is x.is

-- a fee is limited where its iteration cost is
fee_limited : (bound load w x fee fee' : ℕ) → w ≡ limited x → fee ≡ limited (bound * w + load) → fee' ≡ bound * x + load → fee ≡ limited fee'
fee_limited bound load w x fee fee' same is is' =
    elim (cases_lt x (2 ^ 66)) [
      | inl small ↦
          let e : w ≡ x = omega arith in
          let product = ap (λ (n : ℕ). bound * n) e in
          omega arith
      | inr large ↦ beyond bound load w x fee fee' (omega arith) large is is'
    ]
  where
    beyond : (bound load w x fee fee' : ℕ) → w ≡ 2 ^ 66 → 2 ^ 66 ≤ x → fee ≡ limited (bound * w + load) → fee' ≡ bound * x + load → fee ≡ limited fee'
    beyond zero load w x fee fee' top large is is' = omega arith
    beyond (suc b) load w x fee fee' top large is is' =
        let a : suc b * w ≡ b * w + w = omega arith in
        let c : suc b * x ≡ b * x + x = omega arith in
        omega arith

module _ (g : Digraph) (loops : List NaturalLoop) (flags : List Bool) (p : TopologicalOrder) (costs bounds loads iteration_costs fees dist exact_costs : List ℕ) (exact_fees exact_dist : ℕ → ℕ) (m : IsMeasured g loops flags p costs bounds loads iteration_costs fees dist)
    (x : AreExact p loops costs bounds loads exact_costs exact_fees exact_dist) where
  abbrev src : ℕ → List ℕ
  src = sources_at p.forward

  -- the iteration cost and the fee of loop i, which is l
  abbrev AreStood : NaturalLoop → Type 0
  AreStood l = (i : ℕ) → IsEntryAt loops i l → IsFlagged flags l.header → (get_or iteration_costs i 0 ≡ limited (get_or exact_costs i 0)) × (get_or fees l.header 0 ≡ limited (exact_fees l.header))

  -- a node's fee, where that of the loop is known that it heads
  fee_of : (u : ℕ) → IsFlagged flags u → ((l : NaturalLoop) → Contains loops l → l.header ≡ u → AreStood l) → get_or fees u 0 ≡ limited (exact_fees u)
  fee_of u flag known =
      let P : ℕ → Type 0 = λ z. IsFlagged flags z in
      let Q : ℕ → Type 0 = λ z. get_or fees z 0 ≡ limited (exact_fees z) in
      elim (headed_or_not loops u) [
        | inl r ↦ subst Q r.3 (known r.1 (r.0, r.2.0, r.2.1) r.3 r.0 r.2 (subst P (sym r.3) flag)).1
        | inr none ↦ let a = m.loop_costs.others u none in let b = x.others u none in omega arith
      ]

  module _ (l : NaturalLoop) (among : Contains loops l) (inner : (k : NaturalLoop) → Contains loops k → Contains l.members k.header → k.header ≢ l.header → AreStood k) (i : ℕ) (at : IsEntryAt loops i l) (flag : IsFlagged flags l.header)
      (turned : HasLoopCosts p l i costs bounds loads iteration_costs fees) (exactly : HasExactCosts p l i costs bounds loads exact_costs exact_fees) where
    abbrev IsInside : ℕ → Type 0
    IsInside u = Contains l.members u → get_or turned.dist u 0 ≡ limited (exactly.dist u)

    inside : (u : ℕ) → IsFlagged flags u → IsInside u
    inside =
        structure.onward g loops flags p m.setting IsInside
        (λ u flag' before has.
        let Q : ℕ → Type 0 = λ z. get_or turned.dist z 0 ≡ limited (exactly.dist z) in
        elim (cases_eq u l.header) [
          | inl same ↦ let a = turned.iteration_cost.start in let b = exactly.start in subst Q (sym same) (omega arith)
          | inr other ↦
              let R : ℕ → Type 0 = λ z. Contains l.members z in
              reached_limited src costs fees turned.dist exact_fees exactly.dist u (turned.iteration_cost.each u has other) (exactly.each u has other)
              (λ q edge.
              before q edge (elim (has_or_not l.members q) [
                | inl in' ↦ in'
                | inr out ↦ absurd (other (structure.entered_at_header g loops flags p m.setting l q u among (structure.forward_edge g loops flags p m.setting q u edge).0 has out))
              ]))
              (fee_of u flag' (λ k among' same. inner k among' (subst R (sym same) has) (λ e. other (sym same ∙ e))))
        ])

    stood : (get_or iteration_costs i 0 ≡ limited (get_or exact_costs i 0)) × (get_or fees l.header 0 ≡ limited (exact_fees l.header))
    stood =
        let w =
        most_limited (cost_through costs turned.dist) (exactly_through costs exactly.dist) (sources_at p.back l.header) (get_or iteration_costs i 0) (get_or exact_costs i 0) turned.iteration_cost.most exactly.most
        (λ q edge.
        let b = structure.back_edge g loops flags p m.setting q l.header edge in
        let P : NaturalLoop → Type 0 = λ z. Contains z.members q in
        let has : Contains l.members q = subst P (structure.header_decides g loops flags p m.setting l b.3.0 among b.3.1 b.3.2) b.3.3 in
        through_limited (get_or costs q 0) (get_or turned.dist q 0) (exactly.dist q) (inside q b.1 has))
        in
        (w, fee_limited (get_or bounds i 0) (get_or loads i 0) (get_or iteration_costs i 0) (get_or exact_costs i 0) (get_or fees l.header 0) (exact_fees l.header) w turned.fee exactly.fee)

  all_stood : (l : NaturalLoop) → Contains loops l → AreStood l
  all_stood =
      structure.inward g loops flags p m.setting AreStood
      (λ l among inner i at flag.
      let listed = structure.in_order g loops flags p m.setting l.header flag in
      stood l among inner i at flag (m.loop_costs.each i l at listed) (x.loop_costs i l at listed))

  fee_all : (u : ℕ) → IsFlagged flags u → get_or fees u 0 ≡ limited (exact_fees u)
  fee_all u flag = fee_of u flag (λ l among same. all_stood l among)

  pub costs_limited : (i : ℕ) (l : NaturalLoop) → IsEntryAt loops i l → get_or iteration_costs i 0 ≡ limited (get_or exact_costs i 0)
  costs_limited i l at =
      elim (has_or_not p.order.items l.header) [
        | inl listed ↦ (all_stood l (i, at.0, at.1) i at (structure.from_order g loops flags p m.setting l.header listed)).0
        | inr out ↦ let a = m.loop_costs.dropped i l at out in let b = x.dropped i l at out in omega arith
      ]

  pub dist_limited : (u : ℕ) → IsFlagged flags u → get_or dist u 0 ≡ limited (exact_dist u)
  dist_limited =
      structure.onward g loops flags p m.setting (λ u. get_or dist u 0 ≡ limited (exact_dist u))
      (λ u flag before. reached_limited src costs fees dist exact_fees exact_dist u (m.each u flag) (x.each u (structure.in_order g loops flags p m.setting u flag)) before (fee_all u flag))
