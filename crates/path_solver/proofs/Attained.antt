-- Walks that cost as much as the distances say, and iterations that cost what they cost at most.
use Rattle.std.proofs.Common.{◌≡◌, ◌≢◌, ℕ, ◌+◌, ◌≤◌, Bool, false, eqb, List, [], ◌∷◌, get_or, All, Contains, refl, sym, ap, ◌∙◌, subst, inl, inr, arith, mul-le-mul_left}
use Rattle.std.proofs.lemmas.Bool.{cases_eq, eqb-true}
use Rattle.std.proofs.lemmas.List.Elements.{All-cons, All-nil, All-contains, All-weaker}
use Rattle.lists.specs.Members.{has_or_not, map_contains, nil_contains}
use Rattle.loop_nest.specs.Digraph.{Digraph}
use Rattle.loop_nest.specs.Walks.{Walk, back_edges_to}
use Rattle.loop_nest.specs.Walks.Walk.{stay}
use Rattle.loop_nest.specs.Nest.{NaturalLoop, IsLoopOf, headers_of}
use Rattle.loop_nest.proofs.Elements.{from_map}
use Rattle.path_solver.specs.declared.topology.TopologicalOrder.{TopologicalOrder}
use Rattle.path_solver.specs.Reaching.{IsFlagged}
use Rattle.section_check.specs.Placing.{IsEntryAt}
use Rattle.section_check.specs.Bounded.{BoundedLoop, cost_of, IsKept, IsIteration, cost_of_iteration}
use Rattle.path_solver.specs.Longest.{bounded_loops}
use Rattle.path_solver.specs.Distances.{cost_through}
use Rattle.path_solver.specs.LoopCosts.{HasLoopCosts}
use Rattle.path_solver.proofs.Order.{count_some}
use Rattle.path_solver.proofs.Onward.{back_edge_closes}
use Rattle.path_solver.proofs.Loops.{header_of}
use Rattle.path_solver.specs.Problem.{IsMeasured}
use Rattle.path_solver.proofs.Structure.{own_header, entered_at_header, entry_heads, mutual_same, header_decides, holds_all, forward, back, forward_edge, back_edge, is_back, is_arrived_at, entry_not_arrived_at, in_order, onward, inward}
use Rattle.path_solver.proofs.Correspond.{bounded_at, to_bounded}
use Rattle.path_solver.proofs.Nesting.{contained, loop_of, all_nested}
use Rattle.path_solver.proofs.Keeping.{all_from_contains, kept_one}
use Rattle.path_solver.proofs.Entering.{cost_from, held_at, cost_of_node, cost_as_iteration}
use Rattle.path_solver.proofs.Prolonging.{AreNested, IsFeePaid, GoesOn, Reached, reached_on, started}
use Rattle.path_solver.proofs.Prolonging.IsFeePaid.{nothing, by_iterations}

-- nodes without h take no iteration behind it
no_iteration : (h : ℕ) (ns : List ℕ) → (Contains ns h → ⊥) → back_edges_to h (h ∷ ns) ≡ 0
no_iteration h ns none =
    elim (cases_eq (back_edges_to h (h ∷ ns)) 0) [
      | inl zero' ↦ zero'
      | inr some ↦
          let r = count_some (λ (x : ℕ). eqb x h) ns (omega arith) in
          let P : ℕ → Type 0 = λ z. Contains ns z in
          absurd (none (subst P (eqb-true r.0 h r.2) r.1))
    ]

module _ (g : Digraph) (loops : List NaturalLoop) (flags : List Bool) (p : TopologicalOrder) (costs bounds loads iteration_costs fees dist : List ℕ) (m : IsMeasured g loops flags p costs bounds loads iteration_costs fees dist) where
  abbrev bounded_all : List BoundedLoop
  bounded_all = bounded_loops loops bounds loads

  abbrev place : NaturalLoop → ℕ → BoundedLoop
  place l i = bounded_at loops bounds loads m.bounds_long m.loads_long l i

  abbrev Attains : NaturalLoop → ℕ → Type 0
  Attains l i = (ns : List ℕ) × IsIteration g bounded_all (place l i) ns × (get_or iteration_costs i 0 ≤ cost_of_iteration costs bounded_all ns)

  fee_of_iterations : (Fresh : ℕ → Type 0) (i : ℕ) (l : NaturalLoop) → IsEntryAt loops i l → HasLoopCosts p l i costs bounds loads iteration_costs fees → (t : Attains l i) → All Fresh t.0 → IsFeePaid g costs bounded_all Fresh l.header (get_or fees l.header 0)
  fee_of_iterations Fresh i l at turned t fresh =
      let a = turned.fee in
      let b = mul-le-mul_left (get_or bounds i 0) t.2 in
      by_iterations (place l i) t.0 (contained bounded_all i (place l i) (to_bounded loops bounds loads m.bounds_long m.loads_long i l at)) refl t.1 fresh (omega arith)

  -- a listed node's fee is paid, where the loop that it heads has an iteration
  fee_paid : (Fresh : ℕ → Type 0) (u : ℕ) → IsFlagged flags u → ((i : ℕ) (l : NaturalLoop) → IsEntryAt loops i l → l.header ≡ u → IsFlagged flags l.header → (t : Attains l i) × All Fresh t.0)
      → IsFeePaid g costs bounded_all Fresh u (get_or fees u 0)
  fee_paid Fresh u flag iteration =
      let P : ℕ → Type 0 = λ z. IsFlagged flags z in
      let Q : ℕ → Type 0 = λ z. IsFeePaid g costs bounded_all Fresh z (get_or fees z 0) in
      elim (has_or_not (headers_of loops) u) [
        | inl c ↦
            let r = from_map header_of loops u c in
            let l = r.0 in
            let i = r.1.0 in
            let at : IsEntryAt loops i l = (r.1.1, r.1.2) in
            let flag' : IsFlagged flags l.header = subst P (sym r.2) flag in
            let t = iteration i l at r.2 flag' in
            subst Q r.2 (fee_of_iterations Fresh i l at (m.loop_costs.each i l at (in_order g loops flags p m.setting l.header flag')) t.0 t.1)
        | inr none ↦
            let R : ℕ → Type 0 = λ z. Contains (headers_of loops) z in
            nothing (m.loop_costs.others u (λ k l at same. none (subst R same (map_contains header_of loops l (contained loops k l at)))))
      ]

  -- an edge forward to u leads from no loop that u heads
  goes_on : (q u : ℕ) → Contains (forward g loops flags p m.setting u) q → GoesOn bounded_all q u
  goes_on q u has k among same inside =
      let r = loop_of g loops flags p m.setting bounds loads m.bounds_long m.loads_long k among in
      let P : List ℕ → Type 0 = λ zs. Contains zs q in
      (forward_edge g loops flags p m.setting q u has).3 r.loop r.among (sym r.header ∙ same) (subst P r.members inside)

  abbrev nested_all : AreNested bounded_all
  nested_all = all_nested g loops flags p m.setting bounds loads m.bounds_long m.loads_long

  -- what is reached within a loop from its header
  module _ (i : ℕ) (l : NaturalLoop) (at : IsEntryAt loops i l) (flag : IsFlagged flags l.header) (turned : HasLoopCosts p l i costs bounds loads iteration_costs fees)
      (inner : (k : NaturalLoop) → Contains loops k → Contains l.members k.header → k.header ≢ l.header → (j : ℕ) → IsEntryAt loops j k → IsFlagged flags k.header → Attains k j) where
    abbrev h : ℕ
    h = l.header

    abbrev among : Contains loops l
    among = contained loops i l at

    abbrev IsInner : ℕ → Type 0
    IsInner x = Contains l.members x × (x ≢ h)

    abbrev ReachedIn : ℕ → Type 0
    ReachedIn u = Reached g costs bounded_all nested_all (held_at h) h (h ∷ []) IsInner u (get_or turned.dist u 0 + get_or costs u 0)

    start : ReachedIn h
    start =
        let zero' = turned.iteration_cost.start in
        let own = cost_of_node costs bounded_all (held_at h) h in (
          h ∷ [],
          record { walk = stay; more = []; is = refl; fresh = All-nil IsInner; kept = λ k c. kept_one h k },
          omega arith,
        )

    inner_iteration : (u : ℕ) → IsInner u → (j : ℕ) (k : NaturalLoop) → IsEntryAt loops j k → k.header ≡ u → IsFlagged flags k.header → (t : Attains k j) × All IsInner t.0
    inner_iteration u in' j k at' same flag' =
        let P : ℕ → Type 0 = λ z. Contains l.members z in
        let among' = contained loops j k at' in
        let inside : Contains l.members k.header = subst P (sym same) in'.0 in
        let other : k.header ≢ h = λ e. in'.1 (sym same ∙ e) in
        let t = inner k among' inside other j at' flag' in (
          t,
          all_from_contains IsInner t.0
              (λ x c.
              let member = All-contains (Contains k.members) t.0 x t.1.within c in
              let Q : ℕ → Type 0 = λ z. Contains k.members z in
              (holds_all g loops flags p m.setting k l x among' among inside member, λ e. other (mutual_same g loops flags p m.setting l k among among' inside (subst Q e member)))),
        )

    source_in : (q u : ℕ) → Contains (forward g loops flags p m.setting u) q → IsInner u → Contains l.members q
    source_in q u has in' =
        elim (has_or_not l.members q) [
          | inl inside ↦ inside
          | inr outside ↦ absurd (in'.1 (entered_at_header g loops flags p m.setting l q u among (forward_edge g loops flags p m.setting q u has).0 in'.0 outside))
        ]

    not_entry : (u : ℕ) → IsInner u → u ≢ 0
    not_entry u in' zero' =
        let P : ℕ → Type 0 = λ z. Contains l.members z in
        in'.1 (zero' ∙ sym (entry_heads g loops flags p m.setting l among (subst P zero' in'.0)))

    reached_or_start : (x : ℕ) → (IsInner x → ReachedIn x) → Contains l.members x → ReachedIn x
    reached_or_start x inner_x inside =
        elim (cases_eq x h) [
          | inl same ↦ let P : ℕ → Type 0 = λ z. ReachedIn z in subst P (sym same) start
          | inr other ↦ inner_x (inside, other)
        ]

    reached_in : (u : ℕ) → IsFlagged flags u → IsInner u → ReachedIn u
    reached_in =
        onward g loops flags p m.setting (λ u. IsInner u → ReachedIn u)
        (λ u flag' before in'.
        let source = is_arrived_at g loops flags p m.setting u flag' (not_entry u in') in
        reached_on g costs bounded_all nested_all (held_at h) h (h ∷ []) IsInner (forward g loops flags p m.setting) fees turned.dist u source.0 (turned.iteration_cost.each u in'.0 in'.1) source.1
        (λ x c. reached_or_start x (before x c) (source_in x u c in')) (λ x c. (forward_edge g loops flags p m.setting x u c).0) (λ x c. goes_on x u c) in'
        (fee_paid IsInner u flag' (inner_iteration u in')))

    -- some edge closes a loop to the header
    some_back : (q : ℕ) × Contains (back g loops flags p m.setting h) q
    some_back =
        let loop : IsLoopOf g l = All-contains (IsLoopOf g) loops l m.setting.nest.loops among in
        let t = back_edge_closes g loops m.setting.nest loop.header.0 h loop.header.1 in
        (loop.header.0, is_back g loops flags p m.setting loop.header.0 h t.loop loop.header.1.edge flag t.among t.header t.member)

    iteration_from : (q : ℕ) → Contains (back g loops flags p m.setting h) q → cost_through costs turned.dist q ≡ get_or iteration_costs i 0 → Attains l i
    iteration_from q c iteration_cost =
        let b = back_edge g loops flags p m.setting q h c in
        let P : NaturalLoop → Type 0 = λ z. Contains z.members q in
        let inside : Contains l.members q = subst P (header_decides g loops flags p m.setting l b.3.0 among b.3.1 b.3.2) b.3.3 in
        let r = reached_or_start q (reached_in q b.1) inside in
        let way = r.1 in
        let enough = r.2 in
        let ns = way.more in
        let W : List ℕ → Type 0 = λ zs. Walk g h q zs in
        let K : List ℕ → Type 0 = λ zs. (k : BoundedLoop) → Contains bounded_all k → IsKept zs k in
        let own : Contains l.members h = own_header g loops flags p m.setting l among in
        let within = All-weaker IsInner (Contains l.members) (λ x c'. c'.0) ns way.fresh in
        let cost = ap (cost_from costs bounded_all (held_at h)) way.is in
        let as_iteration = cost_as_iteration costs bounded_all h ns in (
          h ∷ ns,
          record {
            last = q;
            walk = subst W way.is way.walk;
            within = All-cons (Contains l.members) h ns own within;
            back = b.0;
            first = no_iteration h ns (λ c'. (All-contains IsInner ns h way.fresh c').1 refl);
            kept = all_from_contains (IsKept (h ∷ ns)) bounded_all (subst K way.is way.kept);
          },
          omega arith,
        )

    iteration_of : Attains l i
    iteration_of =
        elim turned.iteration_cost.most.attained [
          | inl none ↦ let P : List ℕ → Type 0 = λ zs. Contains zs some_back.0 in absurd (nil_contains some_back.0 (subst P none.0 some_back.1))
          | inr some ↦ iteration_from some.0 some.1 some.2
        ]

  pub iteration_attains : (i : ℕ) (l : NaturalLoop) → IsEntryAt loops i l → IsFlagged flags l.header
      → (ns : List ℕ) × IsIteration g bounded_all (bounded_at loops bounds loads m.bounds_long m.loads_long l i) ns × (get_or iteration_costs i 0 ≤ cost_of_iteration costs bounded_all ns)
  iteration_attains i l at flag =
      let P : NaturalLoop → Type 0 = λ k. (j : ℕ) → IsEntryAt loops j k → IsFlagged flags k.header → Attains k j in
      inward g loops flags p m.setting P (λ k among inner j at' flag'. iteration_of j k at' flag' (m.loop_costs.each j k at' (in_order g loops flags p m.setting k.header flag')) inner) l (contained loops i l at) i at flag

  abbrev Anywhere : ℕ → Type 0
  Anywhere x = Unit {0}

  abbrev ReachedFrom : ℕ → Type 0
  ReachedFrom u = Reached g costs bounded_all nested_all (λ l. false) 0 [] Anywhere u (get_or dist u 0 + get_or costs u 0)

  any_iteration : (u : ℕ) (i : ℕ) (l : NaturalLoop) → IsEntryAt loops i l → l.header ≡ u → IsFlagged flags l.header → (t : Attains l i) × All Anywhere t.0
  any_iteration u i l at same flag = let t = iteration_attains i l at flag in (t, λ k d lt. tt)

  start_all : IsFlagged flags 0 → ReachedFrom 0
  start_all flag =
      let by = m.each 0 flag in
      let paid = fee_paid Anywhere 0 flag (any_iteration 0) in
      let r = started g costs bounded_all nested_all (λ l. false) 0 [] Anywhere 0 (get_or fees 0 0) (record { walk = stay; more = 0 ∷ []; is = refl; fresh = λ k d lt. tt; kept = λ k c. kept_one 0 k }) (λ k. refl) paid in
      let enough = r.2 in
      let is = by.is in
      elim by.most.attained [
        | inl none ↦ let zero' = none.1 in (r.0, r.1, omega arith)
        | inr some ↦ absurd (entry_not_arrived_at g loops flags p m.setting some.0 some.1)
      ]

  reached_all : (u : ℕ) → IsFlagged flags u → ReachedFrom u
  reached_all =
      onward g loops flags p m.setting ReachedFrom
      (λ u flag before.
      let P : ℕ → Type 0 = λ z. IsFlagged flags z in
      let Q : ℕ → Type 0 = λ z. ReachedFrom z in
      elim (cases_eq u 0) [
        | inl zero' ↦ subst Q (sym zero') (start_all (subst P zero' flag))
        | inr other ↦
            let source = is_arrived_at g loops flags p m.setting u flag other in
            reached_on g costs bounded_all nested_all (λ l. false) 0 [] Anywhere (forward g loops flags p m.setting) fees dist u source.0 (m.each u flag) source.1 before (λ x c. (forward_edge g loops flags p m.setting x u c).0)
            (λ x c. goes_on x u c) tt (fee_paid Anywhere u flag (any_iteration u))
      ])

  pub walk_attains : (u : ℕ) → IsFlagged flags u → (ns : List ℕ) × Walk g 0 u ns × All (IsKept ns) bounded_all × (get_or dist u 0 + get_or costs u 0 ≤ cost_of costs bounded_all ns)
  walk_attains u flag = let r = reached_all u flag in (r.0, r.1.walk, all_from_contains (IsKept r.0) bounded_all r.1.kept, r.2)
