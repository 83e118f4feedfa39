-- What a pass shows: the greatest walk, whether iterations exceed 64 bits, and a section.
use Rattle.std.proofs.Common.{◌≡◌, ℕ, suc, ◌+◌, ◌^◌, ◌<◌, ◌≤◌, ℤ, pos, Bool, true, false, cond, eqb, List, [], ◌∷◌, length, map, get_or, All, Contains, Option, Some, None, MatchOption, Ok, IfSome, IfNone, IfOk, IfErr, refl, sym, ap, ap₂, ◌∙◌, subst, inl, inr, arith}
use Rattle.std.specs.Prelude.{◌-ℤ◌, ◌↔◌, IsTrue}
use Rattle.std.specs.Option.{ok_or}
use Rattle.std.specs.List.Sorted.{IsStrictlyIncreasing}
use Rattle.std.proofs.lemmas.Bool.{cases_Bool, cases_eq, cases_lt, eq-eqb, ne_eqb, cond-true, cond-false, both_ways, false≢true}
use Rattle.std.proofs.lemmas.Int.{ints}
use Rattle.std.proofs.lemmas.List.{length-map, get_or_default}
use Rattle.std.proofs.lemmas.List.Elements.{All-contains}
use Rattle.lists.specs.Members.{nil_contains, cons_cases, rising_pair}
use Rattle.loop_nest.specs.Digraph.{Digraph, IsDigraph}
use Rattle.loop_nest.specs.Reduction.{IsReducible}
use Rattle.loop_nest.specs.Laws.{ReducibleIsReached}
use Rattle.loop_nest.specs.Walks.{Walk}
use Rattle.loop_nest.specs.Walks.Walk.{stay, along}
use Rattle.loop_nest.specs.Nest.{NaturalLoop}
use Rattle.loop_nest.proofs.Ends.{ends_within}
use Rattle.section_check.specs.Bounded.{BoundedLoop, holds, cost_of, IsBoundedWalk, IsGreatest}
use Rattle.section_check.specs.Section.{Certified, CertifiedLoop, priced, IsInForm, IsPotential, ArePotentials, start_value, potential, listed}
use Rattle.section_check.specs.Placing.{IsEntryAt}
use Rattle.section_check.specs.Conditions.{IsAccepted, IsSectionAnswer, natural_of, value_of}
use Rattle.section_check.proofs.Rising.{listed_at, listed_long, potential_at}
use Rattle.path_solver.specs.declared.pass.Pass.{Pass}
use Rattle.path_solver.specs.declared.topology.TopologicalOrder.{TopologicalOrder}
use Rattle.path_solver.specs.Certifying.{certified}
use Rattle.path_solver.specs.Distances.{limited, IsMost, cost_through}
use Rattle.path_solver.specs.Iteration.{IsOrderly}
use Rattle.path_solver.specs.Longest.{bounded_loops, AreLoopsOf, WalkExceeds, IterationsExceed, WalksAreTooLarge}
use Rattle.path_solver.specs.Longest.WalksAreTooLarge.{walk, iterations}
use Rattle.path_solver.specs.Pass.{IsPass}
use Rattle.path_solver.specs.Potentials.{AreLeft}
use Rattle.path_solver.specs.Problem.{IsProblem, IsMeasured}
use Rattle.path_solver.specs.Reaching.{ReachesExit, IsFlagged}
use Rattle.path_solver.specs.Totals.{iteration_costs_around, SomeIterationsExceed}
use Rattle.path_solver.proofs.Accepting.{AreExactlyLeft, edges_hold, exits_hold, starts_with}
use Rattle.path_solver.proofs.Attained.{walk_attains, iteration_attains}
use Rattle.path_solver.proofs.Certificates.{loops_of_nest}
use Rattle.path_solver.proofs.Correspond.{same_loops}
use Rattle.path_solver.proofs.CostsAround.{iteration_cost_of_one}
use Rattle.path_solver.proofs.Exact.{AreExact, exact, most_of}
use Rattle.path_solver.proofs.IterationBound.{nodes_of, left_of, nodes_below, iteration_bounded}
use Rattle.path_solver.proofs.Limiting.{exactly_through, most_limited, costs_limited, dist_limited, through_limited}
use Rattle.path_solver.proofs.Orderly.{orderly}
use Rattle.path_solver.proofs.Placed.{members_rise, headers_rise, as_many, well_placed}
use Rattle.path_solver.proofs.Ranges.{range}
use Rattle.path_solver.proofs.Solving.{iterations_together, iterations_at_most}
use Rattle.path_solver.proofs.Structure.{own_header, members_below, listed_below, listed_exit, led}

-- where no exit is reached from the entry, no walk is complete
pub no_walk : (g : Digraph) (loops : List BoundedLoop) → (ReachesExit g 0 → ⊥) → (ns : List ℕ) → IsBoundedWalk g loops ns → ⊥
no_walk g loops out ns w = out (record { exit = w.last; among = w.exit; nodes = ns; walk = w.walk })

-- a listed node has a potential
listed_somewhere : (ps : List (ℕ × ℤ)) (u : ℕ) → Contains (listed ps) u → potential ps u ≡ None → ⊥
listed_somewhere [] u has none = nil_contains u has
listed_somewhere (q ∷ qs) u has none =
    elim (cases_eq q.0 u) [
      | inl same ↦ let some : potential (q ∷ qs) u ≡ Some q.1 = cond-true (eqb q.0 u) (Some q.1) (potential qs u) (eq-eqb q.0 u same) in let bad : ⊥ = cc in bad
      | inr other ↦
          let later : potential (q ∷ qs) u ≡ potential qs u = cond-false (eqb q.0 u) (Some q.1) (potential qs u) (ne_eqb q.0 u other) in
          elim (cons_cases q.0 u (listed qs) has) [ inl same ↦ absurd (other same) | inr there ↦ listed_somewhere qs u there (sym later ∙ none) ]
    ]

-- an entry of the listed nodes has its node's potential
potential_of : (ps : List (ℕ × ℤ)) → IsStrictlyIncreasing (listed ps) → (k : ℕ) (d : ℕ × ℤ) → k < length ps → potential ps (get_or ps k d).0 ≡ Some (get_or ps k d).1
potential_of ps rise k d lt =
    potential_at ps (get_or ps k d).0 k d lt refl (λ j less same.
    let long = listed_long ps in
    let up = rising_pair (listed ps) rise j k less (omega arith) in
    let before : j < length ps = omega arith in
    let a = listed_at ps j before in
    let b = listed_at ps k lt in
    let first = ap (λ (p : ℕ × ℤ). p.0) (get_or_default ps j d (0, pos 0) before) in
    let second = ap (λ (p : ℕ × ℤ). p.0) (get_or_default ps k d (0, pos 0) lt) in
    omega arith)

-- numbers that are the same place by place
same_numbers : (xs ys : List ℕ) → length xs ≡ length ys → ((i : ℕ) → i < length xs → get_or xs i 0 ≡ get_or ys i 0) → xs ≡ ys
same_numbers [] [] long same = refl
same_numbers [] (y ∷ ys) long same = absurd (omega arith)
same_numbers (x ∷ xs) [] long same = absurd (omega arith)
same_numbers (x ∷ xs) (y ∷ ys) long same = ap₂ (λ (z : ℕ) (zs : List ℕ). z ∷ zs) (same 0 (omega arith)) (same_numbers xs ys (omega arith) (λ i lt. same (suc i) (omega arith)))

-- what limited iteration costs are together is no less than what exact ones are, up to the limit
one_around : (b : Bool) (w x some all : ℕ) → w ≡ limited x → limited all ≤ some → limited (cond b x 0 + all) ≤ cond b w 0 + some
one_around true w x some all is less = omega arith
one_around false w x some all is less = omega arith

around_limited : (ls : List NaturalLoop) (ws xs : List ℕ) (u : ℕ) → length ws ≡ length ls → length xs ≡ length ls → ((i : ℕ) (l : NaturalLoop) → IsEntryAt ls i l → get_or ws i 0 ≡ limited (get_or xs i 0))
    → limited (iteration_costs_around ls xs u) ≤ iteration_costs_around ls ws u
around_limited [] ws xs u a b each = omega arith
around_limited (l ∷ ls) [] xs u a b each = absurd (omega arith)
around_limited (l ∷ ls) (w ∷ ws) [] u a b each = absurd (omega arith)
around_limited (l ∷ ls) (w ∷ ws) (x ∷ xs) u a b each =
    one_around (holds l.members u) w x (iteration_costs_around ls ws u) (iteration_costs_around ls xs u) (each 0 l (omega arith, refl))
    (around_limited ls ws xs u (omega arith) (omega arith) (λ i k at. let below = at.0 in each (suc i) k (omega arith, at.1)))

-- the exact numbers for which those of a pass stand
record AreBehind (g : Digraph) (loops : List NaturalLoop) (costs bounds loads : List ℕ) (flags : List Bool) (p : TopologicalOrder) (iteration_costs dist : List ℕ) (value : ℕ) : Type 0 where
  exact_costs : List ℕ
  exact_fees : ℕ → ℕ
  exact_dist : ℕ → ℕ
  exactly : AreExact p loops costs bounds loads exact_costs exact_fees exact_dist
  exact_value : ℕ
  most : IsMost (exactly_through costs exact_dist) g.exits exact_value
  value_is : value ≡ limited exact_value
  costs_are : (i : ℕ) (l : NaturalLoop) → IsEntryAt loops i l → get_or iteration_costs i 0 ≡ limited (get_or exact_costs i 0)
  dist_are : (u : ℕ) → IsFlagged flags u → get_or dist u 0 ≡ limited (exact_dist u)

behind : (g : Digraph) (loops : List NaturalLoop) (flags : List Bool) (p : TopologicalOrder) (costs bounds loads iteration_costs fees dist : List ℕ) (value : ℕ) → IsMeasured g loops flags p costs bounds loads iteration_costs fees dist → IsMost (cost_through costs dist) g.exits value
    → AreBehind g loops costs bounds loads flags p iteration_costs dist value
behind g loops flags p costs bounds loads iteration_costs fees dist value m most =
    let h = m.setting in
    let P : ℕ → Type 0 = λ n. IsOrderly n p in
    let x = exact p loops costs bounds loads (subst P (sym m.costs_long) (orderly g loops flags p h.digraph h.reaching h.topology)) h.nest.rising (led g loops flags p h) in
    let v = most_of (exactly_through costs x.2) g.exits in
    let dist_are = dist_limited g loops flags p costs bounds loads iteration_costs fees dist x.0 x.1 x.2 m x.3 in
    record {
      exact_costs = x.0;
      exact_fees = x.1;
      exact_dist = x.2;
      exactly = x.3;
      exact_value = v.0;
      most = v.1;
      value_is =
          most_limited (cost_through costs dist) (exactly_through costs x.2) g.exits value v.0 most v.1
          (λ u exit. through_limited (get_or costs u 0) (get_or dist u 0) (x.2 u) (dist_are u (listed_exit g loops flags p h u exit)));
      costs_are = costs_limited g loops flags p costs bounds loads iteration_costs fees dist x.0 x.1 x.2 m x.3;
      dist_are = dist_are;
    }

-- what a solution shows
pub record IsFound (g : Digraph) (loops : List NaturalLoop) (costs bounds loads : List ℕ) (value : ℕ) (section : Certified) : Type 0 where
  pub greatest : IsGreatest g costs (bounded_loops loops bounds loads) value
  pub own_loops : AreLoopsOf loops section.loops
  pub form : IsInForm section bounds (map Some loads)
  pub shown : IsSectionAnswer g costs section bounds (map Some loads) (Ok (Some value))
  pub fits : WalksAreTooLarge g costs (bounded_loops loops bounds loads) → ⊥

module _ (g : Digraph) (loops : List NaturalLoop) (costs bounds loads : List ℕ) (flags : List Bool) (iteration_costs dist : List ℕ) (value : ℕ) (exceed : Bool) (s : IsPass g loops costs bounds loads flags iteration_costs dist value exceed) where
  abbrev bounded_all : List BoundedLoop
  bounded_all = bounded_loops loops bounds loads

  abbrev p : TopologicalOrder
  p = s.measures.topology

  abbrev m : IsMeasured g loops flags p costs bounds loads iteration_costs s.measures.fees dist
  m = s.measures.measured

  abbrev h : IsProblem g loops flags p
  h = m.setting

  x : AreBehind g loops costs bounds loads flags p iteration_costs dist value
  x = behind g loops flags p costs bounds loads iteration_costs s.measures.fees dist value m s.most

  -- ---- walks

  -- some complete walk costs the value or more
  value_attained : (ns : List ℕ) × IsBoundedWalk g bounded_all ns × (value ≤ cost_of costs bounded_all ns)
  value_attained =
      elim s.most.attained [
        | inl none ↦
            let r = (s.reaching.each 0).0 s.entry in
            let P : List ℕ → Type 0 = λ us. Contains us r.exit in
            absurd (nil_contains r.exit (subst P none.0 r.among))
        | inr some ↦
            let u = some.0 in
            let w = walk_attains g loops flags p costs bounds loads iteration_costs s.measures.fees dist m u (listed_exit g loops flags p h u some.1) in
            let enough = w.3 in
            let e = some.2 in
            (w.0, record { last = u; walk = w.1; exit = some.1; kept = w.2 }, omega arith)
      ]

  pub walk_exceeds : 2 ^ 64 ≤ value → WalkExceeds g costs bounded_all
  walk_exceeds over = let w = value_attained in let enough = w.2 in record { walk = w.0; bounded = w.1; exceeds = omega arith }

  -- exact potentials, whichever numbers the listed nodes have, show the value
  module _ (small : value < 2 ^ 64) (nodes : List (ℕ × ℤ)) (left : AreExactlyLeft flags value x.exact_dist nodes) (below : (u : ℕ) → Contains (listed nodes) u → u < g.nodes) where
    abbrev section : Certified
    section = record { nodes = nodes; loops = certified loops x.exact_costs }

    most_at_exits : IsMost (exactly_through costs x.exact_dist) g.exits value
    most_at_exits =
        let is = x.value_is in
        let same : x.exact_value ≡ value = omega arith in
        let P : ℕ → Type 0 = λ n. IsMost (exactly_through costs x.exact_dist) g.exits n in
        subst P same x.most

    starts : start_value section (priced section.loops bounds (map Some loads)) ≡ Some (pos value)
    starts = starts_with g loops flags p h costs bounds loads x.exact_costs m.bounds_long m.loads_long x.exact_fees x.exact_dist x.exactly value nodes left s.entry

    accepted : IsAccepted g costs section bounds (map Some loads)
    accepted = record {
      placed = well_placed g loops flags p h bounds loads x.exact_costs m.bounds_long m.loads_long x.exactly.long nodes below value small starts;
      edges = edges_hold g loops flags p h costs bounds loads x.exact_costs m.bounds_long m.loads_long x.exact_fees x.exact_dist x.exactly value nodes left;
      exits = exits_hold g loops flags p h costs bounds loads x.exact_costs m.bounds_long m.loads_long x.exact_fees x.exact_dist x.exactly value nodes left most_at_exits;
    }

    value_shown : value_of section (priced section.loops bounds (map Some loads)) ≡ Some value
    value_shown = ap natural_of starts

    none_greater : (ns : List ℕ) → IsBoundedWalk g bounded_all ns → cost_of costs bounded_all ns ≤ value
    none_greater =
        let P : List BoundedLoop → Type 0 = λ ls. (ns : List ℕ) → IsBoundedWalk g ls ns → MatchOption (value_of section (priced section.loops bounds (map Some loads))) ⊥ (λ most. cost_of costs ls ns ≤ most) in
        let Q : Option ℕ → Type 0 = λ o. (ns : List ℕ) → IsBoundedWalk g bounded_all ns → MatchOption o ⊥ (λ most. cost_of costs bounded_all ns ≤ most) in
        subst Q value_shown
        (subst P (same_loops loops bounds loads m.bounds_long m.loads_long x.exact_costs x.exactly.long)
        (h.laws.walks g costs section bounds (map Some loads) accepted))

  no_walk_greater : value < 2 ^ 64 → (ns : List ℕ) → IsBoundedWalk g bounded_all ns → cost_of costs bounded_all ns ≤ value
  no_walk_greater small =
      none_greater small (nodes_of g loops flags p h costs bounds loads x.exact_costs m.bounds_long m.loads_long x.exact_fees x.exact_dist x.exactly value) (left_of g loops flags p h costs bounds loads x.exact_costs m.bounds_long m.loads_long x.exact_fees x.exact_dist x.exactly value)
      (nodes_below g loops flags p h costs bounds loads x.exact_costs m.bounds_long m.loads_long x.exact_fees x.exact_dist x.exactly value)

  pub greatest : value < 2 ^ 64 → IsGreatest g costs bounded_all value
  greatest small =
      let w = value_attained in
      let enough = w.2 in
      let above = no_walk_greater small w.0 w.1 in
      record { walk = w.0; bounded = w.1; attained = omega arith; greatest = no_walk_greater small }

  -- the value, where it doesn't exceed 64 bits, and else a walk that does
  pub value_tells : (found : Option ℕ) → MatchOption found (2 ^ 64 ≤ value) (λ n. (n ≡ value) × (value < 2 ^ 64)) → MatchOption found (WalkExceeds g costs bounded_all) (IsGreatest g costs bounded_all)
  value_tells None over = walk_exceeds over
  value_tells (Some n) is = let P : ℕ → Type 0 = λ v. IsGreatest g costs bounded_all v in subst P (sym is.0) (greatest is.1)

  -- ---- iterations

  iterations_show : SomeIterationsExceed loops iteration_costs g.nodes → IterationsExceed g costs bounded_all
  iterations_show t =
      iterations_together g loops flags p h costs bounds loads iteration_costs m.bounds_long m.loads_long m.loop_costs.long (iteration_attains g loops flags p costs bounds loads iteration_costs s.measures.fees dist m) m.loop_costs.dropped t.node t.exceeds

  iterations_shown : IterationsExceed g costs bounded_all → SomeIterationsExceed loops iteration_costs g.nodes
  iterations_shown t =
      let over = t.exceeds in
      let most =
      iterations_at_most g loops flags p h costs bounds loads x.exact_costs m.bounds_long m.loads_long x.exactly.long
      (iteration_bounded g loops flags p h costs bounds loads x.exact_costs m.bounds_long m.loads_long x.exact_fees x.exact_dist x.exactly s.entry) t.node t.iteration t.reaches t.are
      in
      let stands = around_limited loops iteration_costs x.exact_costs t.node m.loop_costs.long x.exactly.long x.costs_are in
      record { node = t.node; below = listed_below g loops flags p h t.node ((s.reaching.each t.node).1 t.reaches); exceeds = omega arith }

  pub exceed_tells : IsTrue exceed ↔ IterationsExceed g costs bounded_all
  exceed_tells = (λ yes'. iterations_show (s.turns.0 yes'), λ t. s.turns.1 (iterations_shown t))

  pub value_too_large : 2 ^ 64 ≤ value → WalksAreTooLarge g costs bounded_all
  value_too_large over = walk (walk_exceeds over)

  pub iterations_too_large : IsTrue exceed → WalksAreTooLarge g costs bounded_all
  iterations_too_large over = iterations (exceed_tells.0 over)

  -- ---- the section of a value, where nothing exceeds 64 bits

  module _ (within : exceed ≡ false) where
    none_exceed : SomeIterationsExceed loops iteration_costs g.nodes → ⊥
    none_exceed t = both_ways exceed within (s.turns.1 t)

    iterations_fit : (u : ℕ) → u < g.nodes → iteration_costs_around loops iteration_costs u < 2 ^ 64
    iterations_fit u lt =
        elim (cases_lt (iteration_costs_around loops iteration_costs u) (2 ^ 64)) [
          | inl less ↦ less
          | inr more ↦ absurd (none_exceed (record { node = u; below = lt; exceeds = more }))
        ]

    iteration_cost_fits : (i : ℕ) (l : NaturalLoop) → IsEntryAt loops i l → get_or iteration_costs i 0 < 2 ^ 64
    iteration_cost_fits i l at =
        let among : Contains loops l = (i, at.0, at.1) in
        let own = own_header g loops flags p h l among in
        let one = iteration_cost_of_one loops iteration_costs i l l.header at own in
        let around = iterations_fit l.header (members_below g loops flags p h l l.header among own) in
        omega arith

    loop_at : (i : ℕ) → i < length loops → (l : NaturalLoop) × IsEntryAt loops i l
    loop_at i lt =
        let none : NaturalLoop = record { header = 0; members = []; outer = None } in
        let l = get_or loops i none in
        (l, (lt, get_or_default loops i l none lt))

    pub iteration_costs_fit : All (λ w. w < 2 ^ 64) iteration_costs
    iteration_costs_fit i d lt =
        let long = m.loop_costs.long in
        let l = loop_at i (omega arith) in
        let fits = iteration_cost_fits i l.0 l.1 in
        let e = get_or_default iteration_costs i d 0 lt in
        omega arith

  module _ (small : value < 2 ^ 64) (within : exceed ≡ false) (nodes : List (ℕ × ℤ)) (left : AreLeft flags value dist nodes) where
    exact_costs_are : x.exact_costs ≡ iteration_costs
    exact_costs_are =
        let long = m.loop_costs.long in
        let long' = x.exactly.long in
        same_numbers x.exact_costs iteration_costs (long' ∙ sym long) (λ i lt.
        let l = loop_at within i (omega arith) in
        let fits = iteration_cost_fits within i l.0 l.1 in
        let is = x.costs_are i l.0 l.1 in
        omega arith)

    -- no distance exceeds the value by more than an iteration of each loop around
    in_range : (u : ℕ) → IsFlagged flags u → (x.exact_dist u < 2 ^ 65)
    in_range u flag =
        let most_here = range g loops flags p h costs bounds loads x.exact_costs x.exact_fees x.exact_dist x.exactly x.exact_value x.most u flag in
        let fits = iterations_fit within u (listed_below g loops flags p h u flag) in
        let same = ap (λ (ws : List ℕ). iteration_costs_around loops ws u) exact_costs_are in
        let is = x.value_is in
        omega arith

    same_dist : (u : ℕ) → IsFlagged flags u → get_or dist u 0 ≡ x.exact_dist u
    same_dist u flag = let near = in_range u flag in let is = x.dist_are u flag in omega arith

    exactly_left : AreExactlyLeft flags value x.exact_dist nodes
    exactly_left = record { each = λ u flag. left.each u flag ∙ ap (λ (d : ℕ). Some (pos value -ℤ pos d)) (same_dist u flag); others = left.others }

    listed_within : (u : ℕ) → Contains (listed nodes) u → u < g.nodes
    listed_within u has =
        elim (cases_Bool (get_or flags u false)) [
          | inl flag ↦ listed_below g loops flags p h u flag
          | inr out ↦ absurd (listed_somewhere nodes u has (left.others u (λ flag. both_ways (get_or flags u false) out flag)))
        ]

    abbrev own_section : Certified
    own_section = record { nodes = nodes; loops = certified loops iteration_costs }

    shown : IsSectionAnswer g costs own_section bounds (map Some loads) (Ok (Some value))
    shown =
        let P : List ℕ → Type 0 = λ ws. IsSectionAnswer g costs (record { nodes = nodes; loops = certified loops ws }) bounds (map Some loads) (Ok (Some value)) in
        subst P exact_costs_are (accepted small nodes exactly_left listed_within, sym (value_shown small nodes exactly_left listed_within))

    potentials : ArePotentials nodes
    potentials k d lt =
        let u = (get_or nodes k d).0 in
        let z = (get_or nodes k d).1 in
        let at = potential_of nodes left.rising k d lt in
        let P : Bool → Type 0 = λ b. get_or flags u false ≡ b → IsPotential z in
        let go : (b : Bool) → P b =
        elim [
          | true ↦ λ flag.
              let same : Some (pos value -ℤ pos (x.exact_dist u)) ≡ Some z = sym (exactly_left.each u flag) ∙ at in
              let is : pos value -ℤ pos (x.exact_dist u) ≡ z = cc in
              let most_here = range g loops flags p h costs bounds loads x.exact_costs x.exact_fees x.exact_dist x.exactly x.exact_value x.most u flag in
              let fits = iterations_fit within u (listed_below g loops flags p h u flag) in
              let sames = ap (λ (ws : List ℕ). iteration_costs_around loops ws u) exact_costs_are in
              let value_is = x.value_is in
              (omega (arith, ints), omega (arith, ints))
          | false ↦ λ no'.
              let none : None ≡ Some z = sym (left.others u (λ yes'. false≢true (sym no' ∙ yes'))) ∙ at in
              let bad : ⊥ = cc in
              absurd bad
        ]
        in
        go (get_or flags u false) refl

    in_form : IsInForm own_section bounds (map Some loads)
    in_form =
        let many = as_many g loops flags p h bounds loads iteration_costs m.bounds_long m.loads_long m.loop_costs.long in
        record {
          nodes = left.rising;
          potentials = potentials;
          members = members_rise g loops flags p h bounds loads iteration_costs m.bounds_long m.loads_long m.loop_costs.long;
          headers = headers_rise g loops flags p h bounds loads iteration_costs m.bounds_long m.loads_long m.loop_costs.long;
          bounded = m.bounds_long ∙ sym many;
          loaded = length-map loads Some ∙ m.loads_long ∙ sym many;
        }

    none_too_large : WalksAreTooLarge g costs bounded_all → ⊥
    none_too_large (walk w) = let over = w.exceeds in let most = no_walk_greater small w.walk w.bounded in omega arith
    none_too_large (iterations t) = none_exceed within (iterations_shown t)

    found : IsFound g loops costs bounds loads value own_section
    found = record { greatest = greatest small; own_loops = loops_of_nest loops iteration_costs m.loop_costs.long; form = in_form; shown = shown; fits = none_too_large }

  -- a section with these nodes and the loops of the nest shows the value
  pub found_by : value < 2 ^ 64 → exceed ≡ false → (section : Certified) → AreLeft flags value dist section.nodes → section.loops ≡ certified loops iteration_costs → IsFound g loops costs bounds loads value section
  found_by small within section left is =
      let P : List CertifiedLoop → Type 0 = λ ls. IsFound g loops costs bounds loads value (record { nodes = section.nodes; loops = ls }) in
      subst P (sym is) (found small within section.nodes left)

-- what reaches a node from which an exit is reached reaches an exit
exit_along : {g : Digraph} {u v : ℕ} {ns : List ℕ} → Walk g u v ns → ReachesExit g v → ReachesExit g u
exit_along stay r = r
exit_along (along {u} {v} {w} {ns} e t) r = let x = exit_along t r in record { exit = x.exit; among = x.among; nodes = u ∷ x.nodes; walk = along e x.walk }

-- what a walk to an exit begins with is a node
source_below : {g : Digraph} {u v : ℕ} {ns : List ℕ} → IsDigraph g → Walk g u v ns → Contains g.exits v → u < g.nodes
source_below {g} wf (stay {u}) exit = All-contains (λ x. x < g.nodes) g.exits u wf.exits.within exit
source_below {g} wf (along {u} {v} {w} {ns} e t) exit = (ends_within wf u v e).0

-- where no exit is reached from the entry, none is reached at all
pub nothing_too_large : (g : Digraph) (costs : List ℕ) (loops : List BoundedLoop) → ReducibleIsReached → IsDigraph g → IsReducible g → (ReachesExit g 0 → ⊥) → WalksAreTooLarge g costs loops → ⊥
nothing_too_large g costs loops law wf red out (walk w) = out (record { exit = w.bounded.last; among = w.bounded.exit; nodes = w.walk; walk = w.bounded.walk })
nothing_too_large g costs loops law wf red out (iterations t) =
    let r = law g wf red t.node (source_below wf t.reaches.walk t.reaches.among) in
    out (exit_along r.1 t.reaches)

pub all_within : (g : Digraph) (loops : List NaturalLoop) (flags : List Bool) (p : TopologicalOrder) → IsProblem g loops flags p → All (λ l. All (λ u. u < g.nodes) l.members) loops
all_within g loops flags p h i d lt j e lt' =
    let l = get_or loops i d in
    members_below g loops flags p h l (get_or l.members j e) (i, lt, get_or_default loops i l d lt) (j, lt', get_or_default l.members j (get_or l.members j e) e lt')

-- what a pass was found to be
pub pass_of : (g : Digraph) (loops : List NaturalLoop) (costs bounds loads : List ℕ) (o : Option Pass) (f : Pass) → o ≡ Some f
    → IfSome o (λ s. IsPass g loops costs bounds loads s.listed.items s.iteration_costs.items s.dist.items s.value s.turns_exceed)
    → IsPass g loops costs bounds loads f.listed.items f.iteration_costs.items f.dist.items f.value f.turns_exceed
pass_of g loops costs bounds loads o f is h =
    let P : Option Pass → Type 0 = λ v. IfSome v (λ s. IsPass g loops costs bounds loads s.listed.items s.iteration_costs.items s.dist.items s.value s.turns_exceed) in
    subst P is h

-- where no pass was found
pub none_of : {X : Type 0} (o : Option X) (P : Type 0) → o ≡ None → IfNone o P → P
none_of {X} o P is h = let Q : Option X → Type 0 = λ v. IfNone v P in subst Q is h

-- a number or that there is none, as an answer or a fault
pub ok_of : {E : Type 0} (o : Option ℕ) (e : E) (P : Type 0) (Q : ℕ → Type 0) → MatchOption o P Q → IfOk (ok_or o e) Q
ok_of None e P Q h = tt
ok_of (Some n) e P Q h = h

pub err_of : {E : Type 0} (o : Option ℕ) (e : E) (P : Type 0) (Q : ℕ → Type 0) → MatchOption o P Q → IfErr (ok_or o e) (λ fault. fault ≡ e → P)
err_of None e P Q h = λ same. h
err_of (Some n) e P Q h = tt

-- where each node is an exit, one is reached
pub stops_at_entry : (g : Digraph) → IsDigraph g → ((u : ℕ) → u < g.nodes → Contains g.exits u) → ReachesExit g 0
stops_at_entry g wf all = record { exit = 0; among = all 0 wf.entry; nodes = 0 ∷ []; walk = stay }
