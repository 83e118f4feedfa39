-- One node of the order: its loop is gone round, or it heads none.
use Rattle.std.proofs.Common.{◌≡◌, ℕ, ◌+◌, ◌*◌, ◌^◌, ◌<◌, ◌≤◌, ◌⊎◌, List, length, get_or, set, Contains, refl, sym, ap, ◌∙◌, subst, arith}
use Rattle.std.proofs.lemmas.List.Elements.{Contains-get_or}
use Rattle.loop_nest.specs.Nest.{NaturalLoop}
use Rattle.section_check.specs.Placing.{IsEntryAt}
use Rattle.path_solver.specs.Ordering.{NoLoopHas, IsHeadedAt}
use Rattle.path_solver.specs.Reaching.{IsFlagged}
use Rattle.path_solver.proofs.Loops.{same_at}
use Rattle.path_solver.proofs.Structure as structure
use Rattle.bound_report.specs.declared.visits.problem.Problem.{Problem}
use Rattle.bound_report.specs.Visits.Paths.{IsPosed, IsRound}
use Rattle.bound_report.proofs.VisitsLemmas.ProblemLemmas.{order_below, order_short}
use Rattle.bound_report.proofs.VisitsLemmas.RoundLemmas.{IsGoing, going_plain, going_skipped, going_rounded, count_within, cost_small}

-- the nodes of the order and the loops by the names that they have where they are read
module _ (q : Problem) (posed : IsPosed q) (j : ℕ) (visits entered : List ℕ) (lt : j < length q.found.now.topology.order.items) (going : IsGoing q posed j visits entered)
    (ls : List NaturalLoop) (ls_are : ls ≡ q.nest.now) (u : ℕ) (u_is : u ≡ get_or q.found.now.topology.order.items j 0) where
  abbrev order : List ℕ
  order = q.found.now.topology.order.items

  pub node_in_order : Contains order u
  node_in_order = let P : ℕ → Type 0 = λ z. Contains order z in subst P (sym u_is) (Contains-get_or order j 0 lt)

  pub node_below : u < q.g.now.nodes
  node_below = order_below q posed u node_in_order

  pub visited_few : get_or visits u 0 ≤ 2 ^ 96
  visited_few =
      let few = going.few u in
      let short = order_short q posed in
      let nodes = posed.few in
      let below = lt in
      omega arith

  pub passed : NoLoopHas ls u → IsGoing q posed (j + 1) visits entered
  passed none =
      let P : List NaturalLoop → Type 0 = λ ks. NoLoopHas ks u in
      let Q : ℕ → Type 0 = λ z. NoLoopHas q.nest.now z in
      going_plain q posed j visits entered lt going (subst Q u_is (subst P ls_are none))

  module _ (i : ℕ) (head : IsHeadedAt ls u i) where
    own : IsHeadedAt q.nest.now (get_or order j 0) i
    own =
        let P : List NaturalLoop → Type 0 = λ ks. IsHeadedAt ks u i in
        let Q : ℕ → Type 0 = λ z. IsHeadedAt q.nest.now z i in
        subst Q u_is (subst P ls_are head)

    header_is : own.headed.header ≡ u
    header_is = own.header ∙ sym u_is

    abbrev bound : ℕ
    bound = get_or q.bounds.now i 0

    abbrev cost : ℕ
    cost = get_or q.found.now.iteration_costs.items i 0

    pub loop_below : i < length q.nest.now
    loop_below = own.at.0

    pub header_listed : (k : NaturalLoop) → IsEntryAt q.nest.now i k → IsFlagged q.found.now.listed.items k.header
    header_listed k at =
        let is : k.header ≡ u = ap (λ (x : NaturalLoop). x.header) (same_at q.nest.now i i k own.headed at own.at refl) ∙ header_is in
        let P : ℕ → Type 0 = λ z. IsFlagged q.found.now.listed.items z in
        subst P (sym is) (structure.from_order q.g.now q.nest.now q.found.now.listed.items q.found.now.topology posed.measured.setting u node_in_order)

    count_small : 0 < cost → get_or visits u 0 * bound ≤ q.found.now.value
    count_small some =
        let P : ℕ → Type 0 = λ z. get_or visits z 0 * bound ≤ q.found.now.value in
        subst P header_is (count_within q posed j visits entered lt going i own some)

    pub count_room : 0 < cost → (v : ℕ) → get_or visits v 0 + get_or visits u 0 * bound < 2 ^ 128
    count_room some v =
        let least = count_small some in
        let few = going.few v in
        let short = order_short q posed in
        let nodes = posed.few in
        let small = posed.small in
        let below = lt in
        omega arith

    pub own_cost_small : 0 < get_or visits u 0 * bound → cost < 2 ^ 64
    own_cost_small =
        let P : ℕ → Type 0 = λ z. 0 < get_or visits z 0 * bound → cost < 2 ^ 64 in
        subst P header_is (cost_small q posed j visits entered lt going i own)

    pub skips : (get_or visits u 0 * bound ≡ 0) ⊎ (cost ≡ 0) → IsGoing q posed (j + 1) visits (set entered i (get_or visits u 0))
    skips =
        let P : ℕ → Type 0 = λ z. (get_or visits z 0 * bound ≡ 0) ⊎ (cost ≡ 0) → IsGoing q posed (j + 1) visits (set entered i (get_or visits z 0)) in
        subst P header_is (going_skipped q posed j visits entered lt going i own)

    pub goes_round : (new : List ℕ) → 0 < get_or visits u 0 * bound → 0 < cost → IsRound q i (get_or visits u 0 * bound) visits new → IsGoing q posed (j + 1) new (set entered i (get_or visits u 0))
    goes_round new =
        let P : ℕ → Type 0 = λ z. 0 < get_or visits z 0 * bound → 0 < cost → IsRound q i (get_or visits z 0 * bound) visits new → IsGoing q posed (j + 1) new (set entered i (get_or visits z 0)) in
        subst P header_is (going_rounded q posed j visits entered lt going i own new)
