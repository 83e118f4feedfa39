-- What the search for paths requires of a problem, and that it finds them.
use Rattle.std.proofs.Common.{◌≡◌, ◌≢◌, ℕ, zero, suc, ◌+◌, ◌^◌, ◌<◌, ◌≤◌, Bool, cond, List, [], ◌∷◌, length, get_or, All, Contains, refl, sym, ap, ◌∙◌, subst, inl, inr, arith}
use Rattle.std.proofs.lemmas.Bool.{cases_eq, cases_lt, eq-eqb, ne_eqb}
use Rattle.std.proofs.lemmas.List.{get_or_past}
use Rattle.std.proofs.lemmas.List.Elements.{All-contains, All-get_or}
use Rattle.lists.specs.Members.{has_or_not}
use Rattle.loop_nest.specs.Digraph.{Digraph}
use Rattle.loop_nest.specs.Nest.{NaturalLoop, IsLoopOf}
use Rattle.section_check.specs.Placing.{IsEntryAt}
use Rattle.path_solver.specs.declared.topology.TopologicalOrder.{TopologicalOrder}
use Rattle.path_solver.specs.Distances.{sources_at}
use Rattle.path_solver.specs.Iteration.{IsOrderly, AreOrderedMembers, IsIterationCost}
use Rattle.path_solver.specs.Problem.{IsMeasured, IsProblem}
use Rattle.path_solver.specs.Reaching.{IsFlagged}
use Rattle.path_solver.proofs.Apart.{few_apart}
use Rattle.path_solver.proofs.Onward.{back_edge_closes}
use Rattle.path_solver.proofs.Orderly.{orderly}
use Rattle.path_solver.proofs.Structure as structure
use Rattle.bound_report.specs.declared.visits.problem.Problem.{Problem}
use Rattle.bound_report.specs.Visits.Paths.{IsPosed, cost_of_node, sources, IsReachedInside, IsPathAdded, IsWalkAdded, IsRound}
use Rattle.bound_report.proofs.VisitsLemmas.GhostMembers.{members_headed}
use Rattle.bound_report.proofs.VisitsLemmas.Tight.{tight_end, one_cost}

-- where all loops of this header have the same members, these are found
members_found : (h : ℕ) (ms : List ℕ) (ls : List NaturalLoop) → ((j : ℕ) (k : NaturalLoop) → IsEntryAt ls j k → k.header ≡ h → k.members ≡ ms) → (i : ℕ) (l : NaturalLoop) → IsEntryAt ls i l → l.header ≡ h → members_headed ls h ≡ ms
members_found h ms [] only i l at same = absurd (let lt = at.0 in omega arith)
members_found h ms (k ∷ ks) only zero l at same =
    let here : k.header ≡ h = ap (λ (x : NaturalLoop). x.header) at.1 ∙ same in
    ap (λ (t : Bool). cond t k.members (members_headed ks h)) (eq-eqb k.header h here) ∙ only 0 k (omega arith, refl) here
members_found h ms (k ∷ ks) only (suc i) l at same =
    let later : members_headed ks h ≡ ms = members_found h ms ks (λ j m at' same'. let lt = at'.0 in only (suc j) m (omega arith, at'.1) same') i l (let lt = at.0 in omega arith, at.1) same in
    elim (cases_eq k.header h) [
      | inl here ↦ ap (λ (t : Bool). cond t k.members (members_headed ks h)) (eq-eqb k.header h here) ∙ only 0 k (omega arith, refl) here
      | inr other ↦ ap (λ (t : Bool). cond t k.members (members_headed ks h)) (ne_eqb k.header h other) ∙ later
    ]

-- a list of zeros has nothing else at any place
pub zeros_at : (ns : List ℕ) → All (λ n. n ≡ 0) ns → (u : ℕ) → get_or ns u 0 ≡ 0
zeros_at ns all u = elim (cases_lt u (length ns)) [ inl low ↦ All-get_or (λ n. n ≡ 0) ns u 0 low all | inr high ↦ get_or_past ns u 0 high ]

module _ (q : Problem) (posed : IsPosed q) where
  abbrev g : Digraph
  g = q.g.now

  abbrev nest : List NaturalLoop
  nest = q.nest.now

  abbrev flags : List Bool
  flags = q.found.now.listed.items

  abbrev p : TopologicalOrder
  p = q.found.now.topology

  abbrev costs : List ℕ
  costs = q.costs.now

  abbrev fees : List ℕ
  fees = q.found.now.fees.items

  abbrev dist : List ℕ
  dist = q.found.now.dist.items

  abbrev m : IsMeasured g nest flags p costs q.bounds.now q.loads.now q.found.now.iteration_costs.items fees dist
  m = posed.measured

  abbrev s : IsProblem g nest flags p
  s = m.setting

  pub is_orderly : IsOrderly (length costs) p
  is_orderly = let P : ℕ → Type 0 = λ n. IsOrderly n p in subst P (sym m.costs_long) (orderly g nest flags p s.digraph s.reaching s.topology)

  pub exits_within : All (λ u. u < length costs) g.exits
  exits_within = let P : ℕ → Type 0 = λ n. All (λ u. u < n) g.exits in subst P (sym m.costs_long) s.digraph.exits.within

  -- ---- from the entry

  pub order_below : (u : ℕ) → Contains p.order.items u → u < g.nodes
  order_below u has = structure.listed_below g nest flags p s u (structure.from_order g nest flags p s u has)

  pub order_short : length p.order.items ≤ g.nodes
  order_short = few_apart p.order.items g.nodes s.topology.ordered.apart order_below

  pub exit_in_order : (u : ℕ) → Contains g.exits u → Contains p.order.items u
  exit_in_order u exit = structure.in_order g nest flags p s u (structure.listed_exit g nest flags p s u exit)

  pub entry_leads : (u : ℕ) → Contains p.order.items u → u ≢ 0 → IsReachedInside q dist p.order.items u
  entry_leads u has other =
      let flag = structure.from_order g nest flags p s u has in
      let by = structure.is_arrived_at g nest flags p s u flag other in
      record {
        by = m.each u flag;
        source = by.0;
        is_source = by.1;
        all_inside = λ x c. structure.in_order g nest flags p s x (structure.forward_edge g nest flags p s x u c).1;
      }

  -- some exit is as far as the value says
  pub exit_found : (u : ℕ) × Contains g.exits u × (cost_of_node q u + get_or dist u 0 ≡ q.found.now.value)
  exit_found =
      let r = (s.reaching.each 0).0 posed.entry in
      tight_end costs dist g.exits q.found.now.value r.exit posed.most r.among posed.small

  module _ (from : List ℕ) (same : from ≡ dist) where
    pub entry_leads_by : (u : ℕ) → Contains p.order.items u → u ≢ 0 → IsReachedInside q from p.order.items u
    entry_leads_by u has other = let P : List ℕ → Type 0 = λ ds. IsReachedInside q ds p.order.items u in subst P (sym same) (entry_leads u has other)

    pub some_exit_far : ¬ ((u : ℕ) → Contains g.exits u → get_or costs u 0 + get_or from u 0 ≢ q.found.now.value)
    some_exit_far none =
        let found = exit_found in
        let P : List ℕ → Type 0 = λ ds. cost_of_node q found.0 + get_or ds found.0 0 ≡ q.found.now.value in
        none found.0 found.1 (subst P (sym same) found.2)

    pub is_walk : (exit : ℕ) (zeros new : List ℕ) → Contains g.exits exit → cost_of_node q exit + get_or from exit 0 ≡ q.found.now.value → All (λ n. n ≡ 0) zeros → IsPathAdded q from 0 exit 1 zeros new → IsWalkAdded q new
    is_walk exit zeros new among far none added =
        let P : List ℕ → Type 0 = λ ds. cost_of_node q exit + get_or ds exit 0 ≡ q.found.now.value in
        let Q : List ℕ → Type 0 = λ ds. IsPathAdded q ds 0 exit 1 zeros new in
        record { exit = exit; among = among; value = subst P same far; zeros = zeros; none = zeros_at zeros none; added = subst Q same added }

  -- ---- around a loop

  module _ (i : ℕ) (l : NaturalLoop) (at : IsEntryAt nest i l) (flag : IsFlagged flags l.header) where
    among : Contains nest l
    among = (i, at.0, at.1)

    listed : Contains p.order.items l.header
    listed = structure.in_order g nest flags p s l.header flag

    pub are_members : AreOrderedMembers p.order.items l.members l.header
    are_members = (structure.led g nest flags p s l among listed).members

    pub members_are : members_headed nest l.header ≡ l.members
    members_are =
        members_found l.header l.members nest
        (λ j k at' same. ap (λ (x : NaturalLoop). x.members) (structure.header_decides g nest flags p s l k among (j, at'.0, at'.1) same)) i l at refl

    pub member_below : (u : ℕ) → Contains l.members u → u < g.nodes
    member_below u inside = structure.members_below g nest flags p s l u among inside

    -- the nodes from which edges that close no loop lead to a member are members
    source_inside : (u : ℕ) → Contains l.members u → u ≢ l.header → (x : ℕ) → Contains (sources q u) x → Contains l.members x
    source_inside u inside other x has = elim (has_or_not l.members x) [
      | inl there ↦ there
      | inr out ↦ absurd (other (structure.entered_at_header g nest flags p s l x u among (structure.forward_edge g nest flags p s x u has).0 inside out))
    ]

    not_entry : (u : ℕ) → Contains l.members u → u ≢ l.header → u ≢ 0
    not_entry u inside other none =
        let P : ℕ → Type 0 = λ z. Contains l.members z in
        other (none ∙ sym (structure.entry_heads g nest flags p s l among (subst P none inside)))

    pub back_member : (u : ℕ) → Contains (sources_at p.back l.header) u → Contains l.members u
    back_member u has =
        let edge = structure.back_edge g nest flags p s u l.header has in
        let P : NaturalLoop → Type 0 = λ k. Contains k.members u in
        subst P (structure.header_decides g nest flags p s l edge.3.0 among edge.3.1 edge.3.2) edge.3.3

    some_back : (u : ℕ) × Contains (sources_at p.back l.header) u
    some_back =
        let own = (All-contains (IsLoopOf g) nest l s.nest.loops among).header in
        let closed = back_edge_closes g nest s.nest own.0 l.header own.1 in
        (own.0, structure.is_back g nest flags p s own.0 l.header closed.loop own.1.edge flag closed.among closed.header closed.member)

    module _ (from : List ℕ) (cost : ℕ) (is : IsIterationCost p l.members l.header costs fees from cost) where
      pub header_leads : (u : ℕ) → Contains l.members u → u ≢ l.header → IsReachedInside q from l.members u
      header_leads u inside other =
          let by = structure.is_arrived_at g nest flags p s u (structure.from_order g nest flags p s u (are_members.listed u inside)) (not_entry u inside other) in
          record { by = is.each u inside other; source = by.0; is_source = by.1; all_inside = source_inside u inside other }

      pub cost_is : cost ≡ get_or q.found.now.iteration_costs.items i 0
      cost_is =
          let known = m.loop_costs.each i l at listed in
          one_cost q posed l among flag from known.dist cost (get_or q.found.now.iteration_costs.items i 0) is known.iteration_cost

      -- some edge back leads from a node that is as far as the cost says
      pub last_found : cost < 2 ^ 64 → (u : ℕ) × Contains (sources_at p.back l.header) u × (cost_of_node q u + get_or from u 0 ≡ cost)
      last_found small = tight_end costs from (sources_at p.back l.header) cost some_back.0 is.most some_back.1 small

      pub is_round : (last count : ℕ) (old new : List ℕ) → Contains (sources_at p.back l.header) last → cost_of_node q last + get_or from last 0 ≡ cost → IsPathAdded q from l.header last count old new → IsRound q i count old new
      is_round last count old new back far added = record { loop = l; at = at; dist = from; start = is.start; last = last; back = back; cost = far ∙ cost_is; added = added }

    -- the same, where the members, the header and the fees are known by other names
    module _ (ms : List ℕ) (h : ℕ) (ms_are : ms ≡ l.members) (h_is : h ≡ l.header) where
      pub own_members : AreOrderedMembers p.order.items ms h
      own_members =
          let P : List ℕ → Type 0 = λ xs. AreOrderedMembers p.order.items xs h in
          let Q : ℕ → Type 0 = λ z. AreOrderedMembers p.order.items l.members z in
          subst P (sym ms_are) (subst Q (sym h_is) are_members)

      headed_are : members_headed nest h ≡ l.members
      headed_are = ap (members_headed nest) h_is ∙ members_are

      to_member : (u : ℕ) → Contains (members_headed nest h) u → Contains l.members u
      to_member u has = let P : List ℕ → Type 0 = λ xs. Contains xs u in subst P headed_are has

      pub headed_below : (u : ℕ) → Contains (members_headed nest h) u → u < g.nodes
      headed_below u has = member_below u (to_member u has)

      pub headed_last : (u : ℕ) → Contains (sources_at p.back h) u → Contains (members_headed nest h) u
      headed_last u has =
          let P : ℕ → Type 0 = λ z. Contains (sources_at p.back z) u in
          let Q : List ℕ → Type 0 = λ xs. Contains xs u in
          subst Q (sym headed_are) (back_member u (subst P h_is has))

      module _ (fs from : List ℕ) (cost : ℕ) (fs_are : fs ≡ fees) (told : IsIterationCost p ms h costs fs from cost) where
        is : IsIterationCost p l.members l.header costs fees from cost
        is =
            let P : List ℕ → Type 0 = λ xs. IsIterationCost p l.members l.header costs xs from cost in
            let Q : ℕ → Type 0 = λ z. IsIterationCost p l.members z costs fs from cost in
            let R : List ℕ → Type 0 = λ xs. IsIterationCost p xs h costs fs from cost in
            subst P fs_are (subst Q h_is (subst R ms_are told))

        pub own_cost : cost ≡ get_or q.found.now.iteration_costs.items i 0
        own_cost = cost_is from cost is

        pub headed_leads : (u : ℕ) → Contains (members_headed nest h) u → u ≢ h → IsReachedInside q from (members_headed nest h) u
        headed_leads u has other =
            let P : List ℕ → Type 0 = λ xs. IsReachedInside q from xs u in
            subst P (sym headed_are) (header_leads from cost is u (to_member u has) (λ same. other (same ∙ sym h_is)))

        pub some_last_far : cost < 2 ^ 64 → ¬ ((u : ℕ) → Contains (sources_at p.back h) u → get_or costs u 0 + get_or from u 0 ≢ cost)
        some_last_far small none =
            let found = last_found from cost is small in
            let P : ℕ → Type 0 = λ z. Contains (sources_at p.back z) found.0 in
            none found.0 (subst P (sym h_is) found.1) found.2

        pub own_round : (last count : ℕ) (old new : List ℕ) → Contains (sources_at p.back h) last → cost_of_node q last + get_or from last 0 ≡ cost → IsPathAdded q from h last count old new → IsRound q i count old new
        own_round last count old new back far added =
            let P : ℕ → Type 0 = λ z. Contains (sources_at p.back z) last in
            let Q : ℕ → Type 0 = λ z. IsPathAdded q from z last count old new in
            is_round from cost is last count old new (subst P h_is back) far (subst Q h_is added)
