-- The counts of a walk of a method that was prepared are counts of the method.
use Rattle.std.proofs.Common.{◌≡◌, ℕ, suc, ◌+◌, ◌*◌, ◌<◌, Bool, true, false, not, List, [], ◌∷◌, length, map, get_or, All, Contains, Option, Some, refl, sym, ap, ap₂, ◌∙◌, subst, inl, inr, arith}
use Rattle.std.specs.Prelude.{slice_index, slice_index_or}
use Rattle.std.specs.List.Sorted.{IsStrictlyIncreasing}
use Rattle.std.proofs.lemmas.Bool.{cases_Bool}
use Rattle.std.proofs.lemmas.List.{length-map}
use Rattle.std.proofs.lemmas.List.Elements.{All-contains, All-cons, All-nil, Contains-get_or}
use Rattle.lists.specs.Members.{contains_at}
use Rattle.loop_nest.specs.Digraph.{Digraph}
use Rattle.loop_nest.specs.Nest.{NaturalLoop}
use Rattle.section_check.specs.Bounded.{BoundedLoop, entries, cost_of, cost_of_nodes, cost_of_entries, IsBoundedWalk}
use Rattle.path_solver.specs.Longest.{bounded_loops}
use Rattle.path_solver.specs.Regions.{charged}
use Rattle.bytecode_model.specs.Program.{Program}
use Rattle.method_flow.specs.Flow.{Coded, IsCodedOf}
use Rattle.method_flow.specs.Keeping.{BoundOf}
use Rattle.method_flow.specs.Costs.{IsOwnCost}
use Rattle.method_flow.specs.Live.{IsLiveEdge}
use Rattle.method_flow.specs.Nodes.{Node, At, RaiseAt, number_of, IsReached}
use Rattle.method_flow.specs.Nodes.IsReached.{first}
use Rattle.method_flow.specs.Regions.{load}
use Rattle.method_flow.specs.declared.timing.Timing.{Timing}
use Rattle.node_costs.specs.Costs.{AreOwnCosts, method_load}
use Rattle.node_costs.proofs.Loading.{load_of}
use Rattle.bound_rules.specs.Costs.{added, added_at, AreCosts}
use Rattle.bound_rules.specs.Fitting.{RegionFits}
use Rattle.bound_rules.specs.Laws.{AgreeOnLive}
use Rattle.bound_rules.specs.Numbers.{Numbers, charged_loops, no_fees, is_in_charged, loops_adds}
use Rattle.bound_rules.proofs.Owning.{same_own}
use Rattle.compact_walks.specs.Limited.{cycles_limit}
use Rattle.compact_walks.specs.Moving.{moved_natural}
use Rattle.bound_report.specs.declared.visits.WalkCounts.{WalkCounts}
use Rattle.bound_finder.specs.declared.known.Known.{Known}
use Rattle.bound_finder.specs.declared.prepared.Prepared.{Prepared}
use Rattle.bound_finder.specs.Known.{BoundSetting, bounds_in}
use Rattle.bound_finder.specs.Laws.{numbers_by}
use Rattle.bound_finder.specs.Prepared.{node_of, nest_of, is_without_at}
use Rattle.bound_finder.specs.Found.{costs_of}
use Rattle.bound_finder.proofs.Alike.{same_members, same_charged}
use Rattle.bound_finder.proofs.Measuring.{OwnAreSmall, loops_in, live_nest, is_moved, moved_costs, in_nodes, from_nodes, on_walk}
use Rattle.bound_finder.proofs.OneValue.{AreFoundLaws, IsOne, one_inside, one_loops_number, loop_charges}
use Rattle.bound_finder.proofs.SmallCosts.{own_small}
use Rattle.bound_finder.proofs.Told.{load_is}
use Rattle.bound_finder.proofs.Valuing.{agree, greatest_out}
use Rattle.bound_report.specs.declared.callees.Callee.{Callee}
use Rattle.bound_report.specs.declared.counts.NodeCount.{NodeCount}
use Rattle.bound_report.specs.declared.counts.MethodCounts.{MethodCounts}
use Rattle.bound_report.specs.Counts.{Asks, IsAdded, IsNodeCount, AreCountsOf, nodes_of}
use Rattle.bound_report.specs.Counts.Asks.{inside, loops}
use Rattle.bound_report.specs.Callees.{callee_at, AreCallees}
use Rattle.bound_report.specs.Nodes.{counted_node, counted_nodes, AreNodesOf}
use Rattle.bound_report.specs.Walks.{AreWalkCounts}
use Rattle.bound_report.specs.Settled.{asked_in}
use Rattle.bound_report.specs.Laws.{IsPreparedIn, CountsAreOfWalks}
use Rattle.bound_report.proofs.Called.{adds_if, started, raised, node_added}
use Rattle.bound_report.proofs.Moving.{MovedWalk, moved_walk}
use Rattle.bound_report.proofs.Settled.{agree_with}
use Rattle.bound_report.proofs.Sums.{same_sum}

-- ---- lists of nodes

pub counted_all : (Q : NodeCount → Type 0) (own : List ℕ) (cs : List Callee) (us ns : List ℕ) → ((i : ℕ) → i < length us → Q (counted_node (get_or us i 0) (get_or ns i 0) (slice_index own (get_or us i 0)) (callee_at cs (get_or us i 0))))
    → All Q (counted_nodes own cs us ns)
counted_all Q own cs [] ns each = All-nil Q
counted_all Q own cs (u ∷ us) [] each = All-nil Q
counted_all Q own cs (u ∷ us) (n ∷ ns) each =
    All-cons Q (counted_node u n (slice_index own u) (callee_at cs u)) (counted_nodes own cs us ns) (each 0 (omega arith)) (counted_all Q own cs us ns (λ i lt. each (suc i) (omega arith)))

pub counted_are : (own : List ℕ) (cs : List Callee) (us ns : List ℕ) → length us ≡ length ns → nodes_of (counted_nodes own cs us ns) ≡ us
counted_are own cs [] ns long = refl
counted_are own cs (u ∷ us) [] long = absurd (omega arith)
counted_are own cs (u ∷ us) (n ∷ ns) long = ap (λ (xs : List ℕ). u ∷ xs) (counted_are own cs us ns (omega arith))

-- ---- charges

loads_listed : (ls : List NaturalLoop) (bounds fees : List ℕ) → length bounds ≡ length ls → length fees ≡ length ls → map (λ (l : BoundedLoop). l.load) (bounded_loops ls bounds fees) ≡ fees
loads_listed [] bounds [] lb lf = refl
loads_listed [] bounds (f ∷ fs) lb lf = absurd (omega arith)
loads_listed (l ∷ ls) [] fees lb lf = absurd (omega arith)
loads_listed (l ∷ ls) (b ∷ bs) [] lb lf = absurd (omega arith)
loads_listed (l ∷ ls) (b ∷ bs) (f ∷ fs) lb lf = ap (λ (xs : List ℕ). f ∷ xs) (loads_listed ls bs fs (omega arith) (omega arith))

pub charged_long : (loads : List ℕ) (flags : List Bool) → length flags ≡ length loads → length (charged loads flags) ≡ length loads
charged_long [] flags long = refl
charged_long (n ∷ ns) [] long = absurd (omega arith)
charged_long (n ∷ ns) (f ∷ fs) long = let rest = charged_long ns fs (omega arith) in omega arith

module _ (laws : AreFoundLaws) (P : Program) (set : BoundSetting) (table : List Known) (m : ℕ) (coded : Coded) (p : Prepared) (w : WalkCounts) (k : MethodCounts) (h : IsPreparedIn P set table m coded p) (walked : AreWalkCounts p w)
    (method : k.method ≡ m) (nodes : AreNodesOf set m table p w.visits.items k.nodes.items) (entered : k.entered.items ≡ w.entered.items) (fees : k.fees.items ≡ charged p.charges.loads.items p.charges.flags.items) where
  abbrev t : Timing
  t = set.timing

  abbrev bound_of : BoundOf
  bound_of = bounds_in set

  abbrev N : Numbers
  N = numbers_by table

  of : IsCodedOf P m coded
  of = h.flow.methods m coded h.at

  small : OwnAreSmall P set.timing m
  small = own_small laws.starts laws.kinds laws.costs laws.raises P set.timing m coded h.coded of h.waits.read h.waits.write

  abbrev bounded_in : List BoundedLoop
  bounded_in = loops_in laws.walks P set.timing (bounds_in set) table m p h.prepared small

  abbrev wb : ℕ → Bool
  wb u = slice_index_or nodes.without u false

  moved : MovedWalk h.prepared.graph p.shape.graph (node_of p.shape) p.costs.items bounded_in w.value w.visits.items w.entered.items
  moved =
      moved_walk h.prepared.graph p.shape.graph (node_of p.shape) (is_moved laws.walks P set.timing (bounds_in set) table m p h.prepared small) p.shape.nest h.prepared.shape.nest p.bounds.items (charged p.charges.loads.items p.charges.flags.items)
      (costs_of p) p.costs.items (moved_costs laws.walks P set.timing (bounds_in set) table m p h.prepared small) w.value w.visits.items w.entered.items walked.counts

  callees : AreCallees set.flow coded.calls table (load P set.timing.read m) nodes.without nodes.callees
  callees =
      let same : method_load set.timing.read set.flow.methods m ≡ load P set.timing.read m = sym (load_is set.timing.read set.flow.methods m coded h.at) ∙ load_of coded set.timing.read P m of in
      subst (λ (b : ℕ). AreCallees set.flow coded.calls table b nodes.without nodes.callees) same (nodes.are_callees coded h.at)

  owned : AreOwnCosts P set.timing m coded.code nodes.own
  owned = nodes.owned P coded h.at of

  own_at : (u : Node) → IsReached (IsLiveEdge P m) u → IsOwnCost P set.timing m u (slice_index nodes.own (number_of u))
  own_at (At q) reached = owned.instructions q (started laws.starts laws.kinds P set.timing set.flow h.flow table m coded h.at h.coded h.settled.told nodes.without nodes.callees callees q reached)
  own_at (RaiseAt q) reached = owned.raises q (raised laws.starts laws.kinds P set.timing set.flow h.flow table m coded h.at h.coded h.settled.told nodes.without nodes.callees callees q reached)

  without_is : (q : ℕ) → IsReached (IsLiveEdge P m) (At q) → wb (2 * q) ≡ is_without_at p.fits p.shape p.charges.flags.items (2 * q)
  without_is q reached =
      let among = in_nodes laws.walks P set.timing (bounds_in set) table m p h.prepared small (At q) reached in
      nodes.are_without.each (2 * q) (All-contains (λ x. x < p.shape.size) p.shape.nodes (2 * q) h.prepared.shape.within among)

  nodes_long : length p.shape.nodes ≡ length w.visits.items
  nodes_long = h.prepared.shape.long ∙ sym walked.counts.visits_long

  nodes_are : nodes_of k.nodes.items ≡ p.shape.nodes
  nodes_are = ap nodes_of nodes.are ∙ counted_are nodes.own nodes.callees p.shape.nodes w.visits.items nodes_long

  -- ---- by the number that is asked

  module _ (graph : Digraph) (bounded : List BoundedLoop) (costs : List ℕ) (pays : ℕ → Bool) (number : Option ℕ) (adds : ℕ → ℕ) (asks : Asks P set.timing (bounds_in set) (numbers_by table) m graph costs bounded pays number)
      (one : IsOne laws P set.timing (bounds_in set) coded table m p h.coded of h.settled.told h.shape h.prepared small graph bounded costs number) (is_asked : number ≡ asked_in table m)
      (are : AreCosts P set.timing m (IsLiveEdge P m) adds graph costs) (adds_are : (q : ℕ) → IsReached (IsLiveEdge P m) (At q) → adds q ≡ adds_if P set.timing table m q (wb (2 * q)))
      (pays_are : (q : ℕ) → IsReached (IsLiveEdge P m) (At q) → pays (2 * q) ≡ not (wb (2 * q))) where
    live_costs : AgreeOnLive P m p.costs.items costs
    live_costs = agree laws.walks P set.timing (bounds_in set) table m p h.prepared small costs one.are_limited walked.small

    value_is : number ≡ Some w.value
    value_is =
        sym (laws.walks.values_told P m h.prepared.graph p.costs.items costs bounded_in (Some w.value) number h.prepared.is_live live_costs
        (greatest_out laws.walks P set.timing (bounds_in set) table m p h.prepared small w.value walked.greatest) one.is_value)

    -- the walk costs the same
    attained : cost_of costs bounded moved.walk ≡ w.value
    attained =
        let there = on_walk laws.walks P set.timing (bounds_in set) table m p h.prepared small moved.bounded.walk (At 0) first refl in
        let node_costs : cost_of_nodes costs moved.walk ≡ cost_of_nodes p.costs.items moved.walk =
        same_sum (λ u. slice_index costs u) (λ u. slice_index p.costs.items u) moved.walk
        (λ x has. let n = there x has in subst (λ (y : ℕ). slice_index costs y ≡ slice_index p.costs.items y) (sym n.2) (sym (live_costs n.0 n.1)))
        in
        ap₂ (λ (a : ℕ) (ls : List BoundedLoop). a + cost_of_entries ls moved.walk) node_costs one.same_loops ∙ moved.attained

    adds_at : (u : Node) → IsReached (IsLiveEdge P m) u → added_at adds u ≡ added_at (λ q. adds_if P set.timing table m q (wb (2 * q))) u
    adds_at (At q) reached = adds_are q reached
    adds_at (RaiseAt q) reached = refl

    node_is : (i : ℕ) → i < length p.shape.nodes → (u : Node) → IsReached (IsLiveEdge P m) u → get_or p.shape.nodes i 0 ≡ number_of u
        → IsNodeCount P set.timing (asked_in table) m costs pays moved.walk
        (counted_node (get_or p.shape.nodes i 0) (get_or w.visits.items i 0) (slice_index nodes.own (get_or p.shape.nodes i 0)) (callee_at nodes.callees (get_or p.shape.nodes i 0)))
    node_is i lt u reached is =
        let x = get_or p.shape.nodes i 0 in
        let cost = are.each u reached in
        let mine = own_at u reached in
        let own : cost.0 ≡ slice_index nodes.own (number_of u) = same_own P set.timing m u cost.0 (slice_index nodes.own (number_of u)) cost.1 mine in
        let sum : slice_index costs (number_of u) ≡ slice_index nodes.own (number_of u) + added_at (λ q. adds_if P set.timing table m q (wb (2 * q))) u = cost.2 ∙ ap₂ (λ (a b : ℕ). a + b) own (adds_at u reached) in
        let few : slice_index p.costs.items (number_of u) < cycles_limit =
        All-contains (λ y. slice_index p.costs.items y < cycles_limit) p.shape.nodes (number_of u) walked.small (in_nodes laws.walks P set.timing (bounds_in set) table m p h.prepared small u reached)
        in
        let same_cost = live_costs u reached in
        let added_u = node_added laws.starts laws.kinds P set.timing set.flow h.flow table m coded h.at h.coded h.settled.told nodes.without nodes.callees callees u reached (omega arith) pays
        (λ q e. pays_are q (subst (λ (v : Node). IsReached (IsLiveEdge P m) v) e reached)) in
        let long = h.prepared.shape.long in
        record {
          node = u;
          is_node = is;
          visits = moved.visits_are i (omega arith);
          own = subst (λ (y : ℕ). IsOwnCost P set.timing m u (slice_index nodes.own y)) (sym is) mine;
          added = added_at (λ q. adds_if P set.timing table m q (wb (2 * q))) u;
          is_added = subst (λ (y : ℕ). IsAdded P set.timing (asked_in table) m u (pays y) (callee_at nodes.callees y).target (callee_at nodes.callees y).loads (added_at (λ q. adds_if P set.timing table m q (wb (2 * q))) u)) (sym is) added_u;
          costs_are = subst (λ (y : ℕ). slice_index costs y ≡ slice_index nodes.own y + added_at (λ q. adds_if P set.timing table m q (wb (2 * q))) u) (sym is) sum;
        }

    each : All (IsNodeCount P set.timing (asked_in table) m costs pays moved.walk) k.nodes.items
    each =
        let Q : NodeCount → Type 0 = λ c. IsNodeCount P set.timing (asked_in table) m costs pays moved.walk c in
        subst (λ (cs : List NodeCount). All Q cs) (sym nodes.are)
        (counted_all Q nodes.own nodes.callees p.shape.nodes w.visits.items (λ i lt.
        let r = from_nodes laws.walks P set.timing (bounds_in set) table m p h.prepared small (get_or p.shape.nodes i 0) (Contains-get_or p.shape.nodes i 0 lt) in
        node_is i lt r.0 r.1 r.2))

    rising : IsStrictlyIncreasing (nodes_of k.nodes.items)
    rising =
        subst IsStrictlyIncreasing (sym nodes_are)
        (λ i lt. let long = h.prepared.shape.long in h.prepared.shape.compact.rising i (i + 1) (omega arith) (omega arith))

    visited : All (Contains (nodes_of k.nodes.items)) moved.walk
    visited i d lt =
        let x = get_or moved.walk i d in
        let r = moved.among x (Contains-get_or moved.walk i d lt) in
        let below = r.1 in
        let long = h.prepared.shape.long in
        subst (λ (us : List ℕ). Contains us x) (sym nodes_are) (contains_at p.shape.nodes r.0 x (omega arith) r.2)

    loads_are : map (λ (l : BoundedLoop). l.load) bounded ≡ charged p.charges.loads.items p.charges.flags.items
    loads_are =
        let nest : length (nest_of p.shape) ≡ length p.shape.nest = length-map p.shape.nest (moved_natural (node_of p.shape)) in
        let bounds = h.shape.bounds in
        let loads = h.shape.loads in
        let flags = h.shape.flags in
        let long = charged_long p.charges.loads.items p.charges.flags.items (omega arith) in
        ap (map (λ (l : BoundedLoop). l.load)) one.same_loops ∙ loads_listed (nest_of p.shape) p.bounds.items (charged p.charges.loads.items p.charges.flags.items) (omega arith) (omega arith)

    counts_by : AreCountsOf P set.timing (bounds_in set) (numbers_by table) (asked_in table) k
    counts_by = record {
      graph = graph;
      costs = costs;
      loops = bounded;
      pays = pays;
      number = number;
      asks = subst (λ (x : ℕ). Asks P set.timing (bounds_in set) (numbers_by table) x graph costs bounded pays number) (sym method) asks;
      value = w.value;
      number_is = value_is;
      asked_is = ap (asked_in table) method ∙ (sym is_asked ∙ value_is);
      walk = moved.walk;
      bounded =
          subst (λ (g : Digraph). IsBoundedWalk g bounded moved.walk) (sym one.same_graph)
          (subst (λ (ls : List BoundedLoop). IsBoundedWalk h.prepared.graph ls moved.walk) (sym one.same_loops) moved.bounded);
      attained = attained;
      each = subst (λ (x : ℕ). All (IsNodeCount P set.timing (asked_in table) x costs pays moved.walk) k.nodes.items) (sym method) each;
      rising = rising;
      visited = visited;
      entered = entered ∙ (moved.entered_are ∙ ap (map (λ (l : BoundedLoop). entries l.members moved.walk)) (sym one.same_loops));
      fees = fees ∙ sym loads_are;
    }

  -- ---- by whether all that may run fits

  counts_inside : p.fits ≡ true → RegionFits P set.timing m → AreCountsOf P set.timing (bounds_in set) (numbers_by table) (asked_in table) k
  counts_inside fits together =
      let x = h.settled.numbers.inside together in
      let flag : (q : ℕ) → IsReached (IsLiveEdge P m) (At q) → wb (2 * q) ≡ true =
      λ q reached. without_is q reached ∙ ap (λ (b : Bool). is_without_at b p.shape p.charges.flags.items (2 * q)) fits
      in
      counts_by x.flow.graph (charged_loops x.flow (no_fees x.flow)) x.costs (λ u. false) (asked_in table m) (λ q. added P m q (numbers_by table).inside) (inside together x)
      (one_inside laws P set.timing (bounds_in set) coded table m p h.coded of h.settled.told h.shape h.prepared small fits together (numbers_by table) (λ y call. agree_with P set.timing table h.limited y) x)
      refl x.are_costs (λ q reached. ap (λ (b : Bool). adds_if P set.timing table m q b) (sym (flag q reached))) (λ q reached. ap not (sym (flag q reached)))

  counts_loops : p.fits ≡ false → (RegionFits P set.timing m → ⊥) → AreCountsOf P set.timing (bounds_in set) (numbers_by table) (asked_in table) k
  counts_loops exceeds apart =
      let x = h.settled.numbers.loops apart in
      let flow = live_nest laws.walks P set.timing (bounds_in set) table m p h.prepared small in
      let own = loop_charges laws P set.timing (bounds_in set) coded table m p h.coded of h.settled.told h.shape h.prepared small exceeds in
      let marks : x.flags ≡ p.charges.flags.items = laws.charges P set.timing (bounds_in set) m x.flow flow x.flags p.charges.flags.items x.charged own.charged in
      let same : (u : ℕ) → is_in_charged x.flow.nest x.flags u ≡ is_in_charged (nest_of p.shape) p.charges.flags.items u =
      λ u. ap (λ (fs : List Bool). is_in_charged x.flow.nest fs u) marks ∙ same_charged x.flow.nest (nest_of p.shape) (same_members laws.charged_loops P (bounds_in set) m x.flow flow) p.charges.flags.items u
      in
      let flag : (q : ℕ) → IsReached (IsLiveEdge P m) (At q) → is_in_charged x.flow.nest x.flags (2 * q) ≡ wb (2 * q) =
      λ q reached. same (2 * q) ∙ sym (without_is q reached ∙ ap (λ (b : Bool). is_without_at b p.shape p.charges.flags.items (2 * q)) exceeds)
      in
      counts_by x.flow.graph (charged_loops x.flow x.fees) x.costs (λ u. not (is_in_charged x.flow.nest x.flags u)) (asked_in table m) (loops_adds P set.timing (numbers_by table) m x.flow.nest x.flags) (loops apart x)
      (one_loops_number laws P set.timing (bounds_in set) coded table m p h.coded of h.settled.told h.shape h.prepared small exceeds (numbers_by table) (λ y call. agree_with P set.timing table h.limited y) x)
      refl x.are_costs (λ q reached. ap (λ (b : Bool). adds_if P set.timing table m q b) (flag q reached)) (λ q reached. ap not (flag q reached))

  pub counts_of : AreCountsOf P set.timing (bounds_in set) (numbers_by table) (asked_in table) k
  counts_of =
      elim (cases_Bool p.fits) [
        | inl together ↦ counts_inside together (h.prepared.fits.0 together)
        | inr apart ↦ counts_loops apart (λ region. let bad : false ≡ true = sym apart ∙ h.prepared.fits.1 region in cc)
      ]

pub counts_are_of_walks : AreFoundLaws → CountsAreOfWalks
counts_are_of_walks laws P set table m coded p w k h walked method nodes entered fees = counts_of laws P set table m coded p w k h walked method nodes entered fees
