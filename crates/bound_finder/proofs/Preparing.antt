-- What is prepared of a method by the table is what its walks are asked on, for each program of the table.
use Rattle.std.proofs.Common.{◌≡◌, ℕ, ◌+◌, ◌*◌, ◌<◌, Bool, true, false, List, length, map, All, Option, Some, None, get_or, ◌^◌, [], refl, sym, ap, ◌∙◌, subst, inl, inr, arith}
use Rattle.std.specs.Prelude.{◌↔◌, slice_get, slice_index_or, unwrap_or, IsTrue, Result, Ok, Err, IfOk}
use Rattle.std.proofs.lemmas.List.{length-map}
use Rattle.std.proofs.lemmas.Option.{slice_get-get_or}
use Rattle.lists.proofs.Lemmas.{some_same}
use Rattle.loop_nest.specs.Nest.{NaturalLoop, headers_of}
use Rattle.path_solver.specs.Reaching.{IsFlagged}
use Rattle.path_solver.specs.Regions.{AreRegionsApart}
use Rattle.method_flow.specs.declared.flow.Call.{Call}
use Rattle.method_flow.specs.Keeping.{BoundOf}
use Rattle.loop_nest.specs.Digraph.{Digraph}
use Rattle.loop_nest.proofs.Ends.{ends_within}
use Rattle.bytecode_model.specs.Program.{Program}
use Rattle.method_flow.specs.Flow.{Coded, IsCoded, IsCodedOf, IsFlowOf}
use Rattle.method_flow.specs.Graphs.{IsGraphBy, IsLiveGraph}
use Rattle.method_flow.specs.Nodes.{Node, At, RaiseAt, number_of, IsReached}
use Rattle.method_flow.specs.Nodes.IsReached.{first, later}
use Rattle.method_flow.specs.Regions.{load}
use Rattle.method_flow.specs.declared.timing.Timing.{Timing}
use Rattle.flow_graph.specs.Laws.{IsGraphWhere}
use Rattle.node_costs.specs.Costs.{AreOwnCosts, method_load}
use Rattle.node_costs.proofs.Loading.{load_of}
use Rattle.bound_rules.specs.declared.faults.BoundRefusal.{BoundRefusal}
use Rattle.bound_rules.specs.Costs.{added_at}
use Rattle.bound_rules.specs.Fitting.{RegionFits, header_bound}
use Rattle.compact_walks.specs.Limited.{cycles_limit, limited}
use Rattle.compact_walks.specs.Moving.{moved_natural}
use Rattle.bound_finder.specs.declared.known.Known.{Known}
use Rattle.bound_finder.specs.declared.telling.Told.{Told}
use Rattle.bound_finder.specs.declared.shape.Shape.{Shape}
use Rattle.bound_finder.specs.declared.prepared.Prepared.{Prepared}
use Rattle.bound_finder.specs.Known.{BoundSetting, bounds_in, CalleesAreKnown}
use Rattle.bound_finder.specs.Telling.{AreToldBy, AreToldIn}
use Rattle.bound_finder.specs.Prepared.{node_of, nest_of, call_count, IsLeftBy, AreCostsBy, IsInShape, AreToldWith, IsShapeOf, AreBounds, IsUnbounded, AreChargesOf, adds_by, is_without, AreWithout, AreLimitedCosts, IsPreparedFor, IsShapeWith, HasNoShapeWith, IsNotPrepared, AreMethodCosts}
use Rattle.bound_finder.specs.Laws.{GraphsWhereTargetsEnd, CostsAreLimited, ToldCosts}
use Rattle.bound_finder.proofs.Told.{load_is}

-- ---- of the method itself

abbrev goes : List Told → List Bool
goes told = map (λ (s : Told). s.goes_on) told

pub count_is : (set : BoundSetting) (m : ℕ) (k : Coded) → slice_get set.flow.methods m ≡ Some k → call_count set m ≡ length k.calls
count_is set m k is = ap (λ (o : Option Coded). elim o [ None ↦ 0 | Some x ↦ length x.calls ]) is

pub shape_with : (set : BoundSetting) (m : ℕ) (told : List Told) (k : Coded) (g : Digraph) (s : Shape) → slice_get set.flow.methods m ≡ Some k → IsGraphWhere k (goes told) g → g.nodes ≡ 2 * length k.code → IsShapeOf g s
    → IsShapeWith set m told s
shape_with set m told k g s is where_all size shape j at =
    let K : Coded → Type 0 = λ x. (h : Digraph) × IsGraphWhere x (goes told) h × (h.nodes ≡ 2 * length x.code) × IsShapeOf h s in
    subst K (some_same k j (sym is ∙ at)) (g, where_all, size, shape)

pub no_shape_with : (set : BoundSetting) (m : ℕ) (told : List Told) (k : Coded) (g : Digraph) (e : BoundRefusal) → slice_get set.flow.methods m ≡ Some k → IsGraphWhere k (goes told) g → IsLeftBy g m e → HasNoShapeWith set m told e
no_shape_with set m told k g e is where_all left =
    let K : Coded → Type 0 = λ x. (h : Digraph) × IsGraphWhere x (goes told) h × IsLeftBy h m e in
    inr (λ j at. subst K (some_same k j (sym is ∙ at)) (g, where_all, left))

no_coded : Coded
no_coded = record { name = []; code = []; ranges = []; calls = [] }

pub has_shape : (set : BoundSetting) (m : ℕ) (told : List Told) (s : Shape) → m < length set.flow.methods → IsShapeWith set m told s → (g : Digraph) × IsShapeOf g s
has_shape set m told s below shape = let g = shape (get_or set.flow.methods m no_coded) (slice_get-get_or set.flow.methods m no_coded below) in (g.0, g.3)

pub small_own : (own : List ℕ) → All (λ c. c < 2 ^ 61) own → All (λ c. c < cycles_limit) own
small_own own small i d lt = let h = small i d lt in omega arith

pub method_costs_are : (set : BoundSetting) (m : ℕ) (s : Shape) (fits : Bool) (flags : List Bool) (told : List Told) (k : Coded) (t : Timing) (own read : List ℕ) (calls : List Call) (costs : List ℕ) → slice_get set.flow.methods m ≡ Some k
    → t ≡ set.timing → calls ≡ k.calls → read ≡ own → ((P : Program) (n : ℕ) → IsCodedOf P n k → AreOwnCosts P t n k.code own) → All (λ c. c < 2 ^ 61) own → AreCostsBy read calls told fits s flags costs
    → AreMethodCosts set m s fits flags told costs
method_costs_are set m s fits flags told k t own read calls costs is timed calls_are read_is owned small sums = record {
  own = own;
  owned = λ P j at coded.
      let same : j ≡ k = some_same j k (sym at ∙ is) in
      let T : Timing → Type 0 = λ x. AreOwnCosts P x m j.code own in
      let K : Coded → Type 0 = λ x. AreOwnCosts P t m x.code own in
      subst T timed (subst K (sym same) (owned P m (subst (λ (x : Coded). IsCodedOf P m x) same coded)));
  small = small_own own small;
  sums = λ j at.
      let same : k ≡ j = some_same k j (sym is ∙ at) in
      let R : List ℕ → Type 0 = λ xs. AreCostsBy xs j.calls told fits s flags costs in
      let C : List Call → Type 0 = λ cs. AreCostsBy read cs told fits s flags costs in
      subst R read_is (subst C (calls_are ∙ ap (λ (x : Coded). x.calls) same) sums);
}

bounds_long : (bound_of : BoundOf) (m : ℕ) (s : Shape) (bounds : List ℕ) → AreBounds bound_of m s bounds → length bounds ≡ length s.nest
bounds_long bound_of m s bounds are =
    ap length are.are ∙ length-map (headers_of (nest_of s)) (λ (h : ℕ). unwrap_or (header_bound bound_of m h) 0) ∙ length-map (nest_of s) (λ (l : NaturalLoop). l.header) ∙ length-map s.nest (moved_natural (node_of s))

pub in_shape : (set : BoundSetting) (m : ℕ) (told : List Told) (p : Prepared) → m < length set.flow.methods → IsShapeWith set m told p.shape → AreBounds (bounds_in set) m p.shape p.bounds.items → length p.charges.flags.items ≡ length p.shape.nest
    → length p.charges.loads.items ≡ length p.shape.nest → AreRegionsApart p.shape.nest p.charges.flags.items → (p.fits ≡ true → (i : ℕ) → ¬ IsFlagged p.charges.flags.items i) → length p.costs.items ≡ p.shape.size → IsInShape p
in_shape set m told p below shape bounds flags loads apart inside costs = record {
  shape = has_shape set m told p.shape below shape;
  bounds = bounds_long (bounds_in set) m p.shape p.bounds.items bounds;
  flags = flags;
  loads = loads;
  costs = costs;
  apart = apart;
  inside = inside;
}

-- ---- costs

live_below : (IsEdgeIn : Node → Node → Type 0) (P : Program) (m : ℕ) (g : Digraph) → IsGraphBy IsEdgeIn P m g → {u : Node} → IsReached IsEdgeIn u → number_of u < g.nodes
live_below IsEdgeIn P m g graph first = graph.digraph.entry
live_below IsEdgeIn P m g graph (later {u} {v} r e) =
    (ends_within graph.digraph (number_of u) (number_of v) ((graph.edges (number_of u) (number_of v)).1 (record { source = u; target = v; reached = r; edge = e; numbered = (refl, refl) }))).1

module _ (P : Program) (t : Timing) (table : List Known) (m : ℕ) (fits : Bool) (s : Shape) (flags without : List Bool) (are : AreWithout fits s flags without) where
  same_adds : (u : Node) → number_of u < s.size → added_at (λ q. adds_by P t table m (slice_index_or without (2 * q) false) q) u ≡ added_at (λ q. adds_by P t table m (is_without fits s flags q) q) u
  same_adds (At p) lt = ap (λ (b : Bool). adds_by P t table m b p) (are.each (2 * p) lt)
  same_adds (RaiseAt p) lt = refl

  costs_for : (g : Digraph) (costs : List ℕ) → s.size ≡ g.nodes → IsLiveGraph P m g → AreLimitedCosts P t m (λ q. adds_by P t table m (slice_index_or without (2 * q) false) q) g costs
      → AreLimitedCosts P t m (λ q. adds_by P t table m (is_without fits s flags q) q) g costs
  costs_for g costs size graph h = record {
    long = h.long;
    each = λ u r.
        let x = h.each u r in
        let below = live_below _ P m g graph r in
        (x.0, x.1, x.2 ∙ ap (λ (a : ℕ). limited (x.0 + a)) (same_adds u (subst (λ (n : ℕ). number_of u < n) (sym size) below)));
  }

-- ---- a method

module _ (ends : GraphsWhereTargetsEnd) (sums : CostsAreLimited) (set : BoundSetting) (m : ℕ) (table : List Known) (k : Coded) (told : List Told) (is : slice_get set.flow.methods m ≡ Some k) (c : IsCoded k) (are : AreToldIn set m table told) where
  live : (g : Digraph) → IsGraphWhere k (map (λ (s : Told). s.goes_on) told) g → (P : Program) → IsFlowOf P set.flow → CalleesAreKnown P set.timing table m → IsLiveGraph P m g
  live g where_all P of told_end = ends P set.timing set.flow m k table (method_load set.timing.read set.flow.methods m) told g of is c told_end (are.1 k is) (where_all P m (of.methods m k is))

  by_load : (P : Program) → IsFlowOf P set.flow → AreToldBy table (load P set.timing.read m) set.flow k.calls told
  by_load P of =
      let same : method_load set.timing.read set.flow.methods m ≡ load P set.timing.read m = sym (load_is set.timing.read set.flow.methods m k is) ∙ load_of k set.timing.read P m (of.methods m k is) in
      subst (λ (b : ℕ). AreToldBy table b set.flow k.calls told) same (are.1 k is)

  abbrev told_costs : Program → Prepared → (own : List ℕ) (without : List Bool) → Digraph → ToldCosts
  told_costs P p own without g = record {
    program = P;
    timing = set.timing;
    flow = set.flow;
    table = table;
    method = m;
    coded = k;
    graph = g;
    own = own;
    told = told;
    without = without;
    costs = p.costs.items;
  }

  pub prepared_for : (p : Prepared) → IsShapeWith set m told p.shape → AreBounds (bounds_in set) m p.shape p.bounds.items → ((P : Program) → IsFlowOf P set.flow → AreChargesOf P set.timing m p.shape p.fits p.charges)
      → AreMethodCosts set m p.shape p.fits p.charges.flags.items told p.costs.items → ((P : Program) → IsFlowOf P set.flow → IsTrue p.fits ↔ RegionFits P set.timing m)
      → (P : Program) → IsFlowOf P set.flow → CalleesAreKnown P set.timing table m → IsPreparedFor P set.timing (bounds_in set) table m p
  prepared_for p shape bounds charges costs fits P of told_end =
      let g = shape k is in
      let graph = live g.0 g.1 P of told_end in
      let sum = costs.sums k is in
      let limited_costs = sums (told_costs P p costs.own sum.0 g.0) (record { flow = of; at = is; coded = c; graph = graph; own = costs.owned P k is (of.methods m k is); small = costs.small; told = by_load P of; added = sum.2 }) in
      record {
        graph = g.0;
        is_live = graph;
        shape = g.3;
        fits = fits P of;
        bounds = bounds;
        charges = charges P of;
        costs = costs_for P set.timing table m p.fits p.shape p.charges.flags.items sum.0 sum.1 g.0 p.costs.items g.3.size graph limited_costs;
      }

  pub unshaped : (e : BoundRefusal) → HasNoShapeWith set m told e → (P : Program) → IsFlowOf P set.flow → CalleesAreKnown P set.timing table m → IsNotPrepared P (bounds_in set) m e
  unshaped e h P of told_end =
      elim h [
        | inl none ↦ inl none
        | inr at ↦ let g = at k is in inr (g.0, live g.0 g.1 P of told_end, inl g.2)
      ]

  pub unbounded : (s : Shape) (e : BoundRefusal) → IsShapeWith set m told s → IsUnbounded (bounds_in set) m s e → (P : Program) → IsFlowOf P set.flow → CalleesAreKnown P set.timing table m → IsNotPrepared P (bounds_in set) m e
  unbounded s e shape h P of told_end = let g = shape k is in inr (g.0, live g.0 g.1 P of told_end, inr (s, g.3, h))

  pub told_with : AreToldWith set m told
  told_with = record { long = (are.1 k is).long ∙ sym (count_is set m k is); small = are.0 }

  abbrev IsPreparedForEach : Prepared → Type 0
  IsPreparedForEach p = (P : Program) → IsFlowOf P set.flow → CalleesAreKnown P set.timing table m → IsPreparedFor P set.timing (bounds_in set) table m p

  pub prepared_ok : (s : Shape) (fits : Bool) → IsShapeWith set m told s → ((P : Program) → IsFlowOf P set.flow → IsTrue fits ↔ RegionFits P set.timing m) → (r : Result Prepared BoundRefusal)
      → IfOk r (λ p. (p.shape ≡ s) × (p.fits ≡ fits)) → IfOk r (λ p. AreBounds (bounds_in set) m s p.bounds.items) → IfOk r (λ p. (P : Program) → IsFlowOf P set.flow → AreChargesOf P set.timing m s fits p.charges)
      → IfOk r (λ p. AreMethodCosts set m s fits p.charges.flags.items told p.costs.items) → IfOk r IsPreparedForEach
  prepared_ok s fits shape fit (Ok p) same bounds charges costs =
      let shaped = sym same.0 in
      let fitting = sym same.1 in
      prepared_for p (subst (λ (x : Shape). IsShapeWith set m told x) shaped shape) (subst (λ (x : Shape). AreBounds (bounds_in set) m x p.bounds.items) shaped bounds)
      (λ P of. subst (λ (b : Bool). AreChargesOf P set.timing m p.shape b p.charges) fitting (subst (λ (x : Shape). AreChargesOf P set.timing m x fits p.charges) shaped (charges P of)))
      (subst (λ (b : Bool). AreMethodCosts set m p.shape b p.charges.flags.items told p.costs.items) fitting (subst (λ (x : Shape). AreMethodCosts set m x fits p.charges.flags.items told p.costs.items) shaped costs))
      (λ P of. subst (λ (b : Bool). IsTrue b ↔ RegionFits P set.timing m) fitting (fit P of))
  prepared_ok s fits shape fit (Err e) same bounds charges costs = tt

pub bounds_ok : (set : BoundSetting) (m : ℕ) (s : Shape) (fits : Bool) (r : Result Prepared BoundRefusal) → IfOk r (λ p. (p.shape ≡ s) × (p.fits ≡ fits)) → IfOk r (λ p. AreBounds (bounds_in set) m s p.bounds.items)
    → IfOk r (λ p. AreBounds (bounds_in set) m p.shape p.bounds.items)
bounds_ok set m s fits (Ok p) same bounds = subst (λ (x : Shape). AreBounds (bounds_in set) m x p.bounds.items) (sym same.0) bounds
bounds_ok set m s fits (Err e) same bounds = tt
