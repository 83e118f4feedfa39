-- The numbers of a method under a family are asked of the graph, the loops and the charges that it was prepared with.
use Rattle.std.proofs.Common.{◌≡◌, ℕ, suc, ◌+◌, ◌*◌, Bool, true, false, List, [], ◌∷◌, length, map, get_or, Option, refl, sym, ap, ◌∙◌, subst, arith}
use Rattle.std.specs.Prelude.{if◌then◌else◌}
use Rattle.std.proofs.lemmas.List.{length-map}
use Rattle.loop_nest.specs.Digraph.{Digraph}
use Rattle.section_check.specs.Bounded.{BoundedLoop}
use Rattle.opcodes.specs.Start.{AreStarts}
use Rattle.micro_flow.specs.Costs.{CostsAreSmall, RaiseIsSmall}
use Rattle.path_solver.specs.Reaching.{IsFlagged}
use Rattle.path_solver.specs.Regions.{charged}
use Rattle.bytecode_model.specs.Program.{Program}
use Rattle.method_flow.specs.Flow.{Coded, IsCoded, IsCodedOf}
use Rattle.method_flow.specs.Keeping.{BoundOf}
use Rattle.method_flow.specs.Kinds.{RowsAreOfTheirKinds}
use Rattle.method_flow.specs.Live.{IsLiveEdge}
use Rattle.method_flow.specs.Nodes.{At, IsReached}
use Rattle.method_flow.specs.Recursion.{MayCall}
use Rattle.method_flow.specs.Walks.{EndingIsAWalk}
use Rattle.method_flow.specs.declared.timing.Timing.{Timing}
use Rattle.bound_rules.specs.Costs.{added}
use Rattle.bound_rules.specs.Fitting.{RegionFits}
use Rattle.bound_rules.specs.Laws.{CalledFit, ChargesAreOne, ChargedLoopsAreOne, LiveGraphsAreOne}
use Rattle.bound_rules.specs.Numbers.{Numbers, LiveNest, charged_loops, no_fees, IsGreatestValue, AreCharged, AreLoads, is_in_charged, full_and_back, loops_adds, IsInside, IsLoops}
use Rattle.compact_walks.specs.Limited.{limited}
use Rattle.compact_walks.specs.Moving.{moved_natural}
use Rattle.bound_finder.specs.declared.known.Known.{Known}
use Rattle.bound_finder.specs.declared.prepared.Prepared.{Prepared}
use Rattle.bound_finder.specs.Known.{known_at, CalleesAreKnown, Agrees}
use Rattle.bound_finder.specs.Prepared.{node_of, nest_of, adds_by, is_without, AreChargesOf, IsInShape, IsPreparedFor}
use Rattle.bound_finder.specs.Prepared.AreChargesOf.{none, some}
use Rattle.bound_finder.proofs.Alike.{same_long, same_members, same_charged, same_fees}
use Rattle.bound_finder.proofs.Costing.{region_told, loops_told, limited_costs}
use Rattle.bound_finder.proofs.Measuring.{AreWalkLaws, OwnAreSmall, fees_in, loops_in, live_nest, loops_are}
use Rattle.bound_finder.proofs.Valuing.{AreLimitedOf}

-- ---- loops that aren't charged

zeros : {X Y : Type 0} (xs : List X) (ys : List Y) → length xs ≡ length ys → map {B = ℕ} (λ (x : X). 0) xs ≡ map {B = ℕ} (λ (y : Y). 0) ys
zeros [] [] long = refl
zeros [] (y ∷ ys) long = absurd (omega arith)
zeros (x ∷ xs) [] long = absurd (omega arith)
zeros (x ∷ xs) (y ∷ ys) long = ap (λ (ns : List ℕ). 0 ∷ ns) (zeros xs ys (omega arith))

none_charged : (loads : List ℕ) (flags : List Bool) → length flags ≡ length loads → ((i : ℕ) → IsFlagged flags i → ⊥) → charged loads flags ≡ map {B = ℕ} (λ (n : ℕ). 0) loads
none_charged [] flags long never = refl
none_charged (n ∷ ns) [] long never = absurd (omega arith)
none_charged (n ∷ ns) (true ∷ flags) long never = absurd (never 0 refl)
none_charged (n ∷ ns) (false ∷ flags) long never = ap (λ (ms : List ℕ). 0 ∷ ms) (none_charged ns flags (omega arith) (λ i flagged. never (i + 1) (later i flagged)))
  where
    later : (i : ℕ) → IsFlagged flags i → IsFlagged (false ∷ flags) (i + 1)
    later i flagged = let e : i + 1 ≡ suc i = omega arith in subst (λ (j : ℕ). get_or (false ∷ flags) j false ≡ true) (sym e) flagged

-- ---- what is used of programs

pub record AreFoundLaws : Type 0 where
  pub walks : AreWalkLaws
  pub starts : (code : List ℕ) → AreStarts code
  pub kinds : RowsAreOfTheirKinds
  pub ending : EndingIsAWalk
  pub costs : CostsAreSmall
  pub raises : RaiseIsSmall
  pub called : CalledFit
  pub live_graphs : LiveGraphsAreOne
  pub charged_loops : ChargedLoopsAreOne
  pub charges : ChargesAreOne

module _ (laws : AreFoundLaws) (P : Program) (t : Timing) (bound_of : BoundOf) (k : Coded) (table : List Known) (m : ℕ) (p : Prepared) (c : IsCoded k) (of : IsCodedOf P m k) (ends : CalleesAreKnown P t table m) (shape : IsInShape p)
    (h : IsPreparedFor P t bound_of table m p) (small : OwnAreSmall P t m) where
  abbrev flow : LiveNest P bound_of m
  flow = live_nest laws.walks P t bound_of table m p h small

  abbrev loops : List BoundedLoop
  loops = loops_in laws.walks P t bound_of table m p h small

  abbrev fees : List ℕ
  fees = fees_in laws.walks P t bound_of table m p h small

  abbrev flags : List Bool
  flags = p.charges.flags.items

  -- a graph, its loops, costs and a value are those that the method was prepared with, but that its costs are limited
  pub record IsOne (graph : Digraph) (bounded : List BoundedLoop) (costs : List ℕ) (value : Option ℕ) : Type 0 where
    pub same_graph : graph ≡ h.graph
    pub same_loops : bounded ≡ loops
    pub are_limited : AreLimitedOf laws.walks P t bound_of table m p h small costs
    pub is_value : IsGreatestValue h.graph costs loops value

  one_graph : (x : LiveNest P bound_of m) → x.graph ≡ h.graph
  one_graph x = laws.live_graphs P m x.graph h.graph x.is_live h.is_live

  -- loops with these charges
  one_loops : (x : LiveNest P bound_of m) (others : List ℕ) → others ≡ fees → charged_loops x others ≡ loops
  one_loops x others same = ap (λ (fs : List ℕ). charged_loops x fs) same ∙ ((laws.charged_loops P bound_of m x flow fees).1 ∙ loops_are laws.walks P t bound_of table m p h small)

  value_there : (graph : Digraph) (bounded : List BoundedLoop) (costs : List ℕ) (value : Option ℕ) → graph ≡ h.graph → bounded ≡ loops → IsGreatestValue graph costs bounded value → IsGreatestValue h.graph costs loops value
  value_there graph bounded costs value e e' is = subst (λ (ls : List BoundedLoop). IsGreatestValue h.graph costs ls value) e' (subst (λ (g : Digraph). IsGreatestValue g costs bounded value) e is)

  -- ---- without loads

  pub plain_fees : p.fits ≡ true → (x : LiveNest P bound_of m) → no_fees x ≡ fees
  plain_fees fits x = by h.charges
    where
      by : AreChargesOf P t m p.shape p.fits p.charges → no_fees x ≡ fees
      by (none e never) =
          let long : length x.nest ≡ length (nest_of p.shape) = same_long laws.charged_loops P bound_of m x flow in
          let nest : length (nest_of p.shape) ≡ length p.shape.nest = length-map p.shape.nest (moved_natural (node_of p.shape)) in
          let loads = shape.loads in
          let flagged = shape.flags in
          zeros x.nest p.charges.loads.items (omega arith) ∙ sym (none_charged p.charges.loads.items flags (omega arith) never)
      by (some e are loaded) = let bad : false ≡ true = sym e ∙ fits in absurd (cc)

  pub told_inside : p.fits ≡ true → RegionFits P t m → (N : Numbers) → ((x : ℕ) → MayCall P m x → Agrees P t N x (known_at table x)) → (q : ℕ) → IsReached (IsLiveEdge P m) (At q)
      → adds_by P t table m (is_without p.fits p.shape flags q) q ≡ limited (added P m q N.inside)
  told_inside fits together N agrees q reached =
      ap (λ (b : Bool). adds_by P t table m (is_without b p.shape flags q) q) fits ∙ region_told laws.starts laws.kinds laws.called P t m k c of table ends N agrees together q reached

  pub one_inside : p.fits ≡ true → RegionFits P t m → (N : Numbers) → ((x : ℕ) → MayCall P m x → Agrees P t N x (known_at table x)) → (x : IsInside P t bound_of N m)
      → IsOne x.flow.graph (charged_loops x.flow (no_fees x.flow)) x.costs (N.inside m)
  one_inside fits together N agrees x =
      let graph = one_graph x.flow in
      let same = one_loops x.flow (no_fees x.flow) (plain_fees fits x.flow) in
      record {
        same_graph = graph;
        same_loops = same;
        are_limited = limited_costs laws.walks P t bound_of table m p h small (λ q. added P m q N.inside) (told_inside fits together N agrees) x.flow.graph x.costs x.are_costs;
        is_value = value_there x.flow.graph (charged_loops x.flow (no_fees x.flow)) x.costs (N.inside m) graph same x.value;
      }

  -- ---- with the loads of loops

  pub record AreLoopCharges : Type 0 where
    pub charged : AreCharged P t m (nest_of p.shape) flags
    pub loads : AreLoads P t m (nest_of p.shape) flags fees

  pub loop_charges : p.fits ≡ false → AreLoopCharges
  loop_charges exceeds = by h.charges
    where
      by : AreChargesOf P t m p.shape p.fits p.charges → AreLoopCharges
      by (none e never) = let bad : false ≡ true = sym exceeds ∙ e in absurd (cc)
      by (some e are loaded) = record { charged = are; loads = loaded }

  pub told_loops : p.fits ≡ false → (N : Numbers) → ((x : ℕ) → MayCall P m x → Agrees P t N x (known_at table x)) → (q : ℕ) → IsReached (IsLiveEdge P m) (At q)
      → adds_by P t table m (is_without p.fits p.shape flags q) q ≡ limited (loops_adds P t N m (nest_of p.shape) flags q)
  told_loops exceeds N agrees q reached =
      ap (λ (b : Bool). adds_by P t table m (is_without b p.shape flags q) q) exceeds
      ∙ loops_told laws.starts laws.kinds laws.called P t m k c of table ends N agrees (nest_of p.shape) flags (loop_charges exceeds).charged q reached

  pub one_loops_number : p.fits ≡ false → (N : Numbers) → ((x : ℕ) → MayCall P m x → Agrees P t N x (known_at table x)) → (x : IsLoops P t bound_of N m)
      → IsOne x.flow.graph (charged_loops x.flow x.fees) x.costs (N.loops m)
  one_loops_number exceeds N agrees x =
      let graph = one_graph x.flow in
      let own = loop_charges exceeds in
      let members = same_members laws.charged_loops P bound_of m x.flow flow in
      let marks : x.flags ≡ flags = laws.charges P t bound_of m x.flow flow x.flags flags x.charged own.charged in
      let charged' = subst (λ (fs : List Bool). AreCharged P t m x.flow.nest fs) marks x.charged in
      let loads' = subst (λ (fs : List Bool). AreLoads P t m x.flow.nest fs x.fees) marks x.are_fees in
      let same = one_loops x.flow x.fees (same_fees P t m x.flow.nest (nest_of p.shape) flags x.fees fees (same_long laws.charged_loops P bound_of m x.flow flow) members charged' own.charged loads' own.loads) in
      let adds : (q : ℕ) → loops_adds P t N m x.flow.nest x.flags q ≡ loops_adds P t N m (nest_of p.shape) flags q =
      λ q. ap (λ (fs : List Bool). loops_adds P t N m x.flow.nest fs q) marks ∙ chosen q (same_charged x.flow.nest (nest_of p.shape) members flags (2 * q))
      in
      record {
        same_graph = graph;
        same_loops = same;
        are_limited = limited_costs laws.walks P t bound_of table m p h small (loops_adds P t N m x.flow.nest x.flags) (λ q reached. told_loops exceeds N agrees q reached ∙ ap limited (sym (adds q))) x.flow.graph x.costs x.are_costs;
        is_value = value_there x.flow.graph (charged_loops x.flow x.fees) x.costs (N.loops m) graph same x.value;
      }
    where
      chosen : (q : ℕ) → is_in_charged x.flow.nest flags (2 * q) ≡ is_in_charged (nest_of p.shape) flags (2 * q) → loops_adds P t N m x.flow.nest flags q ≡ loops_adds P t N m (nest_of p.shape) flags q
      chosen q e = ap (λ (b : Bool). if b then added P m q N.inside else added P m q (full_and_back P t N m)) e
