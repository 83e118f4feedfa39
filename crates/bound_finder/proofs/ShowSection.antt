-- The section that shows a solution meets its conditions.
use Rattle.std.proofs.Common.{◌≡◌, ℕ, ◌*◌, ◌<◌, ◌||◌, Bool, true, false, List, length, get_or, map, Contains, Option, Some, None, slice_index, refl, sym, ap, ◌∙◌, subst, inl, inr, arith}
use Rattle.std.specs.Prelude.{IsSome, is_some, slice_index_or}
use Rattle.std.proofs.lemmas.List.{get_or-map, length-map}
use Rattle.std.proofs.lemmas.List.Elements.{All-contains}
use Rattle.lists.proofs.Lemmas.{none≢some, some_is}
use Rattle.lists.specs.Members.{map_contains}
use Rattle.loop_nest.specs.Nest.{NaturalLoop, headers_of}
use Rattle.loop_nest.proofs.Elements.{from_map}
use Rattle.section_check.specs.Section.{CertifiedLoop, Certified, priced}
use Rattle.section_check.specs.Placing.{IsEntryAt}
use Rattle.section_check.specs.Conditions.{IsAccepted, value_of}
use Rattle.section_check.specs.Renumbering.{moved, moved_loop, AreMovedCosts, RenumberedStaysAccepted}
use Rattle.path_solver.specs.Solution.{Solution}
use Rattle.bytecode_model.specs.Program.{Program, Body, body_of}
use Rattle.certificates.specs.declared.cert.CertSection.{CertSection}
use Rattle.certificates.specs.Certificate.{is_inside}
use Rattle.method_flow.specs.Calls.{IsCall, IsTarget}
use Rattle.method_flow.specs.Keeping.{BoundOf}
use Rattle.method_flow.specs.Live.{IsLiveEdge}
use Rattle.method_flow.specs.Nodes.{At, IsReached}
use Rattle.method_flow.specs.declared.timing.Timing.{Timing}
use Rattle.bound_rules.specs.Fitting.{LoopFits, loads_of, header_bound, header_bounds}
use Rattle.bound_rules.specs.Laws.{CalledFit, ReachesStarts}
use Rattle.bound_rules.specs.Told.{Valued, SaysCalled, is_in_region, is_without_loads}
use Rattle.bound_rules.specs.Sections.{IsEntryLoad, AreEntryLoads, SectionView, IsNoNode, LacksBound, MeetsSection, section_bounds}
use Rattle.bound_rules.specs.Sections.IsEntryLoad.{no_region, fits as region_fits}
use Rattle.compact_walks.specs.Limited.{AreSmallAt}
use Rattle.compact_walks.specs.Moving.{IsMoved}
use Rattle.compact_walks.specs.Laws.{MovedIsRenumbered}
use Rattle.compact_walks.specs.Solving.{IsShownWalk, fees_of}
use Rattle.bound_finder.specs.declared.known.Known.{Known}
use Rattle.bound_finder.specs.declared.prepared.Prepared.{Prepared}
use Rattle.bound_finder.specs.Known.{CalleesAreKnown}
use Rattle.bound_finder.specs.Prepared.{IsInShape, IsPreparedFor, AreChargesOf, is_without_at, node_of, nest_of}
use Rattle.bound_finder.specs.Prepared.AreChargesOf.{none as no_charge, some as some_charge}
use Rattle.bound_finder.specs.Found.{Cover, kind_of, costs_of, problem_of}
use Rattle.bound_finder.proofs.Reached.{node_of_number, reachable_out}
use Rattle.bound_finder.proofs.ShowTold.{told, told_costs, told_graph, told_small, told_within, cost_is, reached_to, reached_back, without}
use Rattle.bound_finder.proofs.ShowSaid.{same_regions, says}
use Rattle.bound_finder.proofs.ShowMoved.{headers_in, members_in, marks_in, same_headers, same_members, marks_moved, from_listed, from_held, listed_node, held_node, nest_at, mark_at, uncharged, fee_at}

module _ (P : Program) (t : Timing) (bound_of : BoundOf) (table : List Known) (m : ℕ) (p : Prepared) (starts : ReachesStarts P m) (ends : CalleesAreKnown P t table m) (h : IsPreparedFor P t bound_of table m p)
    (earlier : List Valued) (small : AreSmallAt p.shape.nodes p.costs.items) (fits : Bool) (sec : Certified) where
  abbrev pub section : CertSection
  section = record { kind = kind_of fits; method = m; section = sec }

  -- each target of an invoke that is reached is told what earlier sections say of it
  abbrev pub AreSaid : Type 0
  AreSaid = (q x : ℕ) → IsReached (IsLiveEdge P m) (At q) → IsCall P m q → IsTarget P m q x → SaysCalled P t earlier (is_without_loads section q) m x (told P t bound_of table m p starts ends h q x)

  pub has_code : IsSome (body_of P m)
  has_code = let b = some_is (body_of P m) (λ (b : Body). h.graph.nodes ≡ 2 * length b.code) h.is_live.size in ap is_some b.1

  abbrev pub view : AreSaid → (fees : List (Option ℕ)) → AreEntryLoads P t section fees → SectionView P t earlier section
  view said fees are = record {
    coded = has_code;
    told = told P t bound_of table m p starts ends h;
    are_told = λ q x r call target.
        let l = (reached_back P t bound_of table m p starts ends h r).0 in
        let c = cost_is P t bound_of table m p starts ends h small (At q) l in
        record { own = c.0; is_own = c.1; said = told P t bound_of table m p starts ends h q x; says = said q x l call target; is = told_within P t bound_of table m p starts ends h small q x c.0 target c.3 };
    graph = h.graph;
    is_graph = told_graph P t bound_of table m p starts ends h h.graph h.is_live;
    costs = p.costs.items;
    are_costs = told_costs P t bound_of table m p starts ends h small;
    fees = fees;
    are_fees = are;
  }

module _ (called : CalledFit) (stays : RenumberedStaysAccepted) (renumbers : MovedIsRenumbered) (P : Program) (t : Timing) (bound_of : BoundOf) (table : List Known) (m : ℕ) (p : Prepared) (starts : ReachesStarts P m) (ends : CalleesAreKnown P t table m)
    (h : IsPreparedFor P t bound_of table m p) (in_shape : IsInShape p) (is_moved : IsMoved h.graph p.shape.graph (node_of p.shape)) (earlier : List Valued) (cover : Cover P table earlier m) (small : AreSmallAt p.shape.nodes p.costs.items) (fits : Bool) (same : p.fits ≡ fits)
    (solution : Solution) (shown : IsShownWalk (problem_of p) solution) where
  abbrev node : ℕ → ℕ
  node = node_of p.shape

  abbrev flags : List Bool
  flags = p.charges.flags.items

  abbrev sec : Certified
  sec = moved node solution.section

  abbrev s : CertSection
  s = record { kind = kind_of fits; method = m; section = sec }

  abbrev fee_numbers : List ℕ
  fee_numbers = fees_of (problem_of p)

  abbrev fees : List (Option ℕ)
  fees = map (λ n. Some n) fee_numbers

  -- ---- its loops

  headers : headers_in sec.loops ≡ headers_of (nest_of p.shape)
  headers = same_headers node solution.section.loops p.shape.nest shown.loops.headers

  members : members_in sec.loops ≡ map (λ (k : NaturalLoop). k.members) (nest_of p.shape)
  members = same_members node solution.section.loops p.shape.nest shown.loops.members

  marks : marks_in sec.loops ≡ flags
  marks = marks_moved node solution.section.loops ∙ shown.loops.marks

  bounds : p.bounds.items ≡ section_bounds bound_of s
  bounds = h.bounds.are ∙ ap (header_bounds bound_of m) (sym headers)

  fees_long : length fees ≡ length sec.loops
  fees_long = shown.form.loaded ∙ sym (length-map solution.section.loops (moved_loop node))

  -- ---- what is told

  without_is : (q : ℕ) → is_without_loads s q ≡ without P t bound_of table m p starts ends h q
  without_is q = by fits ∙ ap (λ (b : Bool). is_without_at b p.shape flags (2 * q)) (sym same)
    where
      by : (b : Bool) → (is_inside (kind_of b) || is_in_region sec.loops (2 * q)) ≡ is_without_at b p.shape flags (2 * q)
      by true = refl
      by false = same_regions (nest_of p.shape) flags sec.loops members marks (2 * q)

  said : AreSaid P t bound_of table m p starts ends h earlier small fits sec
  said q x r call target =
      let c = cost_is P t bound_of table m p starts ends h small (At q) r in
      subst (λ (b : Bool). SaysCalled P t earlier b m x (told P t bound_of table m p starts ends h q x)) (sym (without_is q))
      (says called P t bound_of table m p starts ends h earlier cover q x (reached_to P t bound_of table m p starts ends h r).1 target call (told_small P t bound_of table m p starts ends h small q x c.0 target c.3))

  -- ---- what entries cost

  fee_is : (i : ℕ) (l : CertifiedLoop) → IsEntryAt sec.loops i l → IsEntryLoad P t m l (slice_index_or fees i None)
  fee_is i l at = by l.region refl h.charges
    where
      mark : get_or flags i false ≡ l.region
      mark = mark_at sec.loops flags marks i l at

      below : i < length fee_numbers
      below = let long = fees_long in let lt = at.0 in omega (arith, length-map fee_numbers (λ (n : ℕ). Some n))

      by : (b : Bool) → l.region ≡ b → AreChargesOf P t m p.shape p.fits p.charges → IsEntryLoad P t m l (slice_index_or fees i None)
      by false e c = no_region e (fee_at fee_numbers i 0 below (uncharged p.charges.loads.items flags i (mark ∙ e)))
      by true e (no_charge whole none) = absurd (none i (mark ∙ e))
      by true e (some_charge apart are loads) =
          let k = nest_at sec.loops (nest_of p.shape) members i l at in
          let together = ((are.each i k.0 k.1).0 (mark ∙ e)).fits in
          let F : List ℕ → Type 0 = λ us. (f : LoopFits P t m us) × (slice_index fee_numbers i ≡ loads_of f) in
          let there : F k.0.members = (together, loads.charged i k.0 k.1 (mark ∙ e) together) in
          let f = subst F k.2 there in
          region_fits e f.0 (fee_at fee_numbers i (loads_of f.0) below f.1)

  are_fees : AreEntryLoads P t s fees
  are_fees = record { long = fees_long; each = fee_is }

  -- ---- it is accepted

  answers : IsAccepted p.shape.graph (costs_of p) solution.section p.bounds.items fees × (Some solution.value ≡ value_of solution.section (priced solution.section.loops p.bounds.items fees))
  answers = shown.accepted in_shape.apart

  moved_costs : AreMovedCosts p.shape.graph node (costs_of p) p.costs.items
  moved_costs u below = let long = h.shape.long in sym (get_or-map (slice_index p.costs.items) p.shape.nodes u 0 0 (omega arith))

  stays_accepted : IsAccepted h.graph p.costs.items sec p.bounds.items fees × (value_of sec (priced sec.loops p.bounds.items fees) ≡ value_of solution.section (priced solution.section.loops p.bounds.items fees))
  stays_accepted = stays p.shape.graph h.graph node (costs_of p) p.costs.items solution.section p.bounds.items fees (renumbers h.graph p.shape.graph node is_moved) moved_costs answers.0

  -- ---- its nodes

  is_node : (v u : ℕ) → v < p.shape.graph.nodes → node v ≡ u → IsNoNode P s (told P t bound_of table m p starts ends h) u → ⊥
  is_node v u below is other =
      let n = node_of_number P m h.graph h.is_live (node v) (reachable_out h.graph p.shape.graph node h.shape.compact v below) in
      other.none n.0 (reached_to P t bound_of table m p starts ends h n.1).0 (sym n.2 ∙ is)

  all_nodes : (u : ℕ) → IsNoNode P s (told P t bound_of table m p starts ends h) u → ⊥
  all_nodes u other =
      elim (other.said) [
        | inl has ↦
            let v = from_listed node solution.section u has in
            is_node v.0 u (listed_node node p.shape.graph solution.section p.bounds.items fees answers.0.placed v.0 v.1) v.2 other
        | inr held ↦
            let v = from_held node solution.section u held in
            is_node v.0 u (held_node node p.shape.graph solution.section p.bounds.items fees answers.0.placed v.0 v.1) v.2 other
      ]

  all_bounded : (u : ℕ) → LacksBound bound_of s u → ⊥
  all_bounded u lacks =
      let has = subst (λ (hs : List ℕ). Contains hs lacks.headed.header) headers (map_contains (λ (l : CertifiedLoop). l.header) sec.loops lacks.headed lacks.among) in
      let k = from_map (λ (l : NaturalLoop). l.header) (nest_of p.shape) lacks.headed.header has in
      let some : IsSome (header_bound bound_of m k.0.header) = All-contains (λ (l : NaturalLoop). IsSome (header_bound bound_of m l.header)) (nest_of p.shape) k.0 h.bounds.bounded k.1 in
      let bad : false ≡ true = sym (ap is_some lacks.none) ∙ subst (λ (x : ℕ). IsSome (header_bound bound_of m x)) (k.2 ∙ lacks.header) some in
      cc

  pub meets : MeetsSection P t bound_of earlier s (Some solution.value)
  meets = record {
    view = view P t bound_of table m p starts ends h earlier small fits sec said fees are_fees;
    present = λ x l. none≢some _ (sym l.absent);
    nodes = all_nodes;
    bounded = all_bounded;
    accepted = subst (λ (bs : List ℕ). IsAccepted h.graph p.costs.items sec bs fees) bounds stays_accepted.0;
    is = answers.1 ∙ sym stays_accepted.1 ∙ ap (λ (bs : List ℕ). value_of sec (priced sec.loops bs fees)) bounds;
  }
