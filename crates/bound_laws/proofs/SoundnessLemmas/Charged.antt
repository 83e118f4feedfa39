-- A section with loads, as charges of nodes, edges and regions.
use Rattle.std.proofs.Common.{◌≡◌, ℕ, ◌+◌, ◌%◌, ◌≤◌, true, false, ◌==◌, List, [], ◌∷◌, length, map, Contains, Option, Some, None, sum_by, slice_index, refl, sym, ap, ◌∙◌, subst, IsSome, arith}
use Rattle.std.specs.Prelude.{unwrap_or, slice_index_or}
use Rattle.std.proofs.lemmas.List.Sums.{sum_by-cons}
use Rattle.std.proofs.lemmas.List.{length-map}
use Rattle.lists.specs.Members.{at_head, in_tail, map_contains}
use Rattle.method_cache.specs.Contents.{blocks_for}
use Rattle.method_cache.specs.Regions.Region.{load_stall}
use Rattle.method_cache.specs.Regions.LookUps.{blocks_taken}
use Rattle.section_check.specs.Bounded.{cost_of}
use Rattle.section_check.specs.Section.{CertifiedLoop}
use Rattle.section_check.specs.Placing.{IsEntryAt}
use Rattle.section_check.specs.Placing.IsFaulty.{does_not_fit}
use Rattle.section_check.specs.Placing.IsMisplaced.{heads_faulty}
use Rattle.section_check.specs.Laws.{loops_of}
use Rattle.section_check.specs.Charges.{start_charge, edge_charge, walk_charge, CostsAreCharged, StartsPayLoads, EdgesPayLoads}
use Rattle.section_check.specs.Entering.{RegionsAreApart, LoopsAreEnteredAtHeaders}
use Rattle.bound_laws.specs.Soundness.Charges.{Charges, AreCharged, charge_of, start_fee}
use Rattle.certificates.specs.declared.cert.CertSection.{CertSection}
use Rattle.bytecode_model.specs.Program.{Program, body_of}
use Rattle.method_flow.specs.Keeping.{BoundOf}
use Rattle.method_flow.specs.declared.timing.Timing.{Timing}
use Rattle.method_flow.specs.Regions.{IsWithinNodes, code_words, load, loads}
use Rattle.method_flow.specs.Regions.IsWithinNodes.{itself}
use Rattle.bound_rules.specs.Fitting.{LoopFits, loads_of}
use Rattle.bound_rules.specs.Told.{Valued}
use Rattle.bound_rules.specs.Sections.{IsEntryLoad, section_bounds}
use Rattle.bound_rules.specs.Sections.IsEntryLoad.{no_region, fits, exceeds}
use Rattle.bound_laws.proofs.SoundnessLemmas.Supported.{IsSupported}
use Rattle.bound_laws.proofs.SoundnessLemmas.Regions.{region_from, IsRegionAt, found_region, some_region, priced_loop, lists_by, list_at}

-- ---- methods by their places

module _ (P : Program) (t : Timing) (words : ℕ → List ℕ) (key : ℕ → ℕ) (keyed : (m : ℕ) → IsSome (body_of P m) → length (words (key m)) ≡ code_words P m) where
  pub same_blocks : (xs : List ℕ) → ((x : ℕ) → Contains xs x → IsSome (body_of P x)) → blocks_taken words t.block_words (map key xs) ≡ sum_by (λ x. blocks_for t.block_words (code_words P x)) xs
  same_blocks [] coded = refl
  same_blocks (x ∷ xs) coded =
      let here = ap (λ (n : ℕ). blocks_for t.block_words n) (keyed x (coded x (at_head x xs))) in
      let rest = same_blocks xs (λ y c. coded y (in_tail x y xs c)) in
      omega (arith, sum_by-cons (λ (k : ℕ). blocks_for t.block_words (length (words k))) (key x) (map key xs), sum_by-cons (λ (y : ℕ). blocks_for t.block_words (code_words P y)) x xs)

  pub same_loads : (xs : List ℕ) → ((x : ℕ) → Contains xs x → IsSome (body_of P x)) → sum_by (λ k. load_stall t.read (length (words k))) (map key xs) ≡ loads P t.read xs
  same_loads [] coded = refl
  same_loads (x ∷ xs) coded =
      let here = ap (λ (n : ℕ). load_stall t.read n) (keyed x (coded x (at_head x xs))) in
      let rest = same_loads xs (λ y c. coded y (in_tail x y xs c)) in
      omega (arith, sum_by-cons (λ (k : ℕ). load_stall t.read (length (words k))) (key x) (map key xs), sum_by-cons (load P t.read) x xs)

-- ---- fees

-- the methods whose loads an entry of the loop pays
abbrev pub paid_methods : {P : Program} {t : Timing} {m : ℕ} {l : CertifiedLoop} {fee : Option ℕ} → IsEntryLoad P t m l fee → List ℕ
paid_methods (no_region region is) = []
paid_methods (fits region together is) = together.methods
paid_methods (exceeds region not is) = []

-- ---- a section

-- what is known of the loops of sections, and of the costs of walks
pub record SectionLaws : Type 0 where
  pub apart : RegionsAreApart
  pub entered : LoopsAreEnteredAtHeaders
  pub costs : CostsAreCharged
  pub starts : StartsPayLoads
  pub edges : EdgesPayLoads

module _ (laws : SectionLaws) (P : Program) (t : Timing) (words : ℕ → List ℕ) (key : ℕ → ℕ) (keyed : (m : ℕ) → IsSome (body_of P m) → length (words (key m)) ≡ code_words P m)
    (bound_of : BoundOf) (Keep : ℕ → List ℕ → Type 0) (earlier : List Valued) (s : CertSection) (value : Option ℕ) (h : IsSupported P t bound_of Keep earlier s value) (coded : (x : ℕ) (nodes : List ℕ) → IsWithinNodes P s.method nodes x → IsSome (body_of P x)) where
  -- loop i's fee
  abbrev FeeAt : ℕ → CertifiedLoop → Type 0
  FeeAt i l = IsEntryLoad P t s.method l (slice_index_or h.view.fees i None)

  -- the methods of region i
  abbrev pub methods_at : ℕ → List ℕ
  methods_at i = lists_by FeeAt (λ j l fee. paid_methods fee) s.section.loops h.view.are_fees.each i

  abbrev pub charges : Charges
  charges = record {
    words = words;
    wait = t.read;
    blocks = t.blocks;
    block_words = t.block_words;
    own = key s.method;
    node = λ u. slice_index h.view.costs u;
    edge = edge_charge (loops_of s.section (section_bounds bound_of s) h.view.fees);
    is_raise = λ u. u % 2 == 1;
    region_of = λ u. region_from 0 s.section.loops u;
    methods = λ i. map key (methods_at i);
    fee = λ i. unwrap_or (slice_index_or h.view.fees i None) 0;
  }

  -- the methods of a region, which fit the cache, and whose loads its fee is
  pub record RegionMethods (i : ℕ) (l : CertifiedLoop) : Type 0 where
    pub together : LoopFits P t s.method l.members
    pub methods : methods_at i ≡ together.methods
    pub fee : charges.fee i ≡ loads_of together

  -- a region of a section that is accepted fits
  pub region_methods : (i : ℕ) (l : CertifiedLoop) → IsEntryAt s.section.loops i l → l.region ≡ true → RegionMethods i l
  region_methods i l at region_is = by (slice_index_or h.view.fees i None) refl (list_at FeeAt (λ j x fee. paid_methods fee) s.section.loops h.view.are_fees.each i l at)
    where
      by : (o : Option ℕ) → slice_index_or h.view.fees i None ≡ o → (x : FeeAt i l) × (methods_at i ≡ paid_methods x) → RegionMethods i l
      by o e (no_region none is, same) = let bad : true ≡ false = sym region_is ∙ none in absurd (cc)
      by o e (fits region together is, same) = record { together = together; methods = same; fee = ap (λ (x : Option ℕ). unwrap_or x 0) is }
      by o e (exceeds region not is, same) =
          let long = h.view.are_fees.long in
          let b = at.0 in
          absurd (h.placed l.header (heads_faulty (record { place = i; headed = l; at = at; header = refl; faulty = does_not_fit region (omega arith, is) })))

  pub region_at : (i u : ℕ) → charges.region_of u ≡ Some i → IsRegionAt s.section.loops u i
  region_at i u e = let r = found_region s.section.loops 0 u i e in let Q : ℕ → Type 0 = λ k. IsRegionAt s.section.loops u k in let same = r.1 in subst Q (omega arith) r.2

  -- a region that holds a node is the one that is found
  pub region_of_is : (i u : ℕ) → IsRegionAt s.section.loops u i → charges.region_of u ≡ Some i
  region_of_is i u here =
      let some = some_region s.section.loops 0 u i here in
      let other = region_at some.0 u some.1 in
      let same = laws.apart h.view.graph s.section (section_bounds bound_of s) h.view.fees h.placed i some.0 here.loop other.loop here.at other.at here.region other.region u here.inside other.inside in
      some.1 ∙ ap (λ (x : ℕ). Some x) (sym same)

  bounds_long : length (section_bounds bound_of s) ≡ length s.section.loops
  bounds_long = length-map (map (λ l. l.header) s.section.loops) _ ∙ length-map s.section.loops _

  -- an edge that enters a region pays its fee
  enters : (i u v : ℕ) → charges.region_of v ≡ Some i → (charges.region_of u ≡ Some i → ⊥) → charges.fee i ≤ charges.edge u v
  enters i u v at outside =
      let r = region_at i v at in
      let b = priced_loop s.section.loops (section_bounds bound_of s) h.view.fees i r.loop bounds_long h.view.are_fees.long r.at in
      let held : Contains b.0.members v = subst (λ (ms : List ℕ). Contains ms v) (sym b.3) r.inside in
      let not_held : Contains b.0.members u → ⊥ = λ c. outside (region_of_is i u (record { loop = r.loop; at = r.at; region = r.region; inside = subst (λ (ms : List ℕ). Contains ms u) b.3 c })) in
      let pays = laws.edges (loops_of s.section (section_bounds bound_of s) h.view.fees) b.0 u v (i, b.1, b.2) held not_held in
      let e = b.4 in
      omega arith

  pub are_charged : AreCharged charges
  are_charged = record {
    own_within = λ i u e.
        let r = region_at i u e in
        let ms = region_methods i r.loop r.at r.region in
        let Q : List ℕ → Type 0 = λ xs. Contains (map key xs) (key s.method) in
        subst Q (sym ms.methods) (map_contains key ms.together.methods s.method ((ms.together.are.each s.method).1 (itself refl)));
    fits = λ i u e.
        let r = region_at i u e in
        let ms = region_methods i r.loop r.at r.region in
        let blocks = same_blocks P t words key keyed ms.together.methods (λ x c. coded x r.loop.members ((ms.together.are.each x).0 c)) in
        let same = ap (λ (xs : List ℕ). blocks_taken words t.block_words (map key xs)) ms.methods in
        let fit = ms.together.fit in
        omega arith;
    covers = λ i u e.
        let r = region_at i u e in
        let ms = region_methods i r.loop r.at r.region in
        let all = same_loads P t words key keyed ms.together.methods (λ x c. coded x r.loop.members ((ms.together.are.each x).0 c)) in
        let same = ap (λ (xs : List ℕ). sum_by (λ k. load_stall t.read (length (words k))) (map key xs)) ms.methods in
        let fee = ms.fee in
        omega arith;
    enters = enters;
  }

  -- ---- what a walk is charged is at most what it costs

  charges_are : (u : ℕ) (vs : List ℕ) → charge_of charges u vs ≡ walk_charge h.view.costs (loops_of s.section (section_bounds bound_of s) h.view.fees) u vs
  charges_are u [] = refl
  charges_are u (v ∷ vs) = let rest = charges_are v vs in omega arith

  -- the start in a region pays its fee
  start_is : (u : ℕ) (o : Option ℕ) → charges.region_of u ≡ o → start_fee charges o ≤ start_charge (loops_of s.section (section_bounds bound_of s) h.view.fees) u
  start_is u None e = omega arith
  start_is u (Some i) e =
      let r = region_at i u e in
      let b = priced_loop s.section.loops (section_bounds bound_of s) h.view.fees i r.loop bounds_long h.view.are_fees.long r.at in
      let held : Contains b.0.members u = subst (λ (ms : List ℕ). Contains ms u) (sym b.3) r.inside in
      let pays = laws.starts (loops_of s.section (section_bounds bound_of s) h.view.fees) b.0 u (i, b.1, b.2) held in
      let fee = b.4 in
      omega arith

  pub all_charged : (u : ℕ) (vs : List ℕ) → start_fee charges (charges.region_of u) + charge_of charges u vs ≤ cost_of h.view.costs (loops_of s.section (section_bounds bound_of s) h.view.fees) (u ∷ vs)
  all_charged u vs =
      let a = charges_are u vs in
      let b = start_is u (charges.region_of u) refl in
      let c = laws.costs h.view.costs (loops_of s.section (section_bounds bound_of s) h.view.fees) u vs in
      omega arith
