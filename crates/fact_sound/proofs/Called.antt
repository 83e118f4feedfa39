-- What a call takes whose frame keeps what is asked of walks: what sections say, and what its visits give back.
use Rattle.std.proofs.Common.{◌≡◌, ℕ, ◌+◌, ◌*◌, ◌%◌, ◌==◌, ◌≤◌, Bool, true, false, List, [], ◌∷◌, length, map, All, Contains, Option, Some, None, IsSome, slice_index, sum_by, sym, ap, ◌∙◌, subst, arith}
use Rattle.std.specs.Prelude.{◌||◌}
use Rattle.std.proofs.lemmas.List.Elements.{All-cons}
use Rattle.lists.specs.Members.{map_contains}
use Rattle.method_cache.specs.Contents.{Cache}
use Rattle.method_cache.specs.Regions.Region.{load_stall}
use Rattle.method_cache.specs.Regions.LookUps.{after, blocks_taken}
use Rattle.loop_nest.specs.Digraph.{Digraph}
use Rattle.section_check.specs.Bounded.{cost_of}
use Rattle.section_check.specs.Laws.{loops_of}
use Rattle.bound_laws.specs.Soundness.Stays.{IsCoveredIn}
use Rattle.bytecode_model.specs.State.{Frame}
use Rattle.bytecode_model.specs.Program.{Program, body_of}
use Rattle.method_flow.specs.Nodes.{Node, At, number_of}
use Rattle.method_flow.specs.Nodes.IsReached.{first as is_first}
use Rattle.method_flow.specs.Live.{LiveWalk}
use Rattle.method_flow.specs.Graphs.{IsLiveGraph}
use Rattle.method_flow.specs.Shapes.{node_of}
use Rattle.method_flow.specs.Keeping.{BoundOf}
use Rattle.method_flow.specs.Regions.{IsWithin, IsWithinNodes, load}
use Rattle.method_flow.specs.Regions.IsWithin.{itself}
use Rattle.method_flow.specs.Regions.IsWithinNodes.{calls as is_called}
use Rattle.method_flow.specs.declared.timing.Timing.{Timing}
use Rattle.bound_rules.specs.Fitting.{loads_of}
use Rattle.bound_rules.specs.Told.{Valued, value_in, SaysFull, is_in_region, is_without_loads}
use Rattle.bound_rules.specs.Told.SaysFull.{fits, exceeds}
use Rattle.bound_rules.specs.Sections.{section_bounds}
use Rattle.activations.specs.Setting.{Setting}
use Rattle.activations.specs.Activations.{Stage}
use Rattle.activations.specs.Timing.{HasTiming}
use Rattle.bound_laws.proofs.SoundnessLemmas.Known.{Known, keyed, nodes_coded, within_coded, with_graph}
use Rattle.bound_laws.proofs.SoundnessLemmas.Regions.{region_from, no_region, in_a_region}
use Rattle.bound_laws.proofs.SoundnessLemmas.Charged.{same_blocks, same_loads, region_at, region_methods}
use Rattle.bound_laws.proofs.SoundnessLemmas.Inside.{number_without}
use Rattle.bound_laws.proofs.SoundnessLemmas.Sections.{as_section, NodeIn, told_full, charges_of, charged, charged_at_most}
use Rattle.bound_laws.proofs.SoundnessLemmas.Accounts.{stall, IsPlaceWithin, all_of}
use Rattle.bound_laws.proofs.SoundnessLemmas.Steps.{is_even}
use Rattle.bound_laws.proofs.SoundnessLemmas.Called.{one_load, Invoked}
use Rattle.fact_sound.specs.Visits.{more_charged, visited}
use Rattle.fact_sound.proofs.Positions.{visits_are_paid}
use Rattle.fact_sound.proofs.Backed.{Never, Asked, AreBacked, BackedSection, find, told_inside}
use Rattle.fact_sound.proofs.Accounts.{Account, given}

module _ (g : Setting) (k : Known g) (t : Timing) (bound_of : BoundOf) (ask : Asked) where
  abbrev P : Program
  P = g.program

  abbrev key : ℕ → ℕ
  key m = g.places.method m

  -- A call from boundary z: the frame that it makes, of method x, is on top from b until it is left at c, and keeps what is asked of walks.
  pub record Called (callers : List Frame) (x : ℕ) (z b c : Stage) (nodes : List ℕ) : Type 0 where
    pub coded : IsSome (body_of P x)
    pub before : HasTiming t z.machine
    pub start : HasTiming t b.machine
    pub cache : b.machine.cache ≡ after k.words (key x ∷ []) z.machine.cache
    pub account : Account g k t bound_of ask callers x b c nodes
    pub first : node_of b.state.mode account.top.frame ≡ At 0
    pub walk : LiveWalk P x (At 0) nodes
    pub keeps : ask.keep x nodes

  module _ {callers : List Frame} {x : ℕ} {z b c : Stage} {nodes : List ℕ} (y : Called callers x z b c nodes) where
    starts_in : {inside : Bool} {value : Option ℕ} (s : BackedSection g k t bound_of ask inside x value) → NodeIn g k t bound_of Never s.plain (node_of b.state.mode y.account.top.frame)
    starts_in s = subst (λ (n : Node). NodeIn g k t bound_of Never s.plain n) (sym y.first) is_first

    abbrev pub gives : ℕ
    gives = given g k t bound_of ask y.account

    -- by a section of another kind than inside, its cycles with the stalls of its look-ups
    abbrev with_stalls : ℕ
    with_stalls = y.account.taken + stall g k t y.account.looks b.machine.cache

    -- without its look-ups it takes at most what its section inside says
    pub closes : (n : ℕ) (s : BackedSection g k t bound_of ask true x (Some n)) → y.account.taken ≤ n + gives
    closes n s = with_graph g k x y.coded y.account.taken (n + gives) by_graph
      where
        by_graph : (part : Digraph) → IsLiveGraph P x part → y.account.taken ≤ n + gives
        by_graph part live =
            let most = s.bounds part live nodes y.walk y.keeps in
            let few = y.account.inside (Some n) s (starts_in s) in
            omega arith

    -- with them it takes at most what its section of another kind says, from where its method is in the cache
    pub closes_with_stalls : (n : ℕ) (s : BackedSection g k t bound_of ask false x (Some n)) → with_stalls ≤ n + gives
    closes_with_stalls n s = with_graph g k x y.coded with_stalls (n + gives) by_graph
      where
        by_graph : (part : Digraph) → IsLiveGraph P x part → with_stalls ≤ n + gives
        by_graph part live =
            let a = y.account in
            let most = s.bounds part live nodes y.walk y.keeps in
            let at_0 : a.visit.node ≡ 2 * 0 = a.top.node ∙ ap number_of y.first in
            let even : (a.visit.node % 2 == 1) ≡ false = ap (λ (u : ℕ). u % 2 == 1) at_0 ∙ is_even 0 in
            let few =
            visits_are_paid k.paid (charges_of g k t bound_of Never s.plain) (charged g k t bound_of Never s.plain) b.machine.cache a.visit with_stalls a.further (record { blocks = y.start.blocks; block_words = y.start.block_words }) even
            (a.outside (Some n) s (starts_in s))
            in
            let all = charged_at_most g k t bound_of Never s.plain a.visit.node (visited a.further) in
            let Q : List ℕ → Type 0 = λ ns. cost_of s.plain.meets.view.costs (loops_of s.plain.certified (section_bounds bound_of (as_section g k t bound_of Never s.plain)) s.plain.meets.view.fees) ns ≤ n + sum_by (ask.credit x) nodes in
            let most' = subst Q a.nodes_are most in
            omega arith

    -- ---- with the look-up of its own method

    -- the look-ups, among the places of these methods
    among : (xs : List ℕ) → ((w : ℕ) → IsWithin P x w → Contains xs w) → All (Contains (map key xs)) (key x ∷ y.account.looks)
    among xs all =
        let K : ℕ → Type 0 = Contains (map key xs) in
        let each : (p : ℕ) → IsPlaceWithin g x p → K p = λ p h. subst K (sym h.2) (map_contains key xs h.0 (all h.0 h.1)) in
        All-cons K (key x) y.account.looks (map_contains key xs x (all x itself)) (all_of each y.account.looks y.account.within)

  -- what a call takes with all its loads, but that of the caller when control comes back
  pub takes_full : {callers : List Frame} {x : ℕ} {z b c : Stage} {nodes : List ℕ} (y : Called callers x z b c nodes) (earlier : List Valued) → AreBacked P t bound_of ask earlier → (full : ℕ) → SaysFull P t earlier x (Some (Some full))
      → y.account.taken + stall g k t (key x ∷ y.account.looks) z.machine.cache ≤ full + gives y
  takes_full {callers} {x} {z} {b} {c} {nodes} y earlier met full (fits together is) =
      let v = number_without (loads_of together) (value_in true x earlier) full (sym is) in
      let few = closes y v.0 (find g k t bound_of ask earlier met true x (Some v.0) v.1) in
      let members = map key together.methods in
      let coded : (w : ℕ) → Contains together.methods w → IsSome (body_of P w) = λ w has. within_coded g k x w y.coded ((together.are.each w).0 has) in
      let blocks = same_blocks P t k.words key (keyed g k) together.methods coded in
      let all = same_loads P t k.words key (keyed g k) together.methods coded in
      let small : blocks_taken k.words t.block_words members ≤ t.blocks = let fit = together.fit in omega arith in
      let fit : blocks_taken k.words z.machine.cache.block_words members ≤ z.machine.cache.blocks =
      subst (λ (n : ℕ). blocks_taken k.words n members ≤ z.machine.cache.blocks) (sym y.before.block_words) (subst (λ (n : ℕ). blocks_taken k.words t.block_words members ≤ n) (sym y.before.blocks) small)
      in
      let most = k.sums k.words members (key x ∷ y.account.looks) z.machine.cache t.read fit (among y together.methods (λ w within. (together.are.each w).1 within)) in
      let e = v.2 in
      omega arith
  takes_full {callers} {x} {z} {b} {c} {nodes} y earlier met full (exceeds not is) =
      let v = number_without (load P t.read x) (value_in false x earlier) full (sym is) in
      let few = closes_with_stalls y v.0 (find g k t bound_of ask earlier met false x (Some v.0) v.1) in
      let split = k.stalls k.words t.read (key x ∷ []) y.account.looks z.machine.cache in
      let here : stall g k t y.account.looks (after k.words (key x ∷ []) z.machine.cache) ≡ stall g k t y.account.looks b.machine.cache = ap (λ (d : Cache). stall g k t y.account.looks d) (sym y.cache) in
      let one = one_load g k t bound_of Never x y.coded z.machine.cache in
      let e = v.2 in
      omega arith

  -- ---- what an invoke's cost covers

  -- Of a section of another kind than inside, the cost of the invoke covers in a region the call without its look-ups, which are among the region's, and elsewhere the call
  -- with them and the load of the caller. What a region's invokes may run fits the cache with all that runs meanwhile, since it is part of what runs in the region.
  pub covers_call : {callers : List Frame} {m x : ℕ} {z b c : Stage} {nodes : List ℕ} {value : Option ℕ} (y : Called callers x z b c nodes) (s : BackedSection g k t bound_of ask false m value) (p u n micro : ℕ)
      → Invoked g k t bound_of Never m p x → NodeIn g k t bound_of Never s.plain (At p) → s.plain.meets.view.told p x ≡ Some (Some n) → u ≡ 2 * p → micro + n ≤ slice_index s.plain.meets.view.costs u
      → (o : Option ℕ) → (charges_of g k t bound_of Never s.plain).region_of u ≡ o → IsCoveredIn (more_charged (charges_of g k t bound_of Never s.plain) (gives y)) o u (micro + y.account.taken) (key x ∷ y.account.looks) z.machine.cache
  covers_call {callers} {m} {x} {z} {b} {c} {nodes} {value} y s p u n micro inv reached told_is u_is few None at =
      let none : is_in_region s.plain.certified.loops (2 * p) ≡ false = no_region s.plain.certified.loops 0 (2 * p) (ap (λ (w : ℕ). region_from 0 s.plain.certified.loops w) (sym u_is) ∙ at) in
      let out : is_without_loads (as_section g k t bound_of Never s.plain) p ≡ false = ap (λ (a : Bool). a || is_in_region s.plain.certified.loops (2 * p)) s.plain.is_kind ∙ none in
      let full = told_full g k t bound_of Never s.plain p x n reached inv.call inv.target out told_is in
      let most = takes_full y s.plain.earlier s.backed full.full full.says in
      let own : load_stall t.read (length (k.words (key m))) ≡ load P t.read m = ap (λ (w : ℕ). load_stall t.read w) (keyed g k m s.plain.meets.view.coded) in
      let e = full.is in
      omega arith
  covers_call {callers} {m} {x} {z} {b} {c} {nodes} {value} y s p u n micro inv reached told_is u_is few (Some i) at =
      let some : is_in_region s.plain.certified.loops (2 * p) ≡ true = in_a_region s.plain.certified.loops 0 (2 * p) i (ap (λ (w : ℕ). region_from 0 s.plain.certified.loops w) (sym u_is) ∙ at) in
      let within : is_without_loads (as_section g k t bound_of Never s.plain) p ≡ true = ap (λ (a : Bool). a || is_in_region s.plain.certified.loops (2 * p)) s.plain.is_kind ∙ some in
      let most = closes y n (told_inside g k t bound_of ask s p x n reached inv.call inv.target within told_is) in
      (omega arith, looks_within)
    where
      looks_within : All (Contains ((charges_of g k t bound_of Never s.plain).methods i)) (key x ∷ y.account.looks)
      looks_within =
          let coded : (w : ℕ) (ns : List ℕ) → IsWithinNodes P m ns w → IsSome (body_of P w) = λ w ns within. nodes_coded g k m w ns s.plain.meets.view.coded within in
          let r = region_at k.section_laws P t k.words key (keyed g k) bound_of Never s.plain.earlier (as_section g k t bound_of Never s.plain) value s.plain.meets coded i u at in
          let ms = region_methods k.section_laws P t k.words key (keyed g k) bound_of Never s.plain.earlier (as_section g k t bound_of Never s.plain) value s.plain.meets coded i r.loop r.at r.region in
          let held : Contains r.loop.members (2 * p) = subst (λ (w : ℕ). Contains r.loop.members w) u_is r.inside in
          let Q : List ℕ → Type 0 = λ xs. All (Contains (map key xs)) (key x ∷ y.account.looks) in
          subst Q (sym ms.methods) (among y ms.together.methods (λ w run. (ms.together.are.each w).1 (is_called p x held inv.start inv.call inv.target run)))
