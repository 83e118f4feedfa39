-- A method whose calls end has one family of numbers.
use Rattle.std.proofs.Common.{◌≡◌, ℕ, suc, ◌+◌, ◌*◌, ◌<◌, Bool, true, false, List, [], ◌∷◌, length, map, get_or, Contains, Option, None, slice_index, refl, sym, ap, ap₂, ◌∙◌, subst, arith}
use Rattle.std.specs.Prelude.{option_map, unwrap_or, ◌&&◌, if◌then◌else◌}
use Rattle.std.proofs.lemmas.List.{get_or_default}
use Rattle.lists.specs.Tests.{and_left, and_right}
use Rattle.loop_nest.specs.Nest.{NaturalLoop, IsNest}
use Rattle.section_check.specs.Bounded.{BoundedLoop, holds}
use Rattle.section_check.specs.Placing.{IsEntryAt}
use Rattle.section_check.proofs.Elements.{contains_from_holds}
use Rattle.loop_nest.specs.Digraph.{Digraph}
use Rattle.path_solver.specs.Reaching.{IsFlagged}
use Rattle.bytecode_model.specs.Program.{Program}
use Rattle.method_flow.specs.Nodes.{Node, At, IsEdge, IsReached}
use Rattle.method_flow.specs.Nodes.IsReached.{first, later}
use Rattle.method_flow.specs.Calls.{IsTarget, targets_of}
use Rattle.method_flow.specs.Live.{IsLiveEdge}
use Rattle.method_flow.specs.Keeping.{BoundOf}
use Rattle.method_flow.specs.Regions.{IsWithin, IsWithinNodes, load}
use Rattle.method_flow.specs.Regions.IsWithin.{itself, calls}
use Rattle.method_flow.specs.Regions.IsWithinNodes.{calls as nodes_calls}
use Rattle.method_flow.specs.Recursion.{MayCall}
use Rattle.method_flow.specs.declared.timing.Timing.{Timing}
use Rattle.method_flow.specs.Costs.{IsPrintedOf}
use Rattle.bound_rules.specs.Costs.{AreCosts, added}
use Rattle.bound_rules.specs.Fitting.{RegionFits, LoopFits, loads_of}
use Rattle.bound_rules.specs.Numbers.{Numbers, charged_loops, no_fees, IsGreatestValue, AreCharged, AreLoads, is_in_charged, full_and_back, loops_adds, IsInside, IsLoops, IsFull, AreNumbers}
use Rattle.bound_rules.specs.Numbers.IsFull.{fits, exceeds}
use Rattle.bound_rules.specs.Laws.{ReachesStarts, CallsEnd, AreSameOf, ChargesAreOne, NumbersAreOne, PrintedIsOne}
use Rattle.bound_rules.specs.Laws.CallsEnd.{ends}
use Rattle.bound_rules.proofs.Sums.{same_loads}
use Rattle.bound_rules.proofs.Owning.{same_of_each, target_calls}
use Rattle.bound_rules.proofs.Views.{same_lists}
use Rattle.bound_rules.proofs.Rising.{AreAlike, one_graph, one_nest, charged_loops_are_one}
use Rattle.bound_rules.proofs.Valuing.{costs_are_told, values_are_told}
use Rattle.bound_rules.proofs.Parting.{part_fits, called_fit}
use Rattle.bound_rules.proofs.Charging.{same_length, alike_at}
use Rattle.bound_rules.proofs.Printing.{printed_is_told}

-- ---- calls

module _ (P : Program) where
  calls_end : {m x : ℕ} → IsWithin P m x → CallsEnd P m → CallsEnd P x
  calls_end itself c = c
  calls_end (calls {m} {t} {x} p start call target more) (ends further) = calls_end more (further t (record { place = p; start = start; call = call; is_target = target }))

  within_on : {a b x : ℕ} → IsWithin P a b → MayCall P b x → IsWithin P a x
  within_on itself c = calls c.place c.start c.call c.is_target itself
  within_on (calls {m} {t} {x} p start call target more) c = calls p start call target (within_on more c)

  whole : {m : ℕ} {u : Node} → IsReached (IsLiveEdge P m) u → IsReached (IsEdge P m) u
  whole first = first
  whole (later reached e) = later (whole reached) e.edge

-- ---- alike nests

same_zeros : (ls ks : List NaturalLoop) → AreAlike ls ks → map {B = ℕ} (λ (l : NaturalLoop). 0) ls ≡ map {B = ℕ} (λ (l : NaturalLoop). 0) ks
same_zeros [] [] a = refl
same_zeros [] (k ∷ ks) a = absurd a
same_zeros (l ∷ ls) [] a = absurd a
same_zeros (l ∷ ls) (k ∷ ks) (header, members, rest) = ap (λ (ns : List ℕ). 0 ∷ ns) (same_zeros ls ks rest)

same_charged : (ls ks : List NaturalLoop) → AreAlike ls ks → (flags : List Bool) (u : ℕ) → is_in_charged ls flags u ≡ is_in_charged ks flags u
same_charged [] [] a flags u = refl
same_charged [] (k ∷ ks) a flags u = absurd a
same_charged (l ∷ ls) [] a flags u = absurd a
same_charged (l ∷ ls) (k ∷ ks) a [] u = refl
same_charged (l ∷ ls) (k ∷ ks) (header, members, rest) (flag ∷ flags) u =
    ap₂ (λ (us : List ℕ) (b : Bool). if flag && holds us u then true else b) members (same_charged ls ks rest flags u)

-- a charged loop that has the node
pub record IsInCharged (ks : List NaturalLoop) (flags : List Bool) (u : ℕ) : Type 0 where
  pub place : ℕ
  pub loop : NaturalLoop
  pub at : IsEntryAt ks place loop
  pub flagged : IsFlagged flags place
  pub has : Contains loop.members u

pub in_charged : (ks : List NaturalLoop) (flags : List Bool) (u : ℕ) → is_in_charged ks flags u ≡ true → IsInCharged ks flags u
in_charged [] flags u e = absurd (cc)
in_charged (k ∷ ks) [] u e = absurd (cc)
in_charged (k ∷ ks) (flag ∷ flags) u e = by (flag && holds k.members u) refl e (λ e'. in_charged ks flags u e')
  where
    by : (b : Bool) → (flag && holds k.members u) ≡ b → (if b then true else is_in_charged ks flags u) ≡ true → (is_in_charged ks flags u ≡ true → IsInCharged ks flags u) → IsInCharged (k ∷ ks) (flag ∷ flags) u
    by true test e' further = record { place = 0; loop = k; at = (omega arith, refl); flagged = and_left flag (holds k.members u) test; has = contains_from_holds k.members u (and_right flag (holds k.members u) test) }
    by false test e' further =
        let r = further e' in
        let below = r.at.0 in
        record { place = suc r.place; loop = r.loop; at = (omega arith, r.at.1); flagged = r.flagged; has = r.has }

pub same_loads_by : (P : Program) (t : Timing) (m : ℕ) (us vs : List ℕ) → us ≡ vs → (f : LoopFits P t m us) (h : LoopFits P t m vs) → loads_of f ≡ loads_of h
same_loads_by P t m us vs e f h = (subst (λ (ws : List ℕ). (k : LoopFits P t m ws) → loads_of f ≡ loads_of k) e (λ k. same_loads f k)) h

some_loop : NaturalLoop
some_loop = record { header = 0; members = []; outer = None }

module _ (P : Program) (t : Timing) (m : ℕ) where
  same_entry_loads : (ls ks : List NaturalLoop) (flags : List Bool) (fees others : List ℕ) → AreAlike ls ks → AreCharged P t m ls flags → AreCharged P t m ks flags → AreLoads P t m ls flags fees → AreLoads P t m ks flags others
      → fees ≡ others
  same_entry_loads ls ks flags fees others alike a b x y = same_lists 0 fees others (x.long ∙ (same_length ls ks alike ∙ sym y.long)) (λ i below. by i below (get_or flags i false) refl)
    where
      by : (i : ℕ) → i < length fees → (c : Bool) → get_or flags i false ≡ c → slice_index fees i ≡ slice_index others i
      by i below false is = x.others i (λ f. let bad : false ≡ true = sym is ∙ f in cc) ∙ sym (y.others i (λ f. let bad : false ≡ true = sym is ∙ f in cc))
      by i below true is =
          let k = get_or ks i some_loop in
          let long = x.long in
          let same = same_length ls ks alike in
          let at : IsEntryAt ks i k = (omega arith, get_or_default ks i k some_loop (omega arith)) in
          let r = alike_at ls ks alike i k at in
          let fits_l = ((a.each i r.0 r.1).0 is).fits in
          let fits_k = ((b.each i k at).0 is).fits in
          x.charged i r.0 r.1 is fits_l ∙ (same_loads_by P t m r.0.members k.members r.2 fits_l fits_k ∙ sym (y.charged i k at is fits_k))

-- ---- one method

module _ (charges : ChargesAreOne) (P : Program) (t : Timing) (bound_of : BoundOf) (N M : Numbers) (m : ℕ) (starts : ReachesStarts P m) (same : (x : ℕ) → MayCall P m x → AreSameOf P t N M x) (full_of : (x : ℕ) → MayCall P m x → IsFull P t N x) where
  target_call : (p x : ℕ) → IsReached (IsLiveEdge P m) (At p) → IsTarget P m p x → MayCall P m x
  target_call p x reached target = record { place = p; start = starts p (whole P reached); call = target_calls P m p x target; is_target = target }

  -- of a target that can't but fit
  same_inside : (x : ℕ) → MayCall P m x → ((RegionFits P t x → ⊥) → ⊥) → N.inside x ≡ M.inside x
  same_inside x call some = by (full_of x call)
    where
      by : IsFull P t N x → N.inside x ≡ M.inside x
      by (fits together is) = (same x call).inside together
      by (exceeds alone is) = absurd (some alone)

  inside_one : RegionFits P t m → IsInside P t bound_of N m → IsInside P t bound_of M m → N.inside m ≡ M.inside m
  inside_one fit a b =
      let graph = one_graph (IsLiveEdge P m) P m a.flow.graph b.flow.graph a.flow.is_live b.flow.is_live in
      let nest = one_nest b.flow.graph a.flow.nest b.flow.nest (subst (λ (g : Digraph). IsNest g a.flow.nest) graph a.flow.is_nest) b.flow.is_nest in
      let loops : charged_loops a.flow (no_fees a.flow) ≡ charged_loops b.flow (no_fees b.flow) =
      ap (λ (fees : List ℕ). charged_loops a.flow fees) (same_zeros a.flow.nest b.flow.nest nest.1) ∙ (charged_loops_are_one P bound_of m a.flow b.flow (no_fees b.flow)).1
      in
      let costs = subst (λ (g : Digraph). AreCosts P t m (IsLiveEdge P m) (λ p. added P m p N.inside) g a.costs) graph a.are_costs in
      let agree = costs_are_told P t m (λ p. added P m p N.inside) (λ p. added P m p M.inside) b.flow.graph a.costs b.costs costs b.are_costs adds in
      let value = subst (λ (ls : List BoundedLoop). IsGreatestValue b.flow.graph a.costs ls (N.inside m)) loops (subst (λ (g : Digraph). IsGreatestValue g a.costs (charged_loops a.flow (no_fees a.flow)) (N.inside m)) graph a.value) in
      values_are_told P m b.flow.graph a.costs b.costs (charged_loops b.flow (no_fees b.flow)) (N.inside m) (M.inside m) b.flow.is_live agree value b.value
    where
      adds : (p : ℕ) → IsReached (IsLiveEdge P m) (At p) → added P m p N.inside ≡ added P m p M.inside
      adds p reached = ap (λ (o : Option ℕ). unwrap_or o 0) (same_of_each N.inside M.inside (targets_of P m p) (λ x target. let call = target_call p x reached target in same_inside x call (called_fit P t m x fit call)))

  loops_one : IsLoops P t bound_of N m → IsLoops P t bound_of M m → N.loops m ≡ M.loops m
  unfolding target_call
  loops_one a b =
      let graph = one_graph (IsLiveEdge P m) P m a.flow.graph b.flow.graph a.flow.is_live b.flow.is_live in
      let nest = one_nest b.flow.graph a.flow.nest b.flow.nest (subst (λ (g : Digraph). IsNest g a.flow.nest) graph a.flow.is_nest) b.flow.is_nest in
      let flags : a.flags ≡ b.flags = charges P t bound_of m a.flow b.flow a.flags b.flags a.charged b.charged in
      let charged_a = subst (λ (fs : List Bool). AreCharged P t m a.flow.nest fs) flags a.charged in
      let loads_a = subst (λ (fs : List Bool). AreLoads P t m a.flow.nest fs a.fees) flags a.are_fees in
      let fees : a.fees ≡ b.fees = same_entry_loads P t m a.flow.nest b.flow.nest b.flags a.fees b.fees nest.1 charged_a b.charged loads_a b.are_fees in
      let loops : charged_loops a.flow a.fees ≡ charged_loops b.flow b.fees = ap (λ (fs : List ℕ). charged_loops a.flow fs) fees ∙ (charged_loops_are_one P bound_of m a.flow b.flow b.fees).1 in
      let costs = subst (λ (g : Digraph). AreCosts P t m (IsLiveEdge P m) (loops_adds P t N m a.flow.nest a.flags) g a.costs) graph a.are_costs in
      let adds : (p : ℕ) → IsReached (IsLiveEdge P m) (At p) → loops_adds P t N m a.flow.nest a.flags p ≡ loops_adds P t M m b.flow.nest b.flags p =
      λ p reached. ap₂ (λ (fs : List Bool) (c : Bool). choose p N c) flags (ap (λ (fs : List Bool). is_in_charged a.flow.nest fs (2 * p)) flags ∙ same_charged a.flow.nest b.flow.nest nest.1 b.flags (2 * p)) ∙ chosen b p reached (is_in_charged b.flow.nest b.flags (2 * p)) refl
      in
      let agree = costs_are_told P t m (loops_adds P t N m a.flow.nest a.flags) (loops_adds P t M m b.flow.nest b.flags) b.flow.graph a.costs b.costs costs b.are_costs adds in
      let value = subst (λ (ls : List BoundedLoop). IsGreatestValue b.flow.graph a.costs ls (N.loops m)) loops (subst (λ (g : Digraph). IsGreatestValue g a.costs (charged_loops a.flow a.fees) (N.loops m)) graph a.value) in
      values_are_told P m b.flow.graph a.costs b.costs (charged_loops b.flow b.fees) (N.loops m) (M.loops m) b.flow.is_live agree value b.value
    where
      choose : (p : ℕ) → Numbers → Bool → ℕ
      choose p K c = if c then added P m p K.inside else added P m p (full_and_back P t K m)

      chosen : (b : IsLoops P t bound_of M m) (p : ℕ) → IsReached (IsLiveEdge P m) (At p) → (c : Bool) → is_in_charged b.flow.nest b.flags (2 * p) ≡ c
          → (if c then added P m p N.inside else added P m p (full_and_back P t N m)) ≡ (if c then added P m p M.inside else added P m p (full_and_back P t M m))
      chosen b p reached true is =
          let r = in_charged b.flow.nest b.flags (2 * p) is in
          let fit = ((b.charged.each r.place r.loop r.at).0 r.flagged).fits in
          ap (λ (o : Option ℕ). unwrap_or o 0)
          (same_of_each N.inside M.inside (targets_of P m p)
          (λ x target. let call = target_call p x reached target in
          same_inside x call (part_fits P t (IsWithinNodes P m r.loop.members) (IsWithin P x) fit (λ z within. nodes_calls p x r.has call.start call.call target within))))
      chosen b p reached false is =
          ap (λ (o : Option ℕ). unwrap_or o 0)
          (same_of_each (full_and_back P t N m) (full_and_back P t M m) (targets_of P m p)
          (λ x target. ap (λ (o : Option ℕ). option_map (λ n. n + load P t.read m) o) (same x (target_call p x reached target)).full))

-- ---- all methods

module _ (charges : ChargesAreOne) (P : Program) (t : Timing) (bound_of : BoundOf) (root : ℕ) (N M : Numbers) (starts : (m : ℕ) → IsWithin P root m → ReachesStarts P m) (a : AreNumbers P t bound_of root N) (b : AreNumbers P t bound_of root M) where
  same_of : {m : ℕ} → CallsEnd P m → IsWithin P root m → AreSameOf P t N M m
  same_of (ends {m} further) within = by (a.full m within) (b.full m within)
      (λ fit. inside_one charges P t bound_of N M m (starts m within) (λ x call. same_of (further x call) (within_on P within call)) (λ x call. a.full x (within_on P within call)) fit (a.inside m within fit) (b.inside m within fit))
      (λ alone. loops_one charges P t bound_of N M m (starts m within) (λ x call. same_of (further x call) (within_on P within call)) (λ x call. a.full x (within_on P within call)) (a.loops m within alone) (b.loops m within alone))
    where
      by : IsFull P t N m → IsFull P t M m → (RegionFits P t m → N.inside m ≡ M.inside m) → ((RegionFits P t m → ⊥) → N.loops m ≡ M.loops m) → AreSameOf P t N M m
      by (fits f is) (fits h is') inside loops =
          record { inside = inside; loops = loops; full = is ∙ (ap₂ (λ (n : ℕ) (o : Option ℕ). option_map (λ k. k + n) o) (same_loads f h) (inside f) ∙ sym is') }
      by (fits f is) (exceeds alone is') inside loops = absurd (alone f)
      by (exceeds alone is) (fits h is') inside loops = absurd (alone h)
      by (exceeds alone is) (exceeds alone' is') inside loops =
          record { inside = inside; loops = loops; full = is ∙ (ap (λ (o : Option ℕ). option_map (λ k. k + load P t.read m) o) (loops alone) ∙ sym is') }

pub numbers_are_one : ChargesAreOne → NumbersAreOne
numbers_are_one charges P t bound_of root N M end starts a b m within = same_of charges P t bound_of root N M starts a b (calls_end P within end) within

pub printed_is_one : ChargesAreOne → PrintedIsOne
printed_is_one charges P t bound_of root a b end starts x y =
    let same = (numbers_are_one charges P t bound_of root x.numbers y.numbers end starts x.are y.are root itself).full in
    printed_is_told P t (y.numbers.full root) a b (subst (λ (o : Option ℕ). IsPrintedOf P t o a) same x.of_root) y.of_root
