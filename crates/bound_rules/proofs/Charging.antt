-- Which loops of a method are charged is told by its live graph.
use Rattle.std.proofs.Common.{◌≡◌, ◌↔◌, ℕ, zero, suc, ◌+◌, ◌<◌, ◌≤◌, Bool, true, false, List, [], ◌∷◌, None, length, map, get_or, Contains, sum_by, slice_index, refl, sym, ap, ap₂, ◌∙◌, subst, inl, inr, arith}
use Rattle.std.specs.Prelude.{slice_index_or}
use Rattle.std.specs.List.Sorted.{IsStrictlyIncreasing}
use Rattle.std.proofs.lemmas.List.{get_or_default, length-map}
use Rattle.std.proofs.lemmas.List.Elements.{All-contains}
use Rattle.std.proofs.lemmas.List.Kept.{AllPairs-from_increasing}
use Rattle.std.proofs.lemmas.List.Sums.{sum_by-cons}
use Rattle.lists.specs.Members.{cons_cases}
use Rattle.loop_nest.specs.Digraph.{Digraph}
use Rattle.loop_nest.specs.Walks.{IsReachable, IsHeader, IsMember}
use Rattle.loop_nest.specs.Nest.{NaturalLoop, headers_of, header_at, members_at, IsLoopOf, IsAround, IsNest}
use Rattle.loop_nest.specs.Laws.{WalksComeByEdges, HeaderDominatesMembers, LoopsAreNested, DominanceIsAntisymmetric}
use Rattle.loop_nest.proofs.Rising.{same_place}
use Rattle.method_cache.specs.Regions.Region.{AreDistinct}
use Rattle.section_check.specs.Placing.{IsEntryAt}
use Rattle.path_solver.specs.Reaching.{IsFlagged}
use Rattle.bytecode_model.specs.Program.{Program}
use Rattle.method_flow.specs.Nodes.IsReached.{later}
use Rattle.method_flow.specs.Live.{IsLiveEdge}
use Rattle.method_flow.specs.Graphs.{IsLiveGraph}
use Rattle.method_flow.specs.declared.timing.Timing.{Timing}
use Rattle.bound_rules.specs.Fitting.{LoopFits}
use Rattle.bound_rules.specs.Numbers.{HasCall, IsCharged, AreCharged}
use Rattle.bound_rules.specs.Laws.{ChargesAreOne}
use Rattle.bound_rules.proofs.Sums.{sum_of_part}
use Rattle.bound_rules.proofs.Parting.{distinct_with}
use Rattle.bound_rules.proofs.Headers.{at_map, index_at}
use Rattle.bound_rules.proofs.Heading.{reachable}
use Rattle.bound_rules.proofs.Views.{same_lists}
use Rattle.bound_rules.proofs.Rising.{AreAlike, one_graph, one_nest}

-- ---- alike nests

same_members : (ls ks : List NaturalLoop) → AreAlike ls ks → map (λ (l : NaturalLoop). l.members) ls ≡ map (λ (l : NaturalLoop). l.members) ks
same_members [] [] a = refl
same_members [] (k ∷ ks) a = absurd a
same_members (l ∷ ls) [] a = absurd a
same_members (l ∷ ls) (k ∷ ks) (header, members, rest) = ap₂ (λ (us : List ℕ) (vs : List (List ℕ)). us ∷ vs) members (same_members ls ks rest)

pub same_length : (ls ks : List NaturalLoop) → AreAlike ls ks → length ls ≡ length ks
same_length [] [] a = refl
same_length [] (k ∷ ks) a = absurd a
same_length (l ∷ ls) [] a = absurd a
same_length (l ∷ ls) (k ∷ ks) (header, members, rest) = ap suc (same_length ls ks rest)

-- the loop at the same place
pub alike_at : (ls ks : List NaturalLoop) → AreAlike ls ks → (i : ℕ) (k : NaturalLoop) → IsEntryAt ks i k → (l : NaturalLoop) × IsEntryAt ls i l × (l.members ≡ k.members)
alike_at [] [] a i k at = absurd (let below = at.0 in omega arith)
alike_at [] (x ∷ ks) a i k at = absurd a
alike_at (l ∷ ls) [] a i k at = absurd a
alike_at (l ∷ ls) (x ∷ ks) (header, members, rest) zero k at = (l, (omega arith, refl), members ∙ ap (λ (y : NaturalLoop). y.members) at.1)
alike_at (l ∷ ls) (x ∷ ks) (header, members, rest) (suc i) k at =
    let below = at.0 in
    let r = alike_at ls ks rest i k (omega arith, at.1) in
    let lt = r.1.0 in
    (r.0, (omega arith, r.1.1), r.2)

module _ (P : Program) (t : Timing) (m : ℕ) where
  charged_too : (ls ks : List NaturalLoop) → headers_of ls ≡ headers_of ks → headers_of ks ≡ headers_of ls → AreAlike ls ks → AreAlike ks ls → (flags : List Bool) → AreCharged P t m ls flags → AreCharged P t m ks flags
  charged_too ls ks headers headers' a a' flags charged = record { long = charged.long ∙ same_length ls ks a; each = each }
    where
      moved : (xs ys : List NaturalLoop) → headers_of xs ≡ headers_of ys → AreAlike xs ys → (i : ℕ) (x y : NaturalLoop) → y.members ≡ x.members → IsCharged P t m ys flags i y → IsCharged P t m xs flags i x
      moved xs ys same alike i x y members is = record {
        call = subst (λ (us : List ℕ). HasCall P m us) members is.call;
        fits = subst (λ (us : List ℕ). LoopFits P t m us) members is.fits;
        outermost = λ j around. is.outermost j (around_back j around);
      }
        where
          around_back : (j : ℕ) → IsAround xs i j → IsAround ys i j
          around_back j around = record {
            below = (let same' = same_length xs ys alike in let b = around.below in omega arith);
            other = around.other;
            member =
                subst (λ (hs : List ℕ). Contains (members_at ys j) (slice_index hs i)) same
                (subst (λ (ms : List (List ℕ)). Contains (slice_index_or ms j []) (header_at xs i)) (same_members xs ys alike) around.member);
          }

      each : (i : ℕ) (k : NaturalLoop) → IsEntryAt ks i k → IsFlagged flags i ↔ IsCharged P t m ks flags i k
      each i k at =
          let r = alike_at ls ks a i k at in
          (λ flagged. moved ks ls headers' a' i k r.0 r.2 ((charged.each i r.0 r.1).0 flagged), λ is. (charged.each i r.0 r.1).1 (moved ls ks headers a i r.0 k (sym r.2) is))

-- ---- one nest

ones : (xs : List ℕ) → sum_by (λ x. 1) xs ≡ length xs
ones [] = refl
ones (x ∷ xs) = let rest = ones xs in omega (arith, sum_by-cons (λ (y : ℕ). 1) x xs)

distinct_rising : (xs : List ℕ) → IsStrictlyIncreasing xs → AreDistinct xs
distinct_rising xs rise i j d less below e = let lt = AllPairs-from_increasing xs rise i j d less below in omega arith

sizes : List NaturalLoop → ℕ
sizes ks = sum_by (λ (k : NaturalLoop). length k.members) ks

size_at : (ks : List NaturalLoop) (i : ℕ) (k : NaturalLoop) → IsEntryAt ks i k → length k.members ≤ sizes ks
unfolding sizes
size_at [] i k at = absurd (let below = at.0 in omega arith)
size_at (x ∷ ks) zero k at = let same = ap (λ (y : NaturalLoop). length y.members) at.1 in omega (arith, sum_by-cons (λ (y : NaturalLoop). length y.members) x ks)
size_at (x ∷ ks) (suc i) k at = let below = at.0 in let rest = size_at ks i k (omega arith, at.1) in omega (arith, sum_by-cons (λ (y : NaturalLoop). length y.members) x ks)

some_loop : NaturalLoop
some_loop = record { header = 0; members = []; outer = None }

module _ (come : WalksComeByEdges) (dominates : HeaderDominatesMembers) (nested : LoopsAreNested) (antisymmetric : DominanceIsAntisymmetric) (P : Program) (t : Timing) (m : ℕ) (g : Digraph) (live : IsLiveGraph P m g) (ks : List NaturalLoop)
    (nest : IsNest g ks) where
  loop_at : (i : ℕ) (k : NaturalLoop) → IsEntryAt ks i k → IsLoopOf g k
  loop_at i k at = All-contains (IsLoopOf g) ks k nest.loops (i, at.0, at.1)

  header_reached : (h : ℕ) → IsHeader g h → IsReachable g h
  header_reached h (u, back) =
      let r = (live.edges u h).0 back.edge in
      subst (λ (x : ℕ). IsReachable g x) (sym r.numbered.1) (reachable come (IsLiveEdge P m) P m (λ v w e. e.edge) g live (later r.reached r.edge))

  header_is : (i : ℕ) (k : NaturalLoop) → IsEntryAt ks i k → header_at ks i ≡ k.header
  header_is i k at = index_at (headers_of ks) i k.header (at_map (λ l. l.header) ks i k at)

  members_are : (i : ℕ) (k : NaturalLoop) → IsEntryAt ks i k → members_at ks i ≡ k.members
  members_are i k at = let r = at_map (λ (l : NaturalLoop). l.members) ks i k at in get_or_default (map (λ (l : NaturalLoop). l.members) ks) i [] k.members r.0 ∙ r.1

  -- of a loop and one around it, the outer one's header is no member of the inner one
  header_apart : (i j : ℕ) (k l : NaturalLoop) → IsEntryAt ks i k → IsEntryAt ks j l → IsAround ks i j → Contains l.members k.header → Contains k.members l.header → ⊥
  header_apart i j k l at_i at_j around inner outer =
      let loop_k = loop_at i k at_i in
      let loop_l = loop_at j l at_j in
      let down = dominates g k.header l.header ((loop_k.members l.header).0 outer) in
      let up = dominates g l.header k.header ((loop_l.members k.header).0 inner) in
      let same : k.header ≡ l.header = antisymmetric g k.header l.header (header_reached k.header loop_k.header) down up in
      let headers : header_at ks j ≡ header_at ks i = header_is j l at_j ∙ (sym same ∙ sym (header_is i k at_i)) in
      let long = length-map ks (λ (x : NaturalLoop). x.header) in
      let below_i = at_i.0 in
      let below_j = at_j.0 in
      around.other (same_place (headers_of ks) nest.rising j i (omega arith) (omega arith) headers)

  -- a loop around another has more members
  bigger : (i j : ℕ) (k l : NaturalLoop) → IsEntryAt ks i k → IsEntryAt ks j l → IsAround ks i j → suc (length k.members) ≤ length l.members
  bigger i j k l at_i at_j around =
      let loop_k = loop_at i k at_i in
      let loop_l = loop_at j l at_j in
      let inner : Contains l.members k.header = subst (λ (ms : List ℕ). Contains ms k.header) (members_are j l at_j) (subst (λ (h : ℕ). Contains (members_at ks j) h) (header_is i k at_i) around.member) in
      let apart = header_apart i j k l at_i at_j around inner in
      let in_k : IsMember g k.header k.header = (loop_k.header, inl refl) in
      elim (nested g k.header l.header k.header (header_reached k.header loop_k.header) in_k ((loop_l.members k.header).0 inner)) [
        | inr outer ↦ absurd (apart ((loop_k.members l.header).1 (outer l.header (loop_l.header, inl refl))))
        | inl within ↦
            let distinct = distinct_with l.header k.members (λ z has e. apart (subst (λ (h : ℕ). Contains k.members h) e has)) (distinct_rising k.members loop_k.rising) in
            let most =
            sum_of_part (λ x. 1) (l.header ∷ k.members) l.members distinct
            (λ z has. elim (cons_cases l.header z k.members has) [
              | inl here ↦ subst (λ (h : ℕ). Contains l.members h) here ((loop_l.members l.header).1 (loop_l.header, inl refl))
              | inr there ↦ (loop_l.members z).1 (within z ((loop_k.members z).0 there))
            ])
            in
            omega (arith, ones (l.header ∷ k.members), ones l.members, most)
      ]

  -- the charged loops are told from outside inwards
  module _ (flags others : List Bool) (a : AreCharged P t m ks flags) (b : AreCharged P t m ks others) where
    agree : (n i : ℕ) (k : NaturalLoop) → IsEntryAt ks i k → sizes ks < n + length k.members → (IsFlagged flags i → IsFlagged others i) × (IsFlagged others i → IsFlagged flags i)
    agree zero i k at less = absurd (let most = size_at ks i k at in omega arith)
    agree (suc n) i k at less =
        let outer : (j : ℕ) → IsAround ks i j → (IsFlagged flags j → IsFlagged others j) × (IsFlagged others j → IsFlagged flags j) =
        λ j around. let l = get_or ks j some_loop in
        let at_j : IsEntryAt ks j l = (around.below, get_or_default ks j l some_loop around.below) in
        let more = bigger i j k l at at_j around in
        agree n j l at_j (omega arith)
        in
        (λ f. (b.each i k at).1 (moved ((a.each i k at).0 f) (λ j around o. (outer j around).1 o)), λ f. (a.each i k at).1 (back ((b.each i k at).0 f) (λ j around o. (outer j around).0 o)))
      where
        moved : IsCharged P t m ks flags i k → ((j : ℕ) → IsAround ks i j → IsFlagged others j → IsFlagged flags j) → IsCharged P t m ks others i k
        moved is from = record { call = is.call; fits = is.fits; outermost = λ j around o. is.outermost j around (from j around o) }

        back : IsCharged P t m ks others i k → ((j : ℕ) → IsAround ks i j → IsFlagged flags j → IsFlagged others j) → IsCharged P t m ks flags i k
        back is from = record { call = is.call; fits = is.fits; outermost = λ j around o. is.outermost j around (from j around o) }

    same_bool : (x y : Bool) → (x ≡ true → y ≡ true) → (y ≡ true → x ≡ true) → x ≡ y
    same_bool true y to from = sym (to refl)
    same_bool false true to from = from refl
    same_bool false false to from = refl

    pub same_flags : flags ≡ others
    same_flags =
        let long = a.long in
        same_lists false flags others (a.long ∙ sym b.long)
        (λ i below. let k = get_or ks i some_loop in
        let at : IsEntryAt ks i k = (omega arith, get_or_default ks i k some_loop (omega arith)) in
        let both = agree (suc (sizes ks)) i k at (omega arith) in
        same_bool (get_or flags i false) (get_or others i false) both.0 both.1)

pub charges_are_one : WalksComeByEdges → HeaderDominatesMembers → LoopsAreNested → DominanceIsAntisymmetric → ChargesAreOne
charges_are_one come dominates nested antisymmetric P t bound_of m a b flags others x y =
    let graph = one_graph (IsLiveEdge P m) P m a.graph b.graph a.is_live b.is_live in
    let alike = one_nest b.graph a.nest b.nest (subst (λ (g : Digraph). IsNest g a.nest) graph a.is_nest) b.is_nest in
    let alike' = one_nest b.graph b.nest a.nest b.is_nest (subst (λ (g : Digraph). IsNest g a.nest) graph a.is_nest) in
    same_flags come dominates nested antisymmetric P t m b.graph b.is_live b.nest b.is_nest flags others (charged_too P t m a.nest b.nest alike.0 alike'.0 alike.1 alike'.1 flags x) y
