-- Of the loops that may be charged, the outermost ones are apart, and each other one lies in one of them.
use Rattle.std.proofs.Common.{◌≡◌, ℕ, zero, suc, ◌+◌, ◌<◌, ◌≤◌, Bool, false, cond, List, [], ◌∷◌, ◌++◌, length, filter, take, get_or, Contains, None, refl, sym, ap, ◌∙◌, subst, inl, inr, arith}
use Rattle.std.specs.List.{range_with_len}
use Rattle.std.proofs.lemmas.Bool.{cases_Bool, both_ways}
use Rattle.std.proofs.lemmas.List.{get_or_default, length-map}
use Rattle.std.proofs.lemmas.List.FromFn.{length-range_with_len}
use Rattle.loop_nest.specs.Digraph.{Digraph, IsDigraph}
use Rattle.loop_nest.specs.Walks.{IsMember}
use Rattle.loop_nest.specs.Entered.{AreAllReached}
use Rattle.loop_nest.specs.Nest.{NaturalLoop, headers_of, header_at, members_at, IsLoopOf, IsAround, IsNest}
use Rattle.loop_nest.specs.Laws.{HeaderDominatesMembers, LoopsAreNested, DominanceIsAntisymmetric}
use Rattle.loop_nest.proofs.Elements.{filter_at_most, fewer_kept, range_contains}
use Rattle.loop_nest.proofs.Ends.{ends_within}
use Rattle.loop_nest.proofs.Rising.{same_place}
use Rattle.section_check.specs.Bounded.{holds}
use Rattle.section_check.proofs.Elements.{holds_from_contains, contains_from_holds}
use Rattle.path_solver.specs.Reaching.{IsFlagged}
use Rattle.path_solver.specs.Regions.{charged}
use Rattle.compact_walks.specs.Charging.{AreOutermost}
use Rattle.compact_walks.specs.Laws.{OutermostAreApart, HasFlaggedAround, OthersHaveOneAround}
use Rattle.compact_walks.proofs.Loops.{header_of, members_of}

no_loop : NaturalLoop
no_loop = record { header = 0; members = []; outer = None }

module _ (g : Digraph) (ls : List NaturalLoop) (nest : IsNest g ls) where
  loop_at : (i : ℕ) → i < length ls → IsLoopOf g (get_or ls i no_loop)
  loop_at i lt = nest.loops i no_loop lt

  header_member : (i : ℕ) → i < length ls → IsMember g (header_at ls i) (header_at ls i)
  header_member i lt =
      let l = loop_at i lt in
      subst (λ (z : ℕ). IsMember g z z) (sym (header_of ls i no_loop lt)) (l.header, inl refl)

  members_are : (i : ℕ) → i < length ls → (x : ℕ) → (Contains (members_at ls i) x → IsMember g (header_at ls i) x) × (IsMember g (header_at ls i) x → Contains (members_at ls i) x)
  members_are i lt x =
      let l = loop_at i lt in
      let P : ℕ → List ℕ → Type 0 = λ z us. (Contains us x → IsMember g z x) × (IsMember g z x → Contains us x) in
      subst (λ (z : ℕ). P z (members_at ls i)) (sym (header_of ls i no_loop lt)) (subst (λ (us : List ℕ). P (get_or ls i no_loop).header us) (sym (members_of ls i no_loop lt)) ((l.members x).0, (l.members x).1))

  -- the header of a loop is among its members
  own_header : (i : ℕ) → i < length ls → Contains (members_at ls i) (header_at ls i)
  own_header i lt = (members_are i lt (header_at ls i)).1 (header_member i lt)

pub outermost_are_apart : OutermostAreApart
outermost_are_apart g ls nest candidates flags out i k l m at_i at_k other flagged_i flagged_k within =
    let is_i = (out.each i).0 flagged_i in
    let is_k = (out.each k).0 flagged_k in
    let lt_i = at_i.0 in
    let lt_k = at_k.0 in
    let l_is : get_or ls i no_loop ≡ l = get_or_default ls i no_loop l lt_i ∙ at_i.1 in
    let m_is : get_or ls k no_loop ≡ m = get_or_default ls k no_loop m lt_k ∙ at_k.1 in
    let inner : Contains l.members (header_at ls i) = subst (λ (us : List ℕ). Contains us (header_at ls i)) (members_of ls i no_loop lt_i ∙ ap (λ (x : NaturalLoop). x.members) l_is) (own_header g ls nest i lt_i) in
    let outer : Contains (members_at ls k) (header_at ls i) = subst (λ (us : List ℕ). Contains us (header_at ls i)) (sym (members_of ls k no_loop lt_k ∙ ap (λ (x : NaturalLoop). x.members) m_is)) (within (header_at ls i) inner) in
    is_i.outermost k (record { below = lt_k; other = other; member = outer }) is_k.candidate

module _ (dominates : HeaderDominatesMembers) (nested : LoopsAreNested) (antisymmetric : DominanceIsAntisymmetric) (g : Digraph) (ls : List NaturalLoop) (wf : IsDigraph g) (reached : AreAllReached g) (nest : IsNest g ls) where
  header_below : (i : ℕ) → i < length ls → header_at ls i < g.nodes
  header_below i lt = let m = header_member g ls nest i lt in (ends_within wf m.0.0 (header_at ls i) m.0.1.edge).1

  -- the header of a loop around another one is no member of it
  header_apart : (i j : ℕ) → i < length ls → IsAround ls i j → Contains (members_at ls i) (header_at ls j) → ⊥
  header_apart i j lt around inner =
      let down = dominates g (header_at ls i) (header_at ls j) ((members_are g ls nest i lt (header_at ls j)).0 inner) in
      let up = dominates g (header_at ls j) (header_at ls i) ((members_are g ls nest j around.below (header_at ls i)).0 around.member) in
      let same : header_at ls i ≡ header_at ls j = antisymmetric g (header_at ls i) (header_at ls j) (reached (header_at ls i) (header_below i lt)) down up in
      let long = length-map ls (λ (x : NaturalLoop). x.header) in
      let below = around.below in
      around.other (same_place (headers_of ls) nest.rising j i (omega arith) (omega arith) (sym same))

  -- and its members have those of the other one among them
  lies_in : (i j : ℕ) → i < length ls → IsAround ls i j → (x : ℕ) → Contains (members_at ls i) x → Contains (members_at ls j) x
  lies_in i j lt around x has =
      let in_j = (members_are g ls nest j around.below (header_at ls i)).0 around.member in
      elim (nested g (header_at ls i) (header_at ls j) (header_at ls i) (reached (header_at ls i) (header_below i lt)) (header_member g ls nest i lt) in_j) [
        | inl within ↦ (members_are g ls nest j around.below x).1 (within x ((members_are g ls nest i lt x).0 has))
        | inr outer ↦ absurd (header_apart i j lt around ((members_are g ls nest i lt (header_at ls j)).1 (outer (header_at ls j) (header_member g ls nest j around.below))))
      ]

  -- how many members a loop has
  size : ℕ → ℕ
  size i = length (filter (holds (members_at ls i)) (range_with_len 0 g.nodes))

  small : (i : ℕ) → size i ≤ g.nodes
  unfolding size
  small i = omega (arith, filter_at_most (holds (members_at ls i)) (range_with_len 0 g.nodes), length-range_with_len 0 g.nodes)

  bigger : (i j : ℕ) → i < length ls → IsAround ls i j → size i < size j
  unfolding size
  bigger i j lt around =
      let h = header_at ls j in
      let mine = members_at ls i in
      let theirs = members_at ls j in
      let fails : holds mine h ≡ false = elim (cases_Bool (holds mine h)) [
        | inl yes' ↦ absurd (header_apart i j lt around (contains_from_holds mine h yes'))
        | inr no' ↦ no'
      ] in
      fewer_kept (holds theirs) (holds mine) (range_with_len 0 g.nodes) h (λ y is. holds_from_contains theirs y (lies_in i j lt around y (contains_from_holds mine y is)))
      (holds_from_contains theirs h (own_header g ls nest j around.below)) fails (range_contains g.nodes h (header_below j around.below))

  around_through : (i j k : ℕ) → i < length ls → IsAround ls i j → IsAround ls j k → IsAround ls i k
  around_through i j k lt a b =
      let first = bigger i j lt a in
      let second = bigger j k a.below b in
      record {
        below = b.below;
        other = λ same. let e = ap size same in absurd (omega arith);
        member = lies_in j k a.below b (header_at ls i) a.member;
      }

  module _ (candidates flags : List Bool) (out : AreOutermost ls candidates flags) where
    search : (fuel i : ℕ) → i < length ls → g.nodes < fuel + size i → IsFlagged candidates i → (IsFlagged flags i → ⊥) → (HasFlaggedAround ls flags i → ⊥) → ⊥
    search zero i lt enough candidate unflagged none = let most = small i in absurd (omega arith)
    search (suc fuel) i lt enough candidate unflagged none =
        unflagged ((out.each i).1 (record {
          candidate = candidate;
          outermost = λ k around candidate_k.
              elim (cases_Bool (get_or flags k false)) [
                | inl yes' ↦ none (record { loop = k; flagged = yes'; around = around })
                | inr no' ↦
                    let up = bigger i k lt around in
                    search fuel k around.below (omega arith) candidate_k (λ yes'. both_ways (get_or flags k false) no' yes')
                    (λ more. none (record { loop = more.loop; flagged = more.flagged; around = around_through i k more.loop lt around more.around }))
              ];
        }))

pub others_have_one_around : HeaderDominatesMembers → LoopsAreNested → DominanceIsAntisymmetric → OthersHaveOneAround
others_have_one_around dominates nested antisymmetric g ls wf reached nest candidates flags out i lt candidate unflagged none =
    search dominates nested antisymmetric g ls wf reached nest candidates flags out (suc g.nodes) i lt (omega arith) candidate unflagged none

-- what one loop more is charged
pub charged_more : (loads : List ℕ) (rs : List Bool) (i : ℕ) → i < length loads → i < length rs
    → charged (take i loads) (take i rs) ++ cond (get_or rs i false) (get_or loads i 0) 0 ∷ [] ≡ charged (take (suc i) loads) (take (suc i) rs)
charged_more [] rs i lt lt' = absurd (omega arith)
charged_more (l ∷ ls) [] i lt lt' = absurd (omega arith)
charged_more (l ∷ ls) (x ∷ xs) zero lt lt' = refl
charged_more (l ∷ ls) (x ∷ xs) (suc i) lt lt' = ap (λ (ks : List ℕ). cond x l 0 ∷ ks) (charged_more ls xs i (omega arith) (omega arith))

pub charged_long : (loads : List ℕ) (rs : List Bool) → length rs ≡ length loads → length (charged loads rs) ≡ length loads
charged_long [] rs long = refl
charged_long (l ∷ ls) [] long = absurd (omega arith)
charged_long (l ∷ ls) (r ∷ rs) long = ap suc (charged_long ls rs (omega arith))
