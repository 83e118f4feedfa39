-- What walks keep and cost under the other numbers of nodes.
use Rattle.std.proofs.Common.{◌≡◌, ℕ, ◌+◌, ◌*◌, ◌<◌, ◌≤◌, ◌&&◌, Bool, false, not, cond, eqb, List, [], ◌∷◌, ◌++◌, map, get_or, count_by, All, Contains, sum_by, refl, sym, ap, ap₂, ◌∙◌, subst, arith}
use Rattle.std.proofs.lemmas.List.{map-append}
use Rattle.std.proofs.lemmas.List.Sums.{sum_by-cons}
use Rattle.std.proofs.lemmas.List.Elements.{All-contains, Contains-get_or, Contains-append_left, Contains-append_right}
use Rattle.lists.specs.Members.{at_head, in_tail, map_contains}
use Rattle.loop_nest.specs.Walks.{back_edges_to}
use Rattle.loop_nest.proofs.Elements.{from_map}
use Rattle.section_check.specs.Bounded.{BoundedLoop, holds, entries_from, entries, cost_of_nodes, cost_of, IsKept, later_entries, cost_of_iteration}
use Rattle.compact_walks.specs.Moving.{moved_bounded}
use Rattle.compact_walks.proofs.Renumbering.{AreRising, AreBelow, rest_below, same_test, same_holds, moved_back}

pub all_of : {X : Type 0} (P : X → Type 0) (xs : List X) → ((x : X) → Contains xs x → P x) → All P xs
all_of P xs f i d lt = f _ (Contains-get_or xs i d lt)

-- where a mapped list is parted, the list is
pub split_map : (f : ℕ → ℕ) (ns as' bs : List ℕ) → map f ns ≡ as' ++ bs → (xs : List ℕ) × (ys : List ℕ) × (ns ≡ xs ++ ys) × (map f xs ≡ as') × (map f ys ≡ bs)
split_map f ns [] bs is = ([], ns, refl, refl, is)
split_map f [] (a ∷ as') bs is = let bad : ⊥ = cc in absurd bad
split_map f (n ∷ ns) (a ∷ as') bs is =
    let tail : map f ns ≡ as' ++ bs = cc in
    let head : f n ≡ a = cc in
    let r = split_map f ns as' bs tail in
    (n ∷ r.0, r.1, ap (λ (zs : List ℕ). n ∷ zs) r.2, ap₂ (λ (z : ℕ) (zs : List ℕ). z ∷ zs) head r.3, r.4)

-- its header and its members are below n
pub record IsBelow (n : ℕ) (l : BoundedLoop) : Type 0 where
  pub header : l.header < n
  pub members : AreBelow n l.members

module _ (n : ℕ) (node : ℕ → ℕ) (rising : AreRising n node) where
  -- ---- bounds

  counted : (h : ℕ) (ns : List ℕ) → h < n → AreBelow n ns → count_by (λ x. eqb x (node h)) (map node ns) ≡ count_by (λ x. eqb x h) ns
  counted h [] lh below = refl
  counted h (u ∷ ns) lh below =
      let f : ℕ → ℕ = λ x. cond (eqb x (node h)) 1 0 in
      let g : ℕ → ℕ = λ x. cond (eqb x h) 1 0 in
      let here : f (node u) ≡ g u = ap (λ (b : Bool). cond b 1 0) (same_test n node rising u h (below u (at_head u ns)) lh) in
      sum_by-cons f (node u) (map node ns) ∙ ap₂ (λ (a b : ℕ). a + b) here (counted h ns lh (rest_below n u ns below)) ∙ sym (sum_by-cons g u ns)

  pub same_back_edges : (h : ℕ) (ns : List ℕ) → h < n → AreBelow n ns → back_edges_to (node h) (map node ns) ≡ back_edges_to h ns
  same_back_edges h [] lh below = refl
  same_back_edges h (u ∷ ns) lh below = counted h ns lh (rest_below n u ns below)

  module _ (l : BoundedLoop) (in_range : IsBelow n l) (ns : List ℕ) (below : AreBelow n ns) where
    pub kept_out : IsKept ns l → IsKept (map node ns) (moved_bounded node l)
    kept_out kept before in_loop after is all =
        let a = split_map node ns (before ++ in_loop) after is in
        let b = split_map node a.0 before in_loop a.3 in
        let stay = b.1 in
        let parts : ns ≡ b.0 ++ stay ++ a.1 = a.2 ∙ ap (λ (zs : List ℕ). zs ++ a.1) b.2 in
        let inner : AreBelow n stay = λ u has. below u (subst (λ (zs : List ℕ). Contains zs u) (sym parts) (Contains-append_left (b.0 ++ stay) a.1 u (Contains-append_right b.0 stay u has))) in
        let members : All (Contains l.members) stay = all_of (Contains l.members) stay (λ u has.
        moved_back n node rising l.members in_range.members u (inner u has) (All-contains (Contains (map node l.members)) in_loop (node u) all (subst (λ (zs : List ℕ). Contains zs (node u)) b.4 (map_contains node stay u has)))) in
        let most = kept b.0 stay a.1 parts members in
        let same = same_back_edges l.header stay in_range.header inner in
        subst (λ (zs : List ℕ). back_edges_to (node l.header) zs ≤ l.bound) b.4 (let e : back_edges_to (node l.header) (map node stay) ≤ l.bound = omega arith in e)

    pub kept_in : IsKept (map node ns) (moved_bounded node l) → IsKept ns l
    kept_in kept before in_loop after is all =
        let parts : map node ns ≡ map node before ++ map node in_loop ++ map node after =
        ap (map node) is ∙ map-append node (before ++ in_loop) after ∙ ap (λ (zs : List ℕ). zs ++ map node after) (map-append node before in_loop) in
        let inner : AreBelow n in_loop = λ u has. below u (subst (λ (zs : List ℕ). Contains zs u) (sym is) (Contains-append_left (before ++ in_loop) after u (Contains-append_right before in_loop u has))) in
        let members : All (Contains (map node l.members)) (map node in_loop) = all_of (Contains (map node l.members)) (map node in_loop) (λ x has.
        let r = from_map node in_loop x has in
        subst (λ (z : ℕ). Contains (map node l.members) z) r.2 (map_contains node l.members r.0 (All-contains (Contains l.members) in_loop r.0 all r.1))) in
        let most = kept (map node before) (map node in_loop) (map node after) parts members in
        let same = same_back_edges l.header in_loop in_range.header inner in
        omega arith

  -- ---- entries

  entries_same : (inside : Bool) (members : List ℕ) → AreBelow n members → (ns : List ℕ) → AreBelow n ns → entries_from inside (map node members) (map node ns) ≡ entries_from inside members ns
  entries_same inside members in_range [] below = refl
  entries_same inside members in_range (u ∷ ns) below =
      let here = same_holds n node rising members in_range u (below u (at_head u ns)) in
      let rest = rest_below n u ns below in
      ap (λ (b : Bool). cond (b && not inside) 1 0 + entries_from b (map node members) (map node ns)) here
      ∙ ap (λ (k : ℕ). cond (holds members u && not inside) 1 0 + k) (entries_same (holds members u) members in_range ns rest)

  later_same : (members : List ℕ) → AreBelow n members → (ns : List ℕ) → AreBelow n ns → later_entries (map node members) (map node ns) ≡ later_entries members ns
  later_same members in_range [] below = refl
  later_same members in_range (u ∷ ns) below =
      ap (λ (b : Bool). entries_from b (map node members) (map node ns)) (same_holds n node rising members in_range u (below u (at_head u ns)))
      ∙ entries_same (holds members u) members in_range ns (rest_below n u ns below)

  -- ---- costs

  module _ (costs others : List ℕ) (same : (u : ℕ) → u < n → get_or others (node u) 0 ≡ get_or costs u 0) where
    nodes_same : (ns : List ℕ) → AreBelow n ns → cost_of_nodes others (map node ns) ≡ cost_of_nodes costs ns
    nodes_same [] below = refl
    nodes_same (u ∷ ns) below =
        sum_by-cons (λ (x : ℕ). get_or others x 0) (node u) (map node ns)
        ∙ ap₂ (λ (a b : ℕ). a + b) (same u (below u (at_head u ns))) (nodes_same ns (rest_below n u ns below))
        ∙ sym (sum_by-cons (λ (x : ℕ). get_or costs x 0) u ns)

    fees_same : (count other : List ℕ → ℕ) → (loops : List BoundedLoop) → ((l : BoundedLoop) → Contains loops l → other (map node l.members) ≡ count l.members)
        → sum_by (λ l. l.load * other l.members) (map (moved_bounded node) loops) ≡ sum_by (λ l. l.load * count l.members) loops
    fees_same count other [] alike = refl
    fees_same count other (l ∷ ls) alike =
        sum_by-cons (λ (k : BoundedLoop). k.load * other k.members) (moved_bounded node l) (map (moved_bounded node) ls)
        ∙ ap₂ (λ (a b : ℕ). l.load * a + b) (alike l (at_head l ls)) (fees_same count other ls (λ k has. alike k (in_tail l k ls has)))
        ∙ sym (sum_by-cons (λ (k : BoundedLoop). k.load * count k.members) l ls)

    module _ (loops : List BoundedLoop) (in_range : (l : BoundedLoop) → Contains loops l → IsBelow n l) (ns : List ℕ) (below : AreBelow n ns) where
      pub same_cost : cost_of others (map (moved_bounded node) loops) (map node ns) ≡ cost_of costs loops ns
      same_cost =
          ap₂ (λ (a b : ℕ). a + b) (nodes_same ns below)
          (fees_same (λ ms. entries ms ns) (λ ms. entries ms (map node ns)) loops (λ l has. entries_same false l.members (in_range l has).members ns below))

      pub same_iteration_cost : cost_of_iteration others (map (moved_bounded node) loops) (map node ns) ≡ cost_of_iteration costs loops ns
      same_iteration_cost =
          ap₂ (λ (a b : ℕ). a + b) (nodes_same ns below)
          (fees_same (λ ms. later_entries ms ns) (λ ms. later_entries ms (map node ns)) loops (λ l has. later_same l.members (in_range l has).members ns below))
