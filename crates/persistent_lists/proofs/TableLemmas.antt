-- Tables of lists, and the trees of these.
use Rattle.std.proofs.Common.{◌≡◌, ℕ, zero, suc, ◌<◌, ◌≤◌, ◌^◌, ◌⊎◌, List, [], ◌∷◌, ◌++◌, length, take, get_or, set, All, Option, Some, None, refl, sym, ap, ap₂, ◌∙◌, subst, inl, inr, arith}
use Rattle.std.specs.Prelude.{Result, Ok, Err, OnOk, OnErr, slice_get, nat_lt}
use Rattle.std.specs.Option.{option_map, option_map_or}
use Rattle.std.proofs.lemmas.Bool.{cases_lt, cond-true, cond-false, lt-ltb}
use Rattle.std.proofs.lemmas.Option.{slice_get_past, slice_get_within, get_or_from_slice_get, slice_get-map}
use Rattle.std.proofs.lemmas.List.{map-append, length-map, length-take}
use Rattle.std.proofs.lemmas.List.Elements.{All-append}
use Rattle.lists.proofs.Lemmas.{none≢some, some_same}
use Rattle.persistent_lists.specs.Tables.{ListTable, with_list, filled, changed_list, list_at, IsDifference}
use Rattle.persistent_lists.specs.Trees.{items, IsTree, IsFilled, IsTreeOf, Extends, lists_of, below}
use Rattle.persistent_lists.specs.Known.{all_items, AreTrees}
use Rattle.persistent_lists.specs.Residues.{HasResidues, HaveMore}
use Rattle.persistent_lists.specs.declared.known.TreePair.{TreePair}
use Rattle.persistent_lists.proofs.TreeLemmas.{length-items, items_kept, tree_kept, take_filled}
use Rattle.persistent_lists.proofs.ResidueLemmas.{with_residues_kept}

-- ---- the table grows

pub trees_kept : (old new : List (ℕ × ℕ)) (h : ℕ) (roots : List ℕ) → Extends old new → All (IsTree old h) roots → All (IsTree new h) roots
trees_kept old new h roots more all = λ k d lt. tree_kept old new h (get_or roots k d) more (all k d lt)

pub residues_kept : (old new : List (ℕ × ℕ)) (bs cs : List ℕ) (h : ℕ) (roots : List ℕ) → Extends old new → HaveMore bs cs → All (IsTree old h) roots → All (HasResidues old bs h) roots → All (HasResidues new cs h) roots
residues_kept old new bs cs h roots more grown all marked = λ k d lt. with_residues_kept old new bs cs h (get_or roots k d) more grown (all k d lt) (marked k d lt)

pub lists_kept : (old new : List (ℕ × ℕ)) (w h : ℕ) (roots : List ℕ) → Extends old new → All (IsTree old h) roots → lists_of w h new roots ≡ lists_of w h old roots
lists_kept old new w h [] more all = refl
lists_kept old new w h (r ∷ rs) more all =
    ap₂ (λ a b. a ∷ b) (ap (take w) (items_kept old new h r more (all 0 r (omega arith)))) (lists_kept old new w h rs more (λ k d lt. all (suc k) d (omega (arith, lt))))

pub pairs_kept : (old new : List (ℕ × ℕ)) (ks : List TreePair) → Extends old new → All (AreTrees old) ks → All (AreTrees new) ks
pairs_kept old new ks more all = λ k d lt.
    let t = all k d lt in (tree_kept old new (get_or ks k d).height (get_or ks k d).first more t.0, tree_kept old new (get_or ks k d).height (get_or ks k d).second more t.1)

known_kept : (old new : List (ℕ × ℕ)) (ks : List TreePair) → Extends old new → All (AreTrees old) ks → all_items new ks ≡ all_items old ks
known_kept old new [] more all = refl
known_kept old new (k ∷ ks) more all =
    let t = all 0 k (omega arith) in
    ap₂ (λ a b. a ∷ b) (ap₂ (λ (xs ys : List ℕ). (xs, ys)) (items_kept old new k.height k.first more t.0) (items_kept old new k.height k.second more t.1))
    (known_kept old new ks more (λ j d lt. all (suc j) d (omega (arith, lt))))

one : (P : ℕ → Type 0) (x : ℕ) → P x → All P (x ∷ [])
one P x h zero d lt = h
one P x h (suc k) d lt = absurd (omega (arith, lt))

pub all_grown : (P : ℕ → Type 0) (roots grown : List ℕ) (root : ℕ) → All P roots → P root → (grown ≡ roots ++ root ∷ []) ⊎ (grown ≡ roots) → All P grown
all_grown P roots grown root all t (inl e) = subst (λ l. All P l) (sym e) (All-append P roots (root ∷ []) all (one P root t))
all_grown P roots grown root all t (inr e) = subst (λ l. All P l) (sym e) all

pub at_root : (P : ℕ → Type 0) (roots : List ℕ) (n root : ℕ) → All P roots → slice_get roots n ≡ Some root → P root
at_root P roots n root all at = subst P (get_or_from_slice_get roots n root 0 at) (all n 0 (slice_get_within roots n root at))

pub either : {T E : Type 0} (r : Result T E) (P Q : Type 0) → OnOk r P → OnErr r Q → P ⊎ Q
either (Ok x) P Q p q = inl p
either (Err x) P Q p q = inr q

pub on_ok : {T E : Type 0} (r : Result T E) (P Q : Type 0) → (P → Q) → OnOk r P → OnOk r Q
on_ok (Ok x) P Q f p = f p
on_ok (Err x) P Q f p = tt

pub on_err : {T E : Type 0} (r : Result T E) (P Q : Type 0) → (P → Q) → OnErr r P → OnErr r Q
on_err (Ok x) P Q f p = tt
on_err (Err x) P Q f p = f p

pub always_err : {T E : Type 0} (r : Result T E) (P : Type 0) → P → OnErr r P
always_err (Ok x) P p = tt
always_err (Err x) P p = p

-- the table that is seen
abbrev pub table : (w r h : ℕ) → List (ℕ × ℕ) → List ℕ → List (List ℕ × List ℕ) → ListTable
table w r h ps roots known = record { width = w; rest = r; lists = lists_of w h ps roots; known = known }

module _ (seen : ListTable) (w r h : ℕ) (old new : List (ℕ × ℕ)) (roots : List ℕ) (ks : List TreePair) (is : seen ≡ table w r h old roots (all_items old ks)) (more : Extends old new) (all : All (IsTree old h) roots)
    (trees : All (AreTrees old) ks) where
  pub grown_view : (grown : List ℕ) (root : ℕ) (xs : List ℕ) → take w (items new h root) ≡ xs → grown ≡ roots ++ root ∷ [] → table w r h new grown (all_items new ks) ≡ with_list seen xs
  grown_view grown root xs items_are e =
      ap (λ l. table w r h new l (all_items new ks)) e
      ∙ (ap₂ (λ ls known. let t : ListTable = record { width = w; rest = r; lists = ls; known = known } in t)
      (map-append (λ n. take w (items new h n)) roots (root ∷ []) ∙ ap₂ (λ a b. a ++ b ∷ []) (lists_kept old new w h roots more all) items_are)
      (known_kept old new ks more trees)
      ∙ ap (λ t. with_list t xs) (sym is))

  pub kept_view : (grown : List ℕ) → grown ≡ roots → table w r h new grown (all_items new ks) ≡ seen
  kept_view grown e =
      ap (λ l. table w r h new l (all_items new ks)) e
      ∙ (ap₂ (λ ls known. let t : ListTable = record { width = w; rest = r; lists = ls; known = known } in t) (lists_kept old new w h roots more all) (known_kept old new ks more trees) ∙ sym is)

-- ---- the list that is added

pub filled_view : {known : List (List ℕ × List ℕ)} (seen : ListTable) (w r h : ℕ) (old new : List (ℕ × ℕ)) (roots given : List ℕ) (node rest_node : ℕ) → seen ≡ table w r h old roots known → length given ≤ w → w ≤ 2 ^ h
    → IsFilled new h given r node rest_node → take w (items new h node) ≡ filled seen given
filled_view seen w r h old new roots given node rest_node is room high made =
    ap (take w) made.filled ∙ (take_filled given w (2 ^ h) r room high ∙ ap (λ t. filled t given) (sym is))

take_set : (w i : ℕ) (xs : List ℕ) (x : ℕ) → take w (set xs i x) ≡ set (take w xs) i x
take_set zero i xs x = refl
take_set (suc w) i [] x = refl
take_set (suc w) zero (y ∷ xs) x = refl
take_set (suc w) (suc i) (y ∷ xs) x = ap (λ l. y ∷ l) (take_set w i xs x)

set_beyond : (xs : List ℕ) (i x : ℕ) → length xs ≤ i → set xs i x ≡ xs
set_beyond [] i x le = refl
set_beyond (y ∷ xs) zero x le = absurd (omega (arith, le))
set_beyond (y ∷ xs) (suc i) x le = ap (λ l. y ∷ l) (set_beyond xs i x (omega (arith, le)))

-- the list of a number
pub list_there : (w h : ℕ) (ps : List (ℕ × ℕ)) (roots : List ℕ) (n root : ℕ) → slice_get roots n ≡ Some root → slice_get (lists_of w h ps roots) n ≡ Some (take w (items ps h root))
list_there w h ps roots n root e = slice_get-map (λ k. take w (items ps h k)) roots n ∙ ap (option_map (λ k. take w (items ps h k))) e

changed_there : {known : List (List ℕ × List ℕ)} (seen : ListTable) (w r h : ℕ) (ps : List (ℕ × ℕ)) (roots : List ℕ) (n root i x : ℕ) → seen ≡ table w r h ps roots known → slice_get roots n ≡ Some root
    → changed_list seen n i x ≡ set (take w (items ps h root)) i x
changed_there {known = known} seen w r h ps roots n root i x is at =
    ap (λ t. changed_list t n i x) is
    ∙ ap (λ o. option_map_or (λ xs. set xs i x) o (filled (table w r h ps roots known) [])) (list_there w h ps roots n root at)

pub changed_view : {known : List (List ℕ × List ℕ)} (seen : ListTable) (w r h : ℕ) (ps new : List (ℕ × ℕ)) (roots : List ℕ) (n root made i x : ℕ) → seen ≡ table w r h ps roots known → slice_get roots n ≡ Some root
    → IsTreeOf new h made (set (items ps h root) i x) → take w (items new h made) ≡ changed_list seen n i x
changed_view seen w r h ps new roots n root made i x is at t =
    ap (take w) t.holds ∙ (take_set w i (items ps h root) x ∙ sym (changed_there seen w r h ps roots n root i x is at))

pub same_view : {known : List (List ℕ × List ℕ)} (seen : ListTable) (w r h : ℕ) (ps : List (ℕ × ℕ)) (roots : List ℕ) (n root i x : ℕ) → seen ≡ table w r h ps roots known → slice_get roots n ≡ Some root → w ≤ i
    → take w (items ps h root) ≡ changed_list seen n i x
same_view seen w r h ps roots n root i x is at past =
    sym (changed_there seen w r h ps roots n root i x is at ∙ set_beyond (take w (items ps h root)) i x (omega (arith, past, length-take w (items ps h root))))

-- ---- differences of lists

pub get_taken : (w : ℕ) (xs : List ℕ) (i : ℕ) → i < w → slice_get (take w xs) i ≡ slice_get xs i
get_taken zero xs i lt = absurd (omega (arith, lt))
get_taken (suc w) [] i lt = refl
get_taken (suc w) (x ∷ xs) zero lt = refl
get_taken (suc w) (x ∷ xs) (suc i) lt = get_taken w xs i (omega (arith, lt))

pub get_beyond : (w : ℕ) (xs : List ℕ) (i : ℕ) → w ≤ i → slice_get (take w xs) i ≡ None
get_beyond w xs i le = slice_get_past (take w xs) i (omega (arith, le, length-take w xs))

below_is : (w k : ℕ) → k < w → below w (Some k) ≡ Some k
below_is w k lt = cond-true (nat_lt k w) (Some k) None (lt-ltb k w lt)

below_none : (w k : ℕ) → w ≤ k → below w (Some k) ≡ None
below_none w k le = cond-false (nat_lt k w) (Some k) None (grind arith)

alike_at : (w : ℕ) (xs ys : List ℕ) (i : ℕ) → (i < w → slice_get xs i ≡ slice_get ys i) → slice_get (take w xs) i ≡ slice_get (take w ys) i
alike_at w xs ys i h = elim (cases_lt i w) [
  | inl lt ↦ get_taken w xs i lt ∙ (h lt ∙ sym (get_taken w ys i lt))
  | inr le ↦ get_beyond w xs i le ∙ sym (get_beyond w ys i le)
]

pub taken_difference : (w : ℕ) (xs ys : List ℕ) (from : ℕ) (o : Option ℕ) → IsDifference xs ys from o → IsDifference (take w xs) (take w ys) from (below w o)
taken_difference w xs ys from None d = λ i le. alike_at w xs ys i (λ lt. d i le)
taken_difference w xs ys from (Some k) d = elim (cases_lt k w) [
  | inl lt ↦
      subst (λ o. IsDifference (take w xs) (take w ys) from o) (sym (below_is w k lt))
      (d.0, (λ e. d.1 (sym (get_taken w xs k lt) ∙ (e ∙ get_taken w ys k lt))), (λ i le under. alike_at w xs ys i (λ within. d.2 i le under)))
  | inr le ↦
      subst (λ o. IsDifference (take w xs) (take w ys) from o) (sym (below_none w k le))
      (λ i past. alike_at w xs ys i (λ within. d.2 i past (omega (arith, le, within))))
]

there : (xs : List ℕ) (i : ℕ) → i < length xs → slice_get xs i ≡ None → ⊥
there [] i lt e = omega (arith, lt)
there (x ∷ xs) zero lt e = none≢some x (sym e)
there (x ∷ xs) (suc i) lt e = there xs i (omega (arith, lt)) e

-- one of the lists isn't there
pub difference_from_none : (w : ℕ) (xs : List ℕ) (from : ℕ) → length xs ≡ w → IsDifference xs [] from (below w (Some from))
difference_from_none w xs from e = elim (cases_lt from w) [
  | inl lt ↦ subst (λ o. IsDifference xs [] from o) (sym (below_is w from lt)) (omega arith, there xs from (omega (arith, lt, e)), (λ i le under. absurd (omega (arith, le, under))))
  | inr le ↦ subst (λ o. IsDifference xs [] from o) (sym (below_none w from le)) (λ i past. slice_get_past xs i (omega (arith, past, le, e)))
]

swapped : (xs ys : List ℕ) (from : ℕ) (o : Option ℕ) → IsDifference xs ys from o → IsDifference ys xs from o
swapped xs ys from None d = λ i le. sym (d i le)
swapped xs ys from (Some k) d = (d.0, (λ e. d.1 (sym e)), (λ i le under. sym (d.2 i le under)))

pub none_difference_from : (w : ℕ) (xs : List ℕ) (from : ℕ) → length xs ≡ w → IsDifference [] xs from (below w (Some from))
none_difference_from w xs from e = swapped xs [] from (below w (Some from)) (difference_from_none w xs from e)

-- the lists of the table
pub list_is : {known : List (List ℕ × List ℕ)} (seen : ListTable) (w r h : ℕ) (ps : List (ℕ × ℕ)) (roots : List ℕ) (n root : ℕ) → seen ≡ table w r h ps roots known → slice_get roots n ≡ Some root → list_at seen n ≡ take w (items ps h root)
list_is seen w r h ps roots n root is at = ap (λ t. list_at t n) is ∙ got (lists_of w h ps roots) n (take w (items ps h root)) (list_there w h ps roots n root at)
  where
    got : (ls : List (List ℕ)) (n : ℕ) (xs : List ℕ) → slice_get ls n ≡ Some xs → get_or ls n [] ≡ xs
    got [] n xs e = absurd (none≢some xs e)
    got (l ∷ ls) zero xs e = some_same l xs e
    got (l ∷ ls) (suc n) xs e = got ls n xs e

pub no_list : {known : List (List ℕ × List ℕ)} (seen : ListTable) (w r h : ℕ) (ps : List (ℕ × ℕ)) (roots : List ℕ) (n : ℕ) → seen ≡ table w r h ps roots known → slice_get roots n ≡ None → list_at seen n ≡ []
no_list seen w r h ps roots n is at = ap (λ t. list_at t n) is ∙ lost (lists_of w h ps roots) n (slice_get-map (λ k. take w (items ps h k)) roots n ∙ ap (option_map (λ k. take w (items ps h k))) at)
  where
    lost : (ls : List (List ℕ)) (n : ℕ) → slice_get ls n ≡ None → get_or ls n [] ≡ []
    lost [] n e = refl
    lost (l ∷ ls) zero e = absurd (none≢some l (sym e))
    lost (l ∷ ls) (suc n) e = lost ls n e

pub list_length : (w h : ℕ) (ps : List (ℕ × ℕ)) (root : ℕ) → w ≤ 2 ^ h → length (take w (items ps h root)) ≡ w
list_length w h ps root high = omega (arith, length-take w (items ps h root), length-items ps h root, high)

pub between : (xs ys us vs : List ℕ) (from : ℕ) (o : Option ℕ) → xs ≡ us → ys ≡ vs → IsDifference us vs from o → IsDifference xs ys from o
between xs ys us vs from o e f d = subst (λ l. IsDifference l ys from o) (sym e) (subst (λ l. IsDifference us l from o) (sym f) d)

-- no list has an item from the width on
beyond_at : {known : List (List ℕ × List ℕ)} (seen : ListTable) (w r h : ℕ) (ps : List (ℕ × ℕ)) (roots : List ℕ) (n i : ℕ) (o : Option ℕ) → seen ≡ table w r h ps roots known → slice_get roots n ≡ o → w ≤ i → slice_get (list_at seen n) i ≡ None
beyond_at seen w r h ps roots n i None is at le = ap (λ l. slice_get l i) (no_list seen w r h ps roots n is at)
beyond_at seen w r h ps roots n i (Some root) is at le = ap (λ l. slice_get l i) (list_is seen w r h ps roots n root is at) ∙ get_beyond w (items ps h root) i le

pub beyond_width : {known : List (List ℕ × List ℕ)} (seen : ListTable) (w r h : ℕ) (ps : List (ℕ × ℕ)) (roots : List ℕ) (n i : ℕ) → seen ≡ table w r h ps roots known → w ≤ i → slice_get (list_at seen n) i ≡ None
beyond_width seen w r h ps roots n i is le = beyond_at seen w r h ps roots n i (slice_get roots n) is refl le

-- a list without a node isn't there
pub no_root : {known : List (List ℕ × List ℕ)} (seen : ListTable) (w r h : ℕ) (ps : List (ℕ × ℕ)) (roots : List ℕ) (n : ℕ) → seen ≡ table w r h ps roots known → slice_get roots n ≡ None → n < length seen.lists → ⊥
no_root seen w r h ps roots n is at lt = there roots n (omega (arith, lt, ap (λ t. length t.lists) is, length-map roots (λ root. take w (items ps h root)))) at
