-- Binary trees over indices: their items, and their halves.
use Rattle.std.proofs.Common.{◌≡◌, ℕ, zero, suc, ◌+◌, ◌-◌, ◌*◌, ◌<◌, ◌≤◌, ◌^◌, List, [], ◌∷◌, ◌++◌, length, take, get_or, replicate, Option, Some, None, refl, sym, ap, ◌∙◌, ap₂, subst, append_assoc, append-nil, length-append, inl, inr, arith}
use Rattle.std.specs.Prelude.{slice_get}
use Rattle.std.proofs.Math.Nat.{pow-suc}
use Rattle.std.proofs.Math.Seq.{take-append-add}
use Rattle.std.proofs.lemmas.Bool.{cases_lt}
use Rattle.std.proofs.lemmas.Option.{slice_get_past}
use Rattle.std.proofs.lemmas.List.{get_or_append_left, take-replicate}
use Rattle.lists.proofs.Lemmas.{none≢some, some_same}
use Rattle.persistent_lists.specs.Tables.{IsDifference, IsPosition}
use Rattle.persistent_lists.specs.Trees.{items, pair_at, IsTree, IsNode, Extends}

-- ---- two lists, one behind the other

pub get_left : (xs ys : List ℕ) (i : ℕ) → i < length xs → slice_get (xs ++ ys) i ≡ slice_get xs i
get_left [] ys i lt = absurd (omega (arith, lt))
get_left (x ∷ xs) ys zero lt = refl
get_left (x ∷ xs) ys (suc i) lt = get_left xs ys i (omega (arith, lt))

pub get_right : (xs ys : List ℕ) (n i : ℕ) → length xs ≡ n → n ≤ i → slice_get (xs ++ ys) i ≡ slice_get ys (i - n)
get_right [] ys n i e le = let same : i ≡ i - n = omega (arith, e) in ap (slice_get ys) same
get_right (x ∷ xs) ys n zero e le = absurd (omega (arith, e, le))
get_right (x ∷ xs) ys zero (suc i) e le = absurd (omega (arith, e))
get_right (x ∷ xs) ys (suc n) (suc i) e le =
    let same : i - n ≡ suc i - suc n = omega arith in
    get_right xs ys n i (omega (arith, e)) (omega (arith, le)) ∙ ap (slice_get ys) same

-- items with so many times the rest behind them, of which so many are taken
pub take_filled : (xs : List ℕ) (w m r : ℕ) → length xs ≤ w → w ≤ m → take w (xs ++ replicate (m - length xs) r) ≡ xs ++ replicate (w - length xs) r
take_filled xs w m r le within =
    let behind : w ≡ length xs + (w - length xs) = omega (arith, le) in
    let fewer : w - length xs ≤ m - length xs = omega (arith, within) in
    ap (λ (n : ℕ). take n (xs ++ replicate (m - length xs) r)) behind
    ∙ (take-append-add xs (replicate (m - length xs) r) (w - length xs) ∙ ap (λ l. xs ++ l) (take-replicate (w - length xs) (m - length xs) r fewer))

-- ---- powers of two

twice : (x : ℕ) → x * 2 ≡ x + x
twice x = omega arith

doubled : (h : ℕ) → 2 ^ suc h ≡ 2 ^ h + 2 ^ h
doubled h = pow-suc 2 h ∙ twice (2 ^ h)

pub split_size : (h : ℕ) → 0 < h → 2 ^ h ≡ 2 ^ (h - 1) + 2 ^ (h - 1)
split_size zero lt = absurd (omega (arith, lt))
split_size (suc h) lt = let same : h ≡ suc h - 1 = omega arith in doubled h ∙ ap (λ (j : ℕ). 2 ^ j + 2 ^ j) same

pub size_zero : (h : ℕ) → h ≡ 0 → 2 ^ h ≡ 1
size_zero h e = ap (λ (j : ℕ). 2 ^ j) e

-- ---- items

pub length-items : (ps : List (ℕ × ℕ)) (h n : ℕ) → length (items ps h n) ≡ 2 ^ h
unfolding items
length-items ps zero n = refl
length-items ps (suc h) n =
    length-append (items ps h (pair_at ps n).0) (items ps h (pair_at ps n).1)
    ∙ (ap₂ (λ (a b : ℕ). a + b) (length-items ps h (pair_at ps n).0) (length-items ps h (pair_at ps n).1) ∙ sym (doubled h))

pub leaf : (ps : List (ℕ × ℕ)) (h n : ℕ) → h ≡ 0 → items ps h n ≡ n ∷ []
unfolding items
leaf ps zero n e = refl
leaf ps (suc h) n e = absurd (omega (arith, e))

halves_at : (ps : List (ℕ × ℕ)) (h n : ℕ) → 0 < h → items ps h n ≡ items ps (h - 1) (pair_at ps n).0 ++ items ps (h - 1) (pair_at ps n).1
unfolding items
halves_at ps zero n lt = absurd (omega (arith, lt))
halves_at ps (suc h) n lt = let same : h ≡ suc h - 1 = omega arith in ap (λ (j : ℕ). items ps j (pair_at ps n).0 ++ items ps j (pair_at ps n).1) same

pub halves : (ps : List (ℕ × ℕ)) (h n : ℕ) (p : ℕ × ℕ) → p ≡ pair_at ps n → 0 < h → items ps h n ≡ items ps (h - 1) p.0 ++ items ps (h - 1) p.1
halves ps h n p e lt = halves_at ps h n lt ∙ ap (λ (q : ℕ × ℕ). items ps (h - 1) q.0 ++ items ps (h - 1) q.1) (sym e)

pub at_left : (ps : List (ℕ × ℕ)) (h n i x : ℕ) (p : ℕ × ℕ) → p ≡ pair_at ps n → 0 < h → i < 2 ^ (h - 1) → slice_get (items ps (h - 1) p.0) i ≡ Some x → slice_get (items ps h n) i ≡ Some x
at_left ps h n i x p e lt within is =
    ap (λ l. slice_get l i) (halves ps h n p e lt)
    ∙ (get_left (items ps (h - 1) p.0) (items ps (h - 1) p.1) i (omega (arith, within, length-items ps (h - 1) p.0)) ∙ is)

pub at_right : (ps : List (ℕ × ℕ)) (h n i x : ℕ) (p : ℕ × ℕ) → p ≡ pair_at ps n → 0 < h → 2 ^ (h - 1) ≤ i → slice_get (items ps (h - 1) p.1) (i - 2 ^ (h - 1)) ≡ Some x → slice_get (items ps h n) i ≡ Some x
at_right ps h n i x p e lt past is =
    ap (λ l. slice_get l i) (halves ps h n p e lt)
    ∙ (get_right (items ps (h - 1) p.0) (items ps (h - 1) p.1) (2 ^ (h - 1)) i (length-items ps (h - 1) p.0) past ∙ is)

-- ---- trees

pub node_kept : (old new : List (ℕ × ℕ)) (n : ℕ) → Extends old new → n < length old → pair_at new n ≡ pair_at old n
node_kept old new n more lt = ap (λ l. get_or l n (0, 0)) more.1 ∙ get_or_append_left old more.0 (0, 0) n lt

pub longer : (old new : List (ℕ × ℕ)) → Extends old new → length old ≤ length new
longer old new more = let e = ap length more.1 in omega (arith, e, length-append old more.0)

pub extended : (a b c : List (ℕ × ℕ)) → Extends a b → Extends b c → Extends a c
extended a b c m n = (m.0 ++ n.0, n.1 ∙ (ap (λ l. l ++ n.0) m.1 ∙ append_assoc a m.0 n.0))

pub same_table : (a : List (ℕ × ℕ)) → Extends a a
same_table a = ([], sym (append-nil a))

pub items_kept : (old new : List (ℕ × ℕ)) (h n : ℕ) → Extends old new → IsTree old h n → items new h n ≡ items old h n
unfolding items IsTree
items_kept old new zero n more t = refl
items_kept old new (suc h) n more t =
    ap (λ (q : ℕ × ℕ). items new h q.0 ++ items new h q.1) (node_kept old new n more t.0)
    ∙ ap₂ (λ a b. a ++ b) (items_kept old new h (pair_at old n).0 more t.1) (items_kept old new h (pair_at old n).1 more t.2)

pub tree_kept : (old new : List (ℕ × ℕ)) (h n : ℕ) → Extends old new → IsTree old h n → IsTree new h n
unfolding IsTree
tree_kept old new zero n more t = tt
tree_kept old new (suc h) n more t =
    let same = node_kept old new n more t.0 in (
      omega (arith, t.0, longer old new more),
      subst (λ (q : ℕ × ℕ). IsTree new h q.0) (sym same) (tree_kept old new h (pair_at old n).0 more t.1),
      subst (λ (q : ℕ × ℕ). IsTree new h q.1) (sym same) (tree_kept old new h (pair_at old n).1 more t.2),
    )

pub leaf_tree : (ps : List (ℕ × ℕ)) (h n : ℕ) → h ≡ 0 → IsTree ps h n
unfolding IsTree
leaf_tree ps zero n e = tt
leaf_tree ps (suc h) n e = absurd (omega (arith, e))

tree_of_halves : (ps : List (ℕ × ℕ)) (h n : ℕ) → 0 < h → n < length ps → IsTree ps (h - 1) (pair_at ps n).0 → IsTree ps (h - 1) (pair_at ps n).1 → IsTree ps h n
unfolding IsTree
tree_of_halves ps zero n lt within l r = absurd (omega (arith, lt))
tree_of_halves ps (suc h) n lt within l r =
    let same : suc h - 1 ≡ h = omega arith in
    (within, subst (λ (j : ℕ). IsTree ps j (pair_at ps n).0) same l, subst (λ (j : ℕ). IsTree ps j (pair_at ps n).1) same r)

pub tree_joined : (ps : List (ℕ × ℕ)) (h n : ℕ) (p : ℕ × ℕ) → 0 < h → IsNode ps p n → IsTree ps (h - 1) p.0 → IsTree ps (h - 1) p.1 → IsTree ps h n
tree_joined ps h n p lt node l r =
    tree_of_halves ps h n lt node.0
    (subst (λ (q : ℕ × ℕ). IsTree ps (h - 1) q.0) (sym node.1) l)
    (subst (λ (q : ℕ × ℕ). IsTree ps (h - 1) q.1) (sym node.1) r)

halves_of_tree : (ps : List (ℕ × ℕ)) (h n : ℕ) → 0 < h → IsTree ps h n → IsTree ps (h - 1) (pair_at ps n).0 × IsTree ps (h - 1) (pair_at ps n).1
unfolding IsTree
halves_of_tree ps zero n lt t = absurd (omega (arith, lt))
halves_of_tree ps (suc h) n lt t =
    let same : h ≡ suc h - 1 = omega arith in
    (subst (λ (j : ℕ). IsTree ps j (pair_at ps n).0) same t.1, subst (λ (j : ℕ). IsTree ps j (pair_at ps n).1) same t.2)

pub left_tree : (ps : List (ℕ × ℕ)) (h n : ℕ) (p : ℕ × ℕ) → p ≡ pair_at ps n → 0 < h → IsTree ps h n → IsTree ps (h - 1) p.0
left_tree ps h n p e lt t = subst (λ (q : ℕ × ℕ). IsTree ps (h - 1) q.0) (sym e) (halves_of_tree ps h n lt t).0

pub right_tree : (ps : List (ℕ × ℕ)) (h n : ℕ) (p : ℕ × ℕ) → p ≡ pair_at ps n → 0 < h → IsTree ps h n → IsTree ps (h - 1) p.1
right_tree ps h n p e lt t = subst (λ (q : ℕ × ℕ). IsTree ps (h - 1) q.1) (sym e) (halves_of_tree ps h n lt t).1

-- ---- where two lists differ

pub alike_past : (xs ys : List ℕ) (n from : ℕ) → length xs ≡ n → length ys ≡ n → n ≤ from → IsDifference xs ys from None
alike_past xs ys n from e f le = λ i h. slice_get_past xs i (omega (arith, e, le, h)) ∙ sym (slice_get_past ys i (omega (arith, f, le, h)))

pub differs_first : (x y from : ℕ) → from ≡ 0 → (x ≡ y → ⊥) → IsDifference (x ∷ []) (y ∷ []) from (Some 0)
differs_first x y from e other = (omega (arith, e), (λ h. other (some_same x y h)), (λ i le lt. absurd (omega (arith, lt))))

module _ (xs ys us vs : List ℕ) (n : ℕ) (e : length xs ≡ n) (f : length us ≡ n) where
  same_left : (i : ℕ) → i < n → slice_get xs i ≡ slice_get us i → slice_get (xs ++ ys) i ≡ slice_get (us ++ vs) i
  same_left i lt h = get_left xs ys i (omega (arith, e, lt)) ∙ (h ∙ sym (get_left us vs i (omega (arith, f, lt))))

  same_right : (i : ℕ) → n ≤ i → slice_get ys (i - n) ≡ slice_get vs (i - n) → slice_get (xs ++ ys) i ≡ slice_get (us ++ vs) i
  same_right i le h = get_right xs ys n i e le ∙ (h ∙ sym (get_right us vs n i f le))

  other_left : (i : ℕ) → i < n → slice_get (xs ++ ys) i ≡ slice_get (us ++ vs) i → slice_get xs i ≡ slice_get us i
  other_left i lt h = sym (get_left xs ys i (omega (arith, e, lt))) ∙ (h ∙ get_left us vs i (omega (arith, f, lt)))

  other_right : (i : ℕ) → slice_get (xs ++ ys) (i + n) ≡ slice_get (us ++ vs) (i + n) → slice_get ys i ≡ slice_get vs i
  other_right i h =
      let back : i ≡ i + n - n = omega arith in
      ap (slice_get ys) back ∙ (sym (get_right xs ys n (i + n) e (omega arith)) ∙ (h ∙ (get_right us vs n (i + n) f (omega arith) ∙ ap (slice_get vs) (sym back))))

  pub differs_left : (from k : ℕ) → k < n → IsDifference xs us from (Some k) → IsDifference (xs ++ ys) (us ++ vs) from (Some k)
  differs_left from k lt d =
      (d.0, (λ h. d.1 (other_left k lt h)), (λ i le below. same_left i (omega (arith, lt, below)) (d.2 i le below)))

  -- before an index of the right half
  before_right : (from k i : ℕ) → IsDifference xs us from None → ((j : ℕ) → from - n ≤ j → j < k → slice_get ys j ≡ slice_get vs j) → from ≤ i → i < k + n → slice_get (xs ++ ys) i ≡ slice_get (us ++ vs) i
  before_right from k i alike h le below =
      elim (cases_lt i n) [
        | inl lt ↦ same_left i lt (alike i le)
        | inr past ↦ same_right i past (h (i - n) (omega (arith, le)) (omega (arith, below, past)))
      ]

  pub differs_right : (from k : ℕ) → IsDifference xs us from None → IsDifference ys vs (from - n) (Some k) → IsDifference (xs ++ ys) (us ++ vs) from (Some (k + n))
  differs_right from k alike d =
      (omega (arith, d.0), (λ h. d.1 (other_right k h)), (λ i le below. before_right from k i alike d.2 le below))

  pub differs_nowhere : (from : ℕ) → IsDifference xs us from None → IsDifference ys vs (from - n) None → IsDifference (xs ++ ys) (us ++ vs) from None
  differs_nowhere from alike h = λ i le.
      elim (cases_lt i n) [
        | inl lt ↦ same_left i lt (alike i le)
        | inr past ↦ same_right i past (h (i - n) (omega (arith, le)))
      ]

pub difference_between : (us vs xs ys : List ℕ) (from : ℕ) (o : Option ℕ) → us ≡ xs → vs ≡ ys → IsDifference xs ys from o → IsDifference us vs from o
difference_between us vs xs ys from o e f h = subst (λ l. IsDifference l vs from o) (sym e) (subst (λ l. IsDifference xs l from o) (sym f) h)

-- ---- where a list holds an item

module _ (xs ys : List ℕ) (n x : ℕ) (e : length xs ≡ n) where
  pub holds_left : (from k : ℕ) → k < n → IsPosition xs x from (Some k) → IsPosition (xs ++ ys) x from (Some k)
  holds_left from k lt d = (
    d.0,
    get_left xs ys k (omega (arith, e, lt)) ∙ d.1,
    (λ i le below h. d.2 i le below (sym (get_left xs ys i (omega (arith, e, lt, below))) ∙ h)),
  )

  before_held : (from k i : ℕ) → IsPosition xs x from None → ((j : ℕ) → from - n ≤ j → j < k → slice_get ys j ≡ Some x → ⊥) → from ≤ i → i < k + n → slice_get (xs ++ ys) i ≡ Some x → ⊥
  before_held from k i none h le below is =
      elim (cases_lt i n) [
        | inl lt ↦ none i le (sym (get_left xs ys i (omega (arith, e, lt))) ∙ is)
        | inr past ↦ h (i - n) (omega (arith, le)) (omega (arith, below, past)) (sym (get_right xs ys n i e past) ∙ is)
      ]

  pub holds_right : (from k : ℕ) → IsPosition xs x from None → IsPosition ys x (from - n) (Some k) → IsPosition (xs ++ ys) x from (Some (k + n))
  holds_right from k none d =
      let back : k + n - n ≡ k = omega arith in (
        omega (arith, d.0),
        get_right xs ys n (k + n) e (omega arith) ∙ (ap (slice_get ys) back ∙ d.1),
        (λ i le below is. before_held from k i none d.2 le below is),
      )

  pub holds_nowhere : (from : ℕ) → IsPosition xs x from None → IsPosition ys x (from - n) None → IsPosition (xs ++ ys) x from None
  holds_nowhere from none h = λ i le is.
      elim (cases_lt i n) [
        | inl lt ↦ none i le (sym (get_left xs ys i (omega (arith, e, lt))) ∙ is)
        | inr past ↦ h (i - n) (omega (arith, le)) (sym (get_right xs ys n i e past) ∙ is)
      ]

pub none_past : (xs : List ℕ) (x n from : ℕ) → length xs ≡ n → n ≤ from → IsPosition xs x from None
none_past xs x n from e le = λ i h is. none≢some x (sym (slice_get_past xs i (omega (arith, e, le, h))) ∙ is)

pub held_first : (y x from : ℕ) → from ≡ 0 → y ≡ x → IsPosition (y ∷ []) x from (Some 0)
held_first y x from e same = (omega (arith, e), ap Some same, (λ i le lt. absurd (omega (arith, lt))))

pub not_held : (y x from : ℕ) → (y ≡ x → ⊥) → IsPosition (y ∷ []) x from None
not_held y x from other zero le is = other (some_same y x is)
not_held y x from other (suc i) le is = none≢some x is

pub position_between : (us xs : List ℕ) (x from : ℕ) (o : Option ℕ) → us ≡ xs → IsPosition xs x from o → IsPosition us x from o
position_between us xs x from o e h = subst (λ l. IsPosition l x from o) (sym e) h

-- both halves are alike, and the first holds it nowhere
pub nowhere_twice : (xs ys : List ℕ) (x from n : ℕ) → xs ≡ ys → from ≡ 0 → IsPosition xs x from None → IsPosition ys x (from - n) None
nowhere_twice xs ys x from n e f none = λ i le is. none i (omega (arith, f)) (ap (λ l. slice_get l i) e ∙ is)
