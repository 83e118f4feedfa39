-- One set more is looked at in an order.
use Rattle.std.proofs.Common.{◌≡◌, ℕ, zero, suc, ◌+◌, ◌<◌, ◌≤◌, ◌⊎◌, min, List, length, get_or, Contains, Option, Some, None, refl, sym, ap, ◌∙◌, subst, inl, inr, arith}
use Rattle.std.proofs.lemmas.Bool.{cases_lt, false≢true}
use Rattle.std.specs.Prelude.{is_some, true, false}
use Rattle.lists.specs.Members.{has_or_not}
use Rattle.section_index.specs.Family.{set_at}
use Rattle.section_index.specs.Crossing.{IsLeast}
use Rattle.section_index.specs.Classes.{class_of, AreTogether, AreApart, HasAlike, IsSplitBy}
use Rattle.section_index.specs.Splitting.{Splits, IsSplitBelow, IsSplit, SplitsLater, AreClasses, lesser_of}

pub least_more : (P Q : ℕ → Type 0) (o : Option ℕ) (i : ℕ) → ((u : ℕ) → P u → Q u) → Q i → ((u : ℕ) → Q u → P u ⊎ (i ≡ u)) → IsLeast P o → IsLeast Q (Some (lesser_of o i))
least_more P Q None i from here cases h = (here, λ u less q. elim (cases u q) [ inl p ↦ h u p | inr same ↦ absurd (omega arith) ])
least_more P Q (Some m) i from here cases h = (
  elim (cases_lt m i) [
    | inl less ↦ let e : m ≡ min m i = omega arith in subst Q e (from m h.0)
    | inr ge ↦ let e : i ≡ min m i = omega arith in subst Q e here
  ],
  λ u less q. elim (cases u q) [ inl p ↦ h.1 u (omega arith) p | inr same ↦ absurd (omega arith) ],
)

pub least_same : (P Q : ℕ → Type 0) (o : Option ℕ) → ((u : ℕ) → P u → Q u) → ((u : ℕ) → Q u → P u) → IsLeast P o → IsLeast Q o
least_same P Q None to from h = λ u q. h u (from u q)
least_same P Q (Some n) to from h = (to n h.0, λ u less q. h.1 u less (from u q))

module _ (ss : List (List ℕ)) (order : List ℕ) (last size : ℕ) where
  -- either each of the first p sets has both numbers or neither, or one has one alone
  alike_or_not : (x y p : ℕ) → ((q : ℕ) → q < p → get_or order q 0 ≤ last → HasAlike (set_at ss (get_or order q 0)) x y)
      ⊎ ((q : ℕ) × (q < p) × (get_or order q 0 ≤ last) × ((Contains (set_at ss (get_or order q 0)) x × (Contains (set_at ss (get_or order q 0)) y → ⊥)) ⊎ (Contains (set_at ss (get_or order q 0)) y × (Contains (set_at ss (get_or order q 0)) x → ⊥))))
  alike_or_not x y zero = inl (λ q lt low. absurd (omega arith))
  alike_or_not x y (suc p) =
      let s = set_at ss (get_or order p 0) in
      let Here : Type 0 = HasAlike s x y in
      elim (alike_or_not x y p) [
        | inr r ↦ let lt = r.1 in inr (r.0, omega arith, r.2, r.3)
        | inl before ↦
            let more : (get_or order p 0 ≤ last → Here) → (q : ℕ) → q < suc p → get_or order q 0 ≤ last → HasAlike (set_at ss (get_or order q 0)) x y = λ here q lt low.
            elim (cases_lt q p) [
              | inl less ↦ before q less low
              | inr ge ↦
                  let e : p ≡ q = omega arith in
                  let P : ℕ → Type 0 = λ k. get_or order k 0 ≤ last → HasAlike (set_at ss (get_or order k 0)) x y in
                  subst P e here low
            ]
            in
            elim (cases_lt last (get_or order p 0)) [
              | inl high ↦ inl (more (λ low. absurd (omega arith)))
              | inr low ↦
                  elim (has_or_not s x) [
                    | inl in_x ↦ elim (has_or_not s y) [ inl in_y ↦ inl (more (λ l. (λ c. in_y, λ c. in_x))) | inr out_y ↦ inr (p, omega arith, low, inl (in_x, out_y)) ]
                    | inr out_x ↦ elim (has_or_not s y) [ inl in_y ↦ inr (p, omega arith, low, inr (in_y, out_x)) | inr out_y ↦ inl (more (λ l. (λ c. absurd (out_x c), λ c. absurd (out_y c)))) ]
                  ]
            ]
      ]

  pub classes_none : (cs : List ℕ) → length cs ≡ size → ((x : ℕ) → class_of cs x ≡ 0) → AreClasses ss order last 0 size cs
  classes_none cs long one = record { long = long; alike = λ x y q bx by same lt. absurd (omega arith); together = λ x y bx by h. one x ∙ sym (one y) }

  -- a set whose number is past the last splits nothing
  pub classes_kept : (cs : List ℕ) (p : ℕ) → last < get_or order p 0 → AreClasses ss order last p size cs → AreClasses ss order last (p + 1) size cs
  classes_kept cs p high h = record {
    long = h.long;
    alike = λ x y q bx by same lt low.
        elim (cases_lt q p) [
          | inl less ↦ h.alike x y q bx by same less low
          | inr ge ↦ let e : q ≡ p = omega arith in let same_at = ap (λ k. get_or order k 0) e in absurd (omega arith)
        ];
    together = λ x y bx by all. h.together x y bx by (λ q lt low. all q (omega arith) low);
  }

  pub classes_split : (cs ds xs : List ℕ) (p : ℕ) → get_or order p 0 ≤ last → xs ≡ set_at ss (get_or order p 0) → IsSplitBy xs cs ds → AreClasses ss order last p size cs → AreClasses ss order last (p + 1) size ds
  classes_split cs ds xs p low is s h =
      let long = h.long in
      let P : List ℕ → ℕ → ℕ → Type 0 = λ zs x y. HasAlike zs x y in
      record {
        long = s.long ∙ h.long;
        alike = λ x y q bx by same lt upto.
            elim (cases_lt q p) [
              | inl less ↦ h.alike x y q bx by (s.before x y (omega arith) (omega arith) same) less upto
              | inr ge ↦
                  let e : p ≡ q = omega arith in
                  let R : ℕ → Type 0 = λ k. HasAlike (set_at ss (get_or order k 0)) x y in
                  let Q : List ℕ → Type 0 = λ zs. HasAlike zs x y in
                  subst R e (subst Q is (s.alike x y (omega arith) (omega arith) same))
            ];
        together = λ x y bx by all.
            let Q : List ℕ → Type 0 = λ zs. HasAlike zs x y in
            s.after x y (omega arith) (omega arith) (h.together x y bx by (λ q lt upto. all q (omega arith) upto)) (subst Q (sym is) (all p (omega arith) low));
      }

  below_more : (p u : ℕ) → IsSplitBelow ss order last p u → IsSplitBelow ss order last (p + 1) u
  below_more p u h = let lt = h.below in record { first = h.first; second = h.second; before = h.before; below = omega arith; at = h.at; low = h.low; splits = h.splits }

  -- where all numbers of the set at p are together, nothing before it splits it
  pub split_none : (cs xs : List ℕ) (p : ℕ) (o : Option ℕ) → xs ≡ set_at ss (get_or order p 0) → ((x : ℕ) → Contains xs x → x < size) → AreTogether cs xs → AreClasses ss order last p size cs → IsLeast (IsSplitBelow ss order last p) o → IsLeast (IsSplitBelow ss order last (p + 1)) o
  split_none cs xs p o is inside together h least =
      least_same (IsSplitBelow ss order last p) (IsSplitBelow ss order last (p + 1)) o (below_more p)
      (λ u s.
      elim (cases_lt s.second p) [
        | inl less ↦ record { first = s.first; second = s.second; before = s.before; below = less; at = s.at; low = s.low; splits = s.splits }
        | inr ge ↦
            let lt = s.below in
            let early = s.before in
            let e : s.second ≡ p = omega arith in
            let here : u ≡ get_or order p 0 = sym s.at ∙ ap (λ k. get_or order k 0) e in
            let P : ℕ → Type 0 = λ k. Contains (set_at ss k) s.splits.shared in
            let Q : ℕ → Type 0 = λ k. Contains (set_at ss k) s.splits.lacked in
            let R : List ℕ → Type 0 = λ zs. Contains zs s.splits.shared in
            let S : List ℕ → Type 0 = λ zs. Contains zs s.splits.lacked in
            let a : Contains xs s.splits.shared = subst R (sym is) (subst P here s.splits.in_both.0) in
            let b : Contains xs s.splits.lacked = subst S (sym is) (subst Q here s.splits.in_one.0) in
            let alike = h.alike s.splits.shared s.splits.lacked s.first (inside s.splits.shared a) (inside s.splits.lacked b) (together s.splits.shared s.splits.lacked a b) (omega arith) s.low in
            absurd (s.splits.in_one.1 (alike.0 s.splits.in_both.1))
      ]) least

  -- where they aren't, one before it does
  pub split_one : (cs xs : List ℕ) (p : ℕ) (o : Option ℕ) → xs ≡ set_at ss (get_or order p 0) → ((x : ℕ) → Contains xs x → x < size) → AreApart cs xs → AreClasses ss order last p size cs → IsLeast (IsSplitBelow ss order last p) o
      → IsLeast (IsSplitBelow ss order last (p + 1)) (Some (lesser_of o (get_or order p 0)))
  split_one cs xs p o is inside a h least =
      let R : List ℕ → ℕ → Type 0 = λ zs x. Contains zs x in
      let S1 : List ℕ → Type 0 = λ zs. Contains zs a.one in
      let S2 : List ℕ → Type 0 = λ zs. Contains zs a.other in
      let one = subst S1 is a.has_one in
      let other = subst S2 is a.has_other in
      let here : IsSplitBelow ss order last (p + 1) (get_or order p 0) =
      elim (alike_or_not a.one a.other p) [
        | inl all ↦ absurd (a.apart (h.together a.one a.other (inside a.one a.has_one) (inside a.other a.has_other) all))
        | inr r ↦
            record {
              first = r.0;
              second = p;
              before = r.1;
              below = omega arith;
              at = refl;
              low = r.2;
              splits =
                  elim (r.3) [
                    | inl x ↦ record { shared = a.one; lacked = a.other; in_both = (one, x.0); in_one = (other, x.1) }
                    | inr x ↦ record { shared = a.other; lacked = a.one; in_both = (other, x.0); in_one = (one, x.1) }
                  ];
            }
      ]
      in
      least_more (IsSplitBelow ss order last p) (IsSplitBelow ss order last (p + 1)) o (get_or order p 0) (below_more p) here
      (λ u s.
      elim (cases_lt s.second p) [
        | inl less ↦ inl (record { first = s.first; second = s.second; before = s.before; below = less; at = s.at; low = s.low; splits = s.splits })
        | inr ge ↦
            let lt = s.below in
            let e : p ≡ s.second = omega arith in
            inr (ap (λ k. get_or order k 0) e ∙ s.at)
      ]) least

  pub split_start : IsLeast (IsSplitBelow ss order last 0) None
  split_start = λ u s. let lt = s.below in omega arith

-- the least set that splits a later one, by halves
module _ (ss : List (List ℕ)) (order : List ℕ) where
  pub some_splits : (middle n : ℕ) → IsLeast (IsSplit ss order middle) (Some n) → (k : ℕ) × (k ≤ middle) × SplitsLater ss order k
  some_splits middle n h =
      let s = h.0 in
      (get_or order s.first 0, s.low, record { first = s.first; second = s.second; before = s.before; below = s.below; at = refl; splits = (let P : ℕ → Type 0 = λ k. Splits ss (get_or order s.first 0) k in subst P (sym s.at) s.splits) })

  pub none_splits : (middle : ℕ) → IsLeast (IsSplit ss order middle) None → (k : ℕ) → k ≤ middle → SplitsLater ss order k → ⊥
  none_splits middle h k low s =
      h (get_or order s.second 0) (record {
        first = s.first;
        second = s.second;
        before = s.before;
        below = s.below;
        at = refl;
        low = (let e = s.at in omega arith);
        splits = (let P : ℕ → Type 0 = λ z. Splits ss z (get_or order s.second 0) in subst P (sym s.at) s.splits);
      })

  pub some_found : (middle : ℕ) (o : Option ℕ) → is_some o ≡ true → IsLeast (IsSplit ss order middle) o → (k : ℕ) × (k ≤ middle) × SplitsLater ss order k
  some_found middle None is h = absurd (false≢true is)
  some_found middle (Some n) is h = some_splits middle n h

  pub none_found : (middle : ℕ) (o : Option ℕ) → is_some o ≡ false → IsLeast (IsSplit ss order middle) o → (k : ℕ) → k ≤ middle → SplitsLater ss order k → ⊥
  none_found middle None is h = none_splits middle h
  none_found middle (Some n) is h = absurd (false≢true (sym is))
