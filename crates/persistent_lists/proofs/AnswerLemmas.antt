-- What a test answers where trees differ, from their halves.
use Rattle.std.proofs.Common.{◌≡◌, ℕ, zero, suc, ◌+◌, ◌-◌, ◌<◌, ◌≤◌, ◌^◌, ◌⊎◌, Bool, true, false, List, [], ◌∷◌, ◌++◌, length, take, Some, inl, inr, refl, sym, ap, ap₂, ◌∙◌, subst, arith}
use Rattle.std.specs.Prelude.{slice_get}
use Rattle.std.proofs.lemmas.Bool.{cases_lt}
use Rattle.std.proofs.lemmas.Option.{slice_get_within}
use Rattle.lists.proofs.Lemmas.{none≢some, some_same}
use Rattle.persistent_lists.specs.Answers.{difference, AreAnswered, Passing, ArePassed}
use Rattle.persistent_lists.specs.Trees.{items, pair_at}
use Rattle.persistent_lists.specs.declared.trees.Difference.{Difference}
use Rattle.persistent_lists.proofs.TreeLemmas.{get_left, get_right, length-items, leaf, halves}
use Rattle.persistent_lists.proofs.TableLemmas.{get_taken, get_beyond}

module _ (answers : Difference → Bool → Type 0) where
  at_index : (a b : ℕ) → answers (difference a b) true → (i x y : ℕ) → slice_get (a ∷ []) i ≡ Some x → slice_get (b ∷ []) i ≡ Some y → answers (difference x y) true
  at_index a b h zero x y gx gy = subst (λ d. answers d true) (ap₂ (λ (m n : ℕ). difference m n) (some_same a x gx) (some_same b y gy)) h
  at_index a b h (suc i) x y gx gy = absurd (none≢some x gx)

  one_item : (width a b : ℕ) (r : Bool) → 0 < width → answers (difference a b) r → AreAnswered answers width (a ∷ []) (b ∷ []) r
  one_item width a b true lt h = λ i x y under gx gy. inr (at_index a b h i x y gx gy)
  one_item width a b false lt h = (0, a, b, lt, refl, refl, h)

  between : (width : ℕ) (us vs xs ys : List ℕ) (r : Bool) → us ≡ xs → vs ≡ ys → AreAnswered answers width xs ys r → AreAnswered answers width us vs r
  between width us vs xs ys r e f h = subst (λ l. AreAnswered answers width l vs r) (sym e) (subst (λ l. AreAnswered answers width xs l r) (sym f) h)

  pub leaf_answered : (ps : List (ℕ × ℕ)) (h width a b : ℕ) (r : Bool) → h ≡ 0 → 0 < width → answers (difference a b) r → AreAnswered answers width (items ps h a) (items ps h b) r
  leaf_answered ps h width a b r zero_high lt is = between width (items ps h a) (items ps h b) (a ∷ []) (b ∷ []) r (leaf ps h a zero_high) (leaf ps h b zero_high) (one_item width a b r lt is)

  module _ (width n : ℕ) (xs ys us vs : List ℕ) (e : length xs ≡ n) (f : length us ≡ n) where
    first_lost : AreAnswered answers width xs us false → AreAnswered answers width (xs ++ ys) (us ++ vs) false
    first_lost h =
        (h.0, h.1, h.2, h.3, get_left xs ys h.0 (slice_get_within xs h.0 h.1 h.4) ∙ h.4, get_left us vs h.0 (slice_get_within us h.0 h.2 h.5) ∙ h.5, h.6)

    both_answered : (r : Bool) → AreAnswered answers width xs us true → AreAnswered answers (width - n) ys vs r → AreAnswered answers width (xs ++ ys) (us ++ vs) r
    both_answered true first second = λ i x y under gx gy. elim (cases_lt i n) [
      | inl lt ↦ first i x y under (sym (get_left xs ys i (omega (arith, lt, e))) ∙ gx) (sym (get_left us vs i (omega (arith, lt, f))) ∙ gy)
      | inr le ↦ second (i - n) x y (omega (arith, under, le)) (sym (get_right xs ys n i e le) ∙ gx) (sym (get_right us vs n i f le) ∙ gy)
    ]
    both_answered false first second =
        let k = second.0 in
        let back : n + k - n ≡ k = omega arith in
        let under : k < width - n = second.3 in (
          n + k,
          second.1,
          second.2,
          omega (arith, under),
          get_right xs ys n (n + k) e (omega arith) ∙ (ap (slice_get ys) back ∙ second.4),
          get_right us vs n (n + k) f (omega arith) ∙ (ap (slice_get vs) back ∙ second.5),
          second.6,
        )

  -- both second halves are alike the first
  twice_answered : (width n : ℕ) (xs us : List ℕ) → AreAnswered answers width xs us true → AreAnswered answers (width - n) xs us true
  twice_answered width n xs us h = λ i x y under gx gy. h i x y (omega (arith, under)) gx gy

  module _ (ps : List (ℕ × ℕ)) (h a b width : ℕ) (p q : ℕ × ℕ) (e : p ≡ pair_at ps a) (f : q ≡ pair_at ps b) (high : 0 < h) where
    pub left_lost : AreAnswered answers width (items ps (h - 1) p.0) (items ps (h - 1) q.0) false → AreAnswered answers width (items ps h a) (items ps h b) false
    left_lost d =
        between width (items ps h a) (items ps h b) _ _ false (halves ps h a p e high) (halves ps h b q f high)
        (first_lost width (2 ^ (h - 1)) (items ps (h - 1) p.0) (items ps (h - 1) p.1) (items ps (h - 1) q.0) (items ps (h - 1) q.1) (length-items ps (h - 1) p.0) (length-items ps (h - 1) q.0) d)

    pub halves_answered : (half behind : ℕ) (r : Bool) → half ≡ 2 ^ (h - 1) → behind ≡ width - half → AreAnswered answers width (items ps (h - 1) p.0) (items ps (h - 1) q.0) true
        → AreAnswered answers behind (items ps (h - 1) p.1) (items ps (h - 1) q.1) r → AreAnswered answers width (items ps h a) (items ps h b) r
    halves_answered half behind r size is first second =
        between width (items ps h a) (items ps h b) _ _ r (halves ps h a p e high) (halves ps h b q f high)
        (both_answered width half (items ps (h - 1) p.0) (items ps (h - 1) p.1) (items ps (h - 1) q.0) (items ps (h - 1) q.1) (length-items ps (h - 1) p.0 ∙ sym size) (length-items ps (h - 1) q.0 ∙ sym size) r first
        (subst (λ (n : ℕ). AreAnswered answers n (items ps (h - 1) p.1) (items ps (h - 1) q.1) r) is second))

    pub same_answered : p.0 ≡ p.1 → q.0 ≡ q.1 → AreAnswered answers width (items ps (h - 1) p.0) (items ps (h - 1) q.0) true → AreAnswered answers width (items ps h a) (items ps h b) true
    same_answered same others first =
        halves_answered (2 ^ (h - 1)) (width - 2 ^ (h - 1)) true refl refl first
        (between (width - 2 ^ (h - 1)) _ _ (items ps (h - 1) p.0) (items ps (h - 1) q.0) true (ap (items ps (h - 1)) (sym same)) (ap (items ps (h - 1)) (sym others))
        (twice_answered width (2 ^ (h - 1)) (items ps (h - 1) p.0) (items ps (h - 1) q.0) first))

  -- ---- the lists that trees are

  got : (xs : List ℕ) (i : ℕ) → i < length xs → (x : ℕ) × (slice_get xs i ≡ Some x)
  got [] i lt = absurd (omega (arith, lt))
  got (x ∷ xs) zero lt = (x, refl)
  got (x ∷ xs) (suc i) lt = got xs i (omega (arith, lt))

  one_taken : (w : ℕ) (xs ys : List ℕ) (i x y : ℕ) → i < w → slice_get xs i ≡ Some x → slice_get ys i ≡ Some y → (x ≡ y) ⊎ answers (difference x y) true
      → (slice_get (take w xs) i ≡ slice_get (take w ys) i) ⊎ ((x : ℕ) × (y : ℕ) × (slice_get (take w xs) i ≡ Some x) × (slice_get (take w ys) i ≡ Some y) × answers (difference x y) true)
  one_taken w xs ys i x y lt gx gy (inl same) = inl (get_taken w xs i lt ∙ (gx ∙ (ap Some same ∙ (sym gy ∙ sym (get_taken w ys i lt)))))
  one_taken w xs ys i x y lt gx gy (inr is) = inr (x, y, get_taken w xs i lt ∙ gx, get_taken w ys i lt ∙ gy, is)

  taken_passed : (w : ℕ) (xs ys : List ℕ) (r : Bool) → w ≤ length xs → w ≤ length ys → AreAnswered answers w xs ys r → Passing answers (take w xs) (take w ys) r
  taken_passed w xs ys true room more h = λ i. elim (cases_lt i w) [
    | inl lt ↦
        let x = got xs i (omega (arith, lt, room)) in
        let y = got ys i (omega (arith, lt, more)) in
        one_taken w xs ys i x.0 y.0 lt x.1 y.1 (h i x.0 y.0 lt x.1 y.1)
    | inr le ↦ inl (get_beyond w xs i le ∙ sym (get_beyond w ys i le))
  ]
  taken_passed w xs ys false room more h = (h.0, h.1, h.2, get_taken w xs h.0 h.3 ∙ h.4, get_taken w ys h.0 h.3 ∙ h.5, h.6)

  pub lists_passed : (xs ys : List ℕ) (w h : ℕ) (ps : List (ℕ × ℕ)) (a b : ℕ) (r : Bool) → w ≤ 2 ^ h → xs ≡ take w (items ps h a) → ys ≡ take w (items ps h b) → AreAnswered answers w (items ps h a) (items ps h b) r
      → ArePassed answers xs ys r
  lists_passed xs ys w h ps a b r high e f d =
      let passing = taken_passed w (items ps h a) (items ps h b) r (omega (arith, high, length-items ps h a)) (omega (arith, high, length-items ps h b)) d in
      record { found = subst (λ l. Passing answers l ys r) (sym e) (subst (λ l. Passing answers (take w (items ps h a)) l r) (sym f) passing) }
