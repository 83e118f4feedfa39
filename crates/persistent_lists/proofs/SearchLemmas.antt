-- Where trees differ, and where they hold an item, from their halves.
use Rattle.std.proofs.Common.{◌≡◌, ℕ, ◌+◌, ◌-◌, ◌<◌, ◌≤◌, ◌^◌, List, [], ◌∷◌, ◌++◌, Option, Some, None, sym, ap, ◌∙◌, subst, arith}
use Rattle.persistent_lists.specs.Tables.{IsDifference, IsPosition}
use Rattle.persistent_lists.specs.Trees.{items, pair_at}
use Rattle.persistent_lists.proofs.TreeLemmas.{split_size, size_zero, length-items, leaf, halves, alike_past, differs_first, differs_left, differs_right, differs_nowhere, difference_between, holds_left, holds_right, holds_nowhere, none_past, held_first, not_held, position_between, nowhere_twice}

-- ---- differences

pub difference_past : (ps : List (ℕ × ℕ)) (h a b from : ℕ) → 2 ^ h ≤ from → IsDifference (items ps h a) (items ps h b) from None
difference_past ps h a b from past = alike_past (items ps h a) (items ps h b) (2 ^ h) from (length-items ps h a) (length-items ps h b) past

pub leaf_difference : (ps : List (ℕ × ℕ)) (h a b from : ℕ) → h ≡ 0 → from < 2 ^ h → (a ≡ b → ⊥) → IsDifference (items ps h a) (items ps h b) from (Some 0)
leaf_difference ps h a b from zero_high within other =
    difference_between (items ps h a) (items ps h b) (a ∷ []) (b ∷ []) from (Some 0) (leaf ps h a zero_high) (leaf ps h b zero_high)
    (differs_first a b from (omega (arith, within, size_zero h zero_high)) other)

module _ (ps : List (ℕ × ℕ)) (h a b : ℕ) (p q : ℕ × ℕ) (e : p ≡ pair_at ps a) (f : q ≡ pair_at ps b) (high : 0 < h) where
  whole : (from : ℕ) (o : Option ℕ) → IsDifference (items ps (h - 1) p.0 ++ items ps (h - 1) p.1) (items ps (h - 1) q.0 ++ items ps (h - 1) q.1) from o → IsDifference (items ps h a) (items ps h b) from o
  whole from o d = difference_between (items ps h a) (items ps h b) _ _ from o (halves ps h a p e high) (halves ps h b q f high) d

  pub left_difference : (from k : ℕ) → k < 2 ^ (h - 1) → IsDifference (items ps (h - 1) p.0) (items ps (h - 1) q.0) from (Some k) → IsDifference (items ps h a) (items ps h b) from (Some k)
  left_difference from k within d =
      whole from (Some k) (differs_left (items ps (h - 1) p.0) (items ps (h - 1) p.1) (items ps (h - 1) q.0) (items ps (h - 1) q.1) (2 ^ (h - 1)) (length-items ps (h - 1) p.0) (length-items ps (h - 1) q.0) from k within d)

  pub right_difference : (from k half behind : ℕ) → half ≡ 2 ^ (h - 1) → behind ≡ from - half → IsDifference (items ps (h - 1) p.0) (items ps (h - 1) q.0) from None
      → IsDifference (items ps (h - 1) p.1) (items ps (h - 1) q.1) behind (Some k) → IsDifference (items ps h a) (items ps h b) from (Some (k + half))
  right_difference from k half behind size is alike d =
      let moved : IsDifference (items ps (h - 1) p.1) (items ps (h - 1) q.1) (from - half) (Some k) = subst (λ (n : ℕ). IsDifference (items ps (h - 1) p.1) (items ps (h - 1) q.1) n (Some k)) is d in
      whole from (Some (k + half))
      (differs_right (items ps (h - 1) p.0) (items ps (h - 1) p.1) (items ps (h - 1) q.0) (items ps (h - 1) q.1) half (length-items ps (h - 1) p.0 ∙ sym size) (length-items ps (h - 1) q.0 ∙ sym size) from k alike moved)

  pub no_difference : (from half behind : ℕ) → half ≡ 2 ^ (h - 1) → behind ≡ from - half → IsDifference (items ps (h - 1) p.0) (items ps (h - 1) q.0) from None
      → IsDifference (items ps (h - 1) p.1) (items ps (h - 1) q.1) behind None → IsDifference (items ps h a) (items ps h b) from None
  no_difference from half behind size is alike d =
      let moved : IsDifference (items ps (h - 1) p.1) (items ps (h - 1) q.1) (from - half) None = subst (λ (n : ℕ). IsDifference (items ps (h - 1) p.1) (items ps (h - 1) q.1) n None) is d in
      whole from None
      (differs_nowhere (items ps (h - 1) p.0) (items ps (h - 1) p.1) (items ps (h - 1) q.0) (items ps (h - 1) q.1) half (length-items ps (h - 1) p.0 ∙ sym size) (length-items ps (h - 1) q.0 ∙ sym size) from alike moved)

-- ---- indices of halves

pub index_left : (h k : ℕ) → 0 < h → k < 2 ^ (h - 1) → k < 2 ^ h
index_left h k high within = omega (arith, within, split_size h high)

pub index_right : (h k half : ℕ) → 0 < h → half ≡ 2 ^ (h - 1) → k < 2 ^ (h - 1) → k + half < 2 ^ h
index_right h k half high size within = omega (arith, within, size, split_size h high)

pub index_behind : (h i half : ℕ) → 0 < h → half ≡ 2 ^ (h - 1) → half ≤ i → i < 2 ^ h → i - half < 2 ^ (h - 1)
index_behind h i half high size past within = omega (arith, within, size, past, split_size h high)

-- ---- positions

pub position_past : (ps : List (ℕ × ℕ)) (h n x from : ℕ) → 2 ^ h ≤ from → IsPosition (items ps h n) x from None
position_past ps h n x from past = none_past (items ps h n) x (2 ^ h) from (length-items ps h n) past

pub leaf_position : (ps : List (ℕ × ℕ)) (h n x from : ℕ) → h ≡ 0 → from < 2 ^ h → n ≡ x → IsPosition (items ps h n) x from (Some 0)
leaf_position ps h n x from zero_high within same =
    position_between (items ps h n) (n ∷ []) x from (Some 0) (leaf ps h n zero_high) (held_first n x from (omega (arith, within, size_zero h zero_high)) same)

pub no_leaf_position : (ps : List (ℕ × ℕ)) (h n x from : ℕ) → h ≡ 0 → (n ≡ x → ⊥) → IsPosition (items ps h n) x from None
no_leaf_position ps h n x from zero_high other = position_between (items ps h n) (n ∷ []) x from None (leaf ps h n zero_high) (not_held n x from other)

module _ (ps : List (ℕ × ℕ)) (h n x : ℕ) (p : ℕ × ℕ) (e : p ≡ pair_at ps n) (high : 0 < h) where
  pub left_position : (from k : ℕ) → k < 2 ^ (h - 1) → IsPosition (items ps (h - 1) p.0) x from (Some k) → IsPosition (items ps h n) x from (Some k)
  left_position from k within d =
      position_between (items ps h n) _ x from (Some k) (halves ps h n p e high)
      (holds_left (items ps (h - 1) p.0) (items ps (h - 1) p.1) (2 ^ (h - 1)) x (length-items ps (h - 1) p.0) from k within d)

  pub right_position : (from k half behind : ℕ) → half ≡ 2 ^ (h - 1) → behind ≡ from - half → IsPosition (items ps (h - 1) p.0) x from None
      → IsPosition (items ps (h - 1) p.1) x behind (Some k) → IsPosition (items ps h n) x from (Some (k + half))
  right_position from k half behind size is none d =
      let moved : IsPosition (items ps (h - 1) p.1) x (from - half) (Some k) = subst (λ (j : ℕ). IsPosition (items ps (h - 1) p.1) x j (Some k)) is d in
      position_between (items ps h n) _ x from (Some (k + half)) (halves ps h n p e high)
      (holds_right (items ps (h - 1) p.0) (items ps (h - 1) p.1) half x (length-items ps (h - 1) p.0 ∙ sym size) from k none moved)

  pub no_position : (from half behind : ℕ) → half ≡ 2 ^ (h - 1) → behind ≡ from - half → IsPosition (items ps (h - 1) p.0) x from None
      → IsPosition (items ps (h - 1) p.1) x behind None → IsPosition (items ps h n) x from None
  no_position from half behind size is none d =
      let moved : IsPosition (items ps (h - 1) p.1) x (from - half) None = subst (λ (j : ℕ). IsPosition (items ps (h - 1) p.1) x j None) is d in
      position_between (items ps h n) _ x from None (halves ps h n p e high)
      (holds_nowhere (items ps (h - 1) p.0) (items ps (h - 1) p.1) half x (length-items ps (h - 1) p.0 ∙ sym size) from none moved)

  pub no_position_twice : (from : ℕ) → p.0 ≡ p.1 → from ≡ 0 → IsPosition (items ps (h - 1) p.0) x from None → IsPosition (items ps h n) x from None
  no_position_twice from same start none =
      position_between (items ps h n) _ x from None (halves ps h n p e high)
      (holds_nowhere (items ps (h - 1) p.0) (items ps (h - 1) p.1) (2 ^ (h - 1)) x (length-items ps (h - 1) p.0) from none
      (nowhere_twice (items ps (h - 1) p.0) (items ps (h - 1) p.1) x from (2 ^ (h - 1)) (ap (items ps (h - 1)) same) start none))
