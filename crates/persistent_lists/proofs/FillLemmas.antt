-- Trees that are made of their halves.
use Rattle.std.proofs.Common.{◌≡◌, ℕ, ◌+◌, ◌-◌, ◌<◌, ◌≤◌, ◌^◌, List, [], ◌∷◌, ◌++◌, length, set, replicate, append_assoc, append-nil, length-append, sym, ap, ap₂, ◌∙◌, arith}
use Rattle.std.proofs.lemmas.List.{set-append_left, set-append_right, replicate-append-replicate}
use Rattle.persistent_lists.specs.Trees.{items, pair_at, IsTree, IsNode, IsFilled, IsTreeOf, Extends}
use Rattle.persistent_lists.proofs.TreeLemmas.{split_size, size_zero, length-items, leaf, leaf_tree, halves, items_kept, tree_kept, tree_joined, left_tree, right_tree, extended}

pub joined_items : (ps : List (ℕ × ℕ)) (h n : ℕ) (p : ℕ × ℕ) → 0 < h → IsNode ps p n → items ps h n ≡ items ps (h - 1) p.0 ++ items ps (h - 1) p.1
joined_items ps h n p high node = halves ps h n p (sym node.1) high

pub filled_leaf : (ps : List (ℕ × ℕ)) (h : ℕ) (given : List ℕ) (rest node : ℕ) → h ≡ 0 → node ∷ [] ≡ given ++ replicate (1 - length given) rest → IsFilled ps h given rest node rest
filled_leaf ps h given rest node zero_high is = record {
  tree = leaf_tree ps h node zero_high;
  rest_tree = leaf_tree ps h rest zero_high;
  filled = leaf ps h node zero_high ∙ (is ∙ ap (λ (s : ℕ). given ++ replicate (s - length given) rest) (sym (size_zero h zero_high)));
  rests = leaf ps h rest zero_high ∙ ap (λ (s : ℕ). replicate s rest) (sym (size_zero h zero_high));
}

-- two trees of the rest
rests_joined : (ps : List (ℕ × ℕ)) (h r node rest : ℕ) → 0 < h → IsNode ps (r, r) node → items ps (h - 1) r ≡ replicate (2 ^ (h - 1)) rest → items ps h node ≡ replicate (2 ^ h) rest
rests_joined ps h r node rest high is rests =
    joined_items ps h node (r, r) high is
    ∙ (ap₂ (λ a b. a ++ b) rests rests
    ∙ (replicate-append-replicate (2 ^ (h - 1)) (2 ^ (h - 1)) rest ∙ ap (λ (s : ℕ). replicate s rest) (sym (split_size h high))))

module _ (old new : List (ℕ × ℕ)) (h : ℕ) (rest : ℕ) (more : Extends old new) (high : 0 < h) where
  -- the second half is of the rest alone
  pub filled_short : (given : List ℕ) (l r node rest_node : ℕ) → IsFilled old (h - 1) given rest l r → length given ≤ 2 ^ (h - 1) → IsNode new (l, r) node → IsNode new (r, r) rest_node
      → IsFilled new h given rest node rest_node
  filled_short given l r node rest_node was room is rests_are =
      let kept : items new (h - 1) l ≡ items old (h - 1) l = items_kept old new (h - 1) l more was.tree in
      let kept_rest : items new (h - 1) r ≡ items old (h - 1) r = items_kept old new (h - 1) r more was.rest_tree in
      let tree_l : IsTree new (h - 1) l = tree_kept old new (h - 1) l more was.tree in
      let tree_r : IsTree new (h - 1) r = tree_kept old new (h - 1) r more was.rest_tree in
      let count : 2 ^ (h - 1) - length given + 2 ^ (h - 1) ≡ 2 ^ h - length given = omega (arith, room, split_size h high) in
      record {
        tree = tree_joined new h node (l, r) high is tree_l tree_r;
        rest_tree = tree_joined new h rest_node (r, r) high rests_are tree_r tree_r;
        filled =
            joined_items new h node (l, r) high is
            ∙ (ap₂ (λ a b. a ++ b) (kept ∙ was.filled) (kept_rest ∙ was.rests)
            ∙ (append_assoc given (replicate (2 ^ (h - 1) - length given) rest) (replicate (2 ^ (h - 1)) rest)
            ∙ (ap (λ l. given ++ l) (replicate-append-replicate (2 ^ (h - 1) - length given) (2 ^ (h - 1)) rest) ∙ ap (λ (s : ℕ). given ++ replicate s rest) count)));
        rests = rests_joined new h r rest_node rest high rests_are (kept_rest ∙ was.rests);
      }

-- the items pass into the second half
pub filled_long : (first second new : List (ℕ × ℕ)) (h rest : ℕ) → Extends first second → Extends second new → 0 < h → (given front back : List ℕ) (l r l2 r2 node rest_node : ℕ)
    → given ≡ front ++ back → length front ≡ 2 ^ (h - 1)
    → IsFilled first (h - 1) front rest l r → IsFilled second (h - 1) back rest l2 r2 → IsNode new (l, l2) node → IsNode new (r, r) rest_node
    → IsFilled new h given rest node rest_node
filled_long first second new h rest more then high given front back l r l2 r2 node rest_node parts full was will is rests_are =
    let all : Extends first new = extended first second new more then in
    let none : 2 ^ (h - 1) - length front ≡ 0 = omega (arith, full) in
    let left_items : items new (h - 1) l ≡ front =
    items_kept first new (h - 1) l all was.tree ∙ (was.filled ∙ (ap (λ (s : ℕ). front ++ replicate s rest) none ∙ append-nil front)) in
    let right_items : items new (h - 1) l2 ≡ back ++ replicate (2 ^ (h - 1) - length back) rest = items_kept second new (h - 1) l2 then will.tree ∙ will.filled in
    let tree_r : IsTree new (h - 1) r = tree_kept first new (h - 1) r all was.rest_tree in
    let lengths : length given ≡ 2 ^ (h - 1) + length back = ap length parts ∙ (length-append front back ∙ ap (λ (s : ℕ). s + length back) full) in
    let count : 2 ^ (h - 1) - length back ≡ 2 ^ h - length given = omega (arith, lengths, split_size h high) in
    record {
      tree = tree_joined new h node (l, l2) high is (tree_kept first new (h - 1) l all was.tree) (tree_kept second new (h - 1) l2 then will.tree);
      rest_tree = tree_joined new h rest_node (r, r) high rests_are tree_r tree_r;
      filled =
          joined_items new h node (l, l2) high is
          ∙ (ap₂ (λ a b. a ++ b) left_items right_items
          ∙ (sym (append_assoc front back (replicate (2 ^ (h - 1) - length back) rest))
          ∙ ap₂ (λ a (s : ℕ). a ++ replicate s rest) (sym parts) count));
      rests = rests_joined new h r rest_node rest high rests_are (items_kept first new (h - 1) r all was.rest_tree ∙ was.rests);
    }

-- ---- another item

pub leaf_with : (ps : List (ℕ × ℕ)) (h n i x : ℕ) → h ≡ 0 → i < 2 ^ h → IsTreeOf ps h x (set (items ps h n) i x)
leaf_with ps h n i x zero_high within =
    let first : i ≡ 0 = omega (arith, within, size_zero h zero_high) in
    record {
      tree = leaf_tree ps h x zero_high;
      holds = leaf ps h x zero_high ∙ sym (ap₂ (λ l (k : ℕ). set l k x) (leaf ps h n zero_high) first);
    }

module _ (old middle new : List (ℕ × ℕ)) (h n : ℕ) (p : ℕ × ℕ) (e : p ≡ pair_at old n) (high : 0 < h) (t : IsTree old h n) (more : Extends old middle) (then : Extends middle new) where
  pub left_with : (i x made node : ℕ) → i < 2 ^ (h - 1) → IsTreeOf middle (h - 1) made (set (items old (h - 1) p.0) i x) → IsNode new (made, p.1) node → IsTreeOf new h node (set (items old h n) i x)
  left_with i x made node within was is =
      let all : Extends old new = extended old middle new more then in
      let right : IsTree old (h - 1) p.1 = right_tree old h n p e high t in
      record {
        tree = tree_joined new h node (made, p.1) high is (tree_kept middle new (h - 1) made then was.tree) (tree_kept old new (h - 1) p.1 all right);
        holds =
            joined_items new h node (made, p.1) high is
            ∙ (ap₂ (λ a b. a ++ b) (items_kept middle new (h - 1) made then was.tree ∙ was.holds) (items_kept old new (h - 1) p.1 all right)
            ∙ (sym (set-append_left (items old (h - 1) p.0) (items old (h - 1) p.1) i x (omega (arith, within, length-items old (h - 1) p.0)))
            ∙ ap (λ l. set l i x) (sym (halves old h n p e high))));
      }

  pub right_with : (i x half made node : ℕ) → half ≡ 2 ^ (h - 1) → half ≤ i → IsTreeOf middle (h - 1) made (set (items old (h - 1) p.1) (i - half) x) → IsNode new (p.0, made) node
      → IsTreeOf new h node (set (items old h n) i x)
  right_with i x half made node size past was is =
      let all : Extends old new = extended old middle new more then in
      let left : IsTree old (h - 1) p.0 = left_tree old h n p e high t in
      record {
        tree = tree_joined new h node (p.0, made) high is (tree_kept old new (h - 1) p.0 all left) (tree_kept middle new (h - 1) made then was.tree);
        holds =
            joined_items new h node (p.0, made) high is
            ∙ (ap₂ (λ a b. a ++ b) (items_kept old new (h - 1) p.0 all left) (items_kept middle new (h - 1) made then was.tree ∙ was.holds)
            ∙ (sym (set-append_right (items old (h - 1) p.0) (items old (h - 1) p.1) half i x (length-items old (h - 1) p.0 ∙ sym size) past)
            ∙ ap (λ l. set l i x) (sym (halves old h n p e high))));
      }
