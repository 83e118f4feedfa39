-- Residues of the items of trees.
use Rattle.std.proofs.Common.{◌≡◌, ℕ, zero, suc, ◌-◌, ◌<◌, ◌%◌, List, [], ◌∷◌, ◌++◌, get_or, All, None, sym, subst, arith, bit_or}
use Rattle.std.proofs.lemmas.Nat.Bits.{bit_at-lt, bit_at_or}
use Rattle.std.proofs.lemmas.Option.{slice_get_within, get_or_from_slice_get}
use Rattle.std.proofs.lemmas.List.Elements.{All-append}
use Rattle.persistent_lists.specs.Tables.{IsPosition}
use Rattle.persistent_lists.specs.Trees.{items, pair_at, IsTree, IsNode, Extends}
use Rattle.persistent_lists.specs.Residues.{MayHold, Covers, AreAmong, HasResidues, HaveMore}
use Rattle.persistent_lists.proofs.TreeLemmas.{leaf, node_kept, items_kept}
use Rattle.persistent_lists.proofs.FillLemmas.{joined_items}

pub covers_left : (a b : ℕ) → Covers a (bit_or a b)
covers_left a b k is = let o = bit_at_or a b k in let lt = bit_at-lt (bit_or a b) k in omega (arith, o, is, lt)

pub covers_right : (a b : ℕ) → Covers b (bit_or a b)
covers_right a b k is = let o = bit_at_or a b k in let lt = bit_at-lt (bit_or a b) k in omega (arith, o, is, lt)

among_kept : (xs ys : List ℕ) (b c : ℕ) → ys ≡ xs → Covers b c → All (MayHold b) xs → All (MayHold c) ys
among_kept xs ys b c e le all = subst (λ l. All (MayHold c) l) (sym e) (λ k d lt. le (get_or xs k d % 64) (all k d lt))

pub with_residues_kept : (old new : List (ℕ × ℕ)) (bs cs : List ℕ) (h n : ℕ) → Extends old new → HaveMore bs cs → IsTree old h n → HasResidues old bs h n → HasResidues new cs h n
unfolding IsTree HasResidues
with_residues_kept old new bs cs zero n more grown t b = tt
with_residues_kept old new bs cs (suc h) n more grown t b =
    let same = node_kept old new n more t.0 in (
      among_kept (items old (suc h) n) (items new (suc h) n) (get_or bs n 0) (get_or cs n 0) (items_kept old new (suc h) n more t) (grown n) b.0,
      subst (λ (q : ℕ × ℕ). HasResidues new cs h q.0) (sym same) (with_residues_kept old new bs cs h (pair_at old n).0 more grown t.1 b.1),
      subst (λ (q : ℕ × ℕ). HasResidues new cs h q.1) (sym same) (with_residues_kept old new bs cs h (pair_at old n).1 more grown t.2 b.2),
    )

pub with_residues_leaf : (ps : List (ℕ × ℕ)) (bs : List ℕ) (h n : ℕ) → h ≡ 0 → HasResidues ps bs h n
unfolding HasResidues
with_residues_leaf ps bs zero n e = tt
with_residues_leaf ps bs (suc h) n e = absurd (omega (arith, e))

halves_of_with_residues : (ps : List (ℕ × ℕ)) (bs : List ℕ) (h n : ℕ) → 0 < h → HasResidues ps bs h n → HasResidues ps bs (h - 1) (pair_at ps n).0 × HasResidues ps bs (h - 1) (pair_at ps n).1
unfolding HasResidues
halves_of_with_residues ps bs zero n lt b = absurd (omega (arith, lt))
halves_of_with_residues ps bs (suc h) n lt b =
    let same : h ≡ suc h - 1 = omega arith in
    (subst (λ (j : ℕ). HasResidues ps bs j (pair_at ps n).0) same b.1, subst (λ (j : ℕ). HasResidues ps bs j (pair_at ps n).1) same b.2)

pub left_with_residues : (ps : List (ℕ × ℕ)) (bs : List ℕ) (h n : ℕ) (p : ℕ × ℕ) → p ≡ pair_at ps n → 0 < h → HasResidues ps bs h n → HasResidues ps bs (h - 1) p.0
left_with_residues ps bs h n p e lt b = subst (λ (q : ℕ × ℕ). HasResidues ps bs (h - 1) q.0) (sym e) (halves_of_with_residues ps bs h n lt b).0

pub right_with_residues : (ps : List (ℕ × ℕ)) (bs : List ℕ) (h n : ℕ) (p : ℕ × ℕ) → p ≡ pair_at ps n → 0 < h → HasResidues ps bs h n → HasResidues ps bs (h - 1) p.1
right_with_residues ps bs h n p e lt b = subst (λ (q : ℕ × ℕ). HasResidues ps bs (h - 1) q.1) (sym e) (halves_of_with_residues ps bs h n lt b).1

-- ---- the bound of a tree

pub among_leaf : (ps : List (ℕ × ℕ)) (h n b : ℕ) → h ≡ 0 → MayHold b n → AreAmong ps h n b
among_leaf ps h n b e holds = subst (λ l. All (MayHold b) l) (sym (leaf ps h n e)) one
  where
    one : All (MayHold b) (n ∷ [])
    one zero d lt = holds
    one (suc k) d lt = absurd (omega (arith, lt))

at_residues : (ps : List (ℕ × ℕ)) (bs : List ℕ) (h n : ℕ) → 0 < h → HasResidues ps bs h n → AreAmong ps h n (get_or bs n 0)
unfolding HasResidues
at_residues ps bs zero n lt b = absurd (omega (arith, lt))
at_residues ps bs (suc h) n lt b = b.0

pub among_residues : (ps : List (ℕ × ℕ)) (bs : List ℕ) (h n b : ℕ) → 0 < h → b ≡ get_or bs n 0 → HasResidues ps bs h n → AreAmong ps h n b
among_residues ps bs h n b lt e marked = subst (λ (c : ℕ). AreAmong ps h n c) (sym e) (at_residues ps bs h n lt marked)

-- one whose residue isn't among them isn't there
pub absent_item : (ps : List (ℕ × ℕ)) (bs : List ℕ) (h n x from b : ℕ) → 0 < h → b ≡ get_or bs n 0 → (MayHold b x → ⊥) → HasResidues ps bs h n → IsPosition (items ps h n) x from None
absent_item ps bs h n x from b lt e other marked = λ i le is.
    let held = among_residues ps bs h n b lt e marked i 0 (slice_get_within (items ps h n) i x is) in
    other (subst (λ (y : ℕ). MayHold b y) (get_or_from_slice_get (items ps h n) i x 0 is) held)

-- ---- a tree of two

with_residues_of_halves : (ps : List (ℕ × ℕ)) (bs : List ℕ) (h n : ℕ) → 0 < h → AreAmong ps h n (get_or bs n 0) → HasResidues ps bs (h - 1) (pair_at ps n).0 → HasResidues ps bs (h - 1) (pair_at ps n).1 → HasResidues ps bs h n
unfolding HasResidues
with_residues_of_halves ps bs zero n lt w l r = absurd (omega (arith, lt))
with_residues_of_halves ps bs (suc h) n lt w l r =
    let same : suc h - 1 ≡ h = omega arith in
    (w, subst (λ (j : ℕ). HasResidues ps bs j (pair_at ps n).0) same l, subst (λ (j : ℕ). HasResidues ps bs j (pair_at ps n).1) same r)

pub with_residues_joined : (old new : List (ℕ × ℕ)) (bs cs : List ℕ) (h n b : ℕ) (p : ℕ × ℕ) → 0 < h → Extends old new → HaveMore bs cs → IsTree old (h - 1) p.0 × IsTree old (h - 1) p.1
    → HasResidues old bs (h - 1) p.0 × HasResidues old bs (h - 1) p.1 → AreAmong old (h - 1) p.0 b × AreAmong old (h - 1) p.1 b → IsNode new p n → Covers b (get_or cs n 0) → HasResidues new cs h n
with_residues_joined old new bs cs h n b p lt more grown t marked w node le =
    let both = among_kept (items new (h - 1) p.0 ++ items new (h - 1) p.1) (items new h n) b (get_or cs n 0) (joined_items new h n p lt node) le
    (All-append (MayHold b) (items new (h - 1) p.0) (items new (h - 1) p.1)
    (among_kept (items old (h - 1) p.0) (items new (h - 1) p.0) b b (items_kept old new (h - 1) p.0 more t.0) (λ k bit. bit) w.0)
    (among_kept (items old (h - 1) p.1) (items new (h - 1) p.1) b b (items_kept old new (h - 1) p.1 more t.1) (λ k bit. bit) w.1)) in
    with_residues_of_halves new cs h n lt both
    (subst (λ (q : ℕ × ℕ). HasResidues new cs (h - 1) q.0) (sym node.1) (with_residues_kept old new bs cs (h - 1) p.0 more grown t.0 marked.0))
    (subst (λ (q : ℕ × ℕ). HasResidues new cs (h - 1) q.1) (sym node.1) (with_residues_kept old new bs cs (h - 1) p.1 more grown t.1 marked.1))
