-- Sets with larger ones first, by a sort of what each lacks of the greatest size.
use Rattle.std.proofs.Common.{◌≡◌, ℕ, ◌+◌, ◌<◌, ◌≤◌, List, [], ◌∷◌, ◌++◌, length, get_or, map, Contains, IsPermutation, sym, ap, subst, inl, inr, arith}
use Rattle.std.specs.Prelude.{All}
use Rattle.std.specs.List.Sorted.{IsNonDecreasingBy}
use Rattle.std.proofs.lemmas.Bool.{cases_lt}
use Rattle.std.proofs.lemmas.List.{get_or-map, length-map}
use Rattle.std.proofs.lemmas.List.Elements.{All-get_or, All-map, All-weaker, All-push, Contains-append_left, Contains-push}
use Rattle.std.proofs.lemmas.List.Sorted.{All-permutation, Contains-permutation}
use Rattle.lists.specs.Members.{map_contains}
use Rattle.section_index.specs.Family.{set_at}
use Rattle.section_index.specs.Splitting.{AreLargerFirst}

-- the first i sets with what each lacks of the greatest size
pub record AreRanked (ss : List (List ℕ)) (most i : ℕ) (rs : List (ℕ × ℕ)) : Type 0 where
  pub each : All (λ r. (r.0 + length (set_at ss r.1) ≡ most) × (r.1 < length ss)) rs
  pub all : (k : ℕ) → k < i → (rank : ℕ) × Contains rs (rank, k)

pub ranked_none : (ss : List (List ℕ)) (most : ℕ) → AreRanked ss most 0 []
ranked_none ss most = record { each = λ k d lt. absurd (omega arith); all = λ k lt. absurd (omega arith) }

pub ranked_more : (ss : List (List ℕ)) (most i rank : ℕ) (rs : List (ℕ × ℕ)) → rank + length (set_at ss i) ≡ most → i < length ss → AreRanked ss most i rs → AreRanked ss most (i + 1) (rs ++ (rank, i) ∷ [])
ranked_more ss most i rank rs is below h = record {
  each = All-push (λ (r : ℕ × ℕ). (r.0 + length (set_at ss r.1) ≡ most) × (r.1 < length ss)) rs (rank, i) h.each (is, below);
  all = λ k lt.
      elim (cases_lt k i) [
        | inl less ↦ let r = h.all k less in (r.0, Contains-append_left rs ((rank, i) ∷ []) (r.0, k) r.1)
        | inr ge ↦
            let e : i ≡ k = omega arith in
            let P : ℕ → Type 0 = λ z. Contains (rs ++ (rank, i) ∷ []) (rank, z) in
            (rank, subst P e (Contains-push rs (rank, i)))
      ];
}

pub larger_first : (ss : List (List ℕ)) (most i : ℕ) (rs ps : List (ℕ × ℕ)) (order : List ℕ) → length ss ≤ i → AreRanked ss most i rs → IsPermutation rs ps → IsNonDecreasingBy (λ (r : ℕ × ℕ). r.0) ps → order ≡ map (λ (r : ℕ × ℕ). r.1) ps → AreLargerFirst ss order
larger_first ss most i rs ps order all h moved rise is =
    let P : ℕ × ℕ → Type 0 = λ r. (r.0 + length (set_at ss r.1) ≡ most) × (r.1 < length ss) in
    let each : All P ps = All-permutation P rs ps moved h.each in
    let snd : ℕ × ℕ → ℕ = λ r. r.1 in
    let F : List ℕ → Type 0 = λ os. AreLargerFirst ss os in
    subst F (sym is) (record {
      within = All-map (λ k. k < length ss) snd ps (All-weaker P (λ r. r.1 < length ss) (λ r p. p.1) ps each);
      all = λ k lt. let r = h.all k (omega arith) in map_contains snd ps (r.0, k) (Contains-permutation rs ps (r.0, k) moved r.1);
      falling = λ p q le lt.
          let long = length-map ps snd in
          let below : q < length ps = omega arith in
          let early : p < length ps = omega arith in
          let at_p : get_or (map snd ps) p 0 ≡ (get_or ps p (0, 0)).1 = get_or-map snd ps p (0, 0) 0 early in
          let at_q : get_or (map snd ps) q 0 ≡ (get_or ps q (0, 0)).1 = get_or-map snd ps q (0, 0) 0 below in
          let size_p = ap (λ k. length (set_at ss k)) at_p in
          let size_q = ap (λ k. length (set_at ss k)) at_q in
          let up = rise p q (0, 0) le below in
          let one = (All-get_or P ps p (0, 0) early each).0 in
          let other = (All-get_or P ps q (0, 0) below each).0 in
          omega arith;
    })
