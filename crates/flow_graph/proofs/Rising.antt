-- Edges and nodes after a sort, each once.
use Rattle.std.proofs.Common.{◌≡◌, ℕ, zero, suc, ◌+◌, ◌<◌, Bool, true, eqb, List, [], ◌∷◌, length, get_or, All, Contains, IsPermutation, IsSorted, refl, sym, ◌∙◌, subst, inl, inr, arith}
use Rattle.std.specs.Prelude.{◌↔◌, ◌&&◌}
use Rattle.std.specs.declared.cmp.Ordering.{Ordering}
use Rattle.std.specs.declared.cmp.Ordering.TheVariants.{Less, Equal, Greater}
use Rattle.std.specs.List.{dedup, AllAdjacentBelow}
use Rattle.std.specs.List.Sorted.{IsStrictlySortedBy}
use Rattle.std.specs.Ordering.{nat_cmp, ordering_then, eq_by_cmp, is_eq, MatchOrdering}
use Rattle.std.specs.Cmp.{IsTotalOrder, IsEquivalence, both_tied, unsigned_tied}
use Rattle.std.proofs.lemmas.Cmp.{ranked, nat_cmp_total, nat_eq_equiv, on_total, then_total, on_equiv, and_equiv}
use Rattle.std.proofs.lemmas.Map.Lookups.{exact_pairs, exact_unsigned}
use Rattle.std.proofs.lemmas.List.Elements.{All-contains, Contains-get_or}
use Rattle.std.proofs.lemmas.List.Kept.{Contains-dedup, Contains-dedup_nat, Contains-from_dedup, IsStrictlySortedBy-dedup}
use Rattle.std.proofs.lemmas.List.Sorted.{Contains-permutation, IsPermutation-sym}
use Rattle.loop_nest.specs.Digraph.{IsBefore}

-- ---- numbers

pub nodes_same : (old sorted new : List ℕ) → IsPermutation old sorted → new ≡ dedup eqb sorted → (u : ℕ) → Contains new u ↔ Contains old u
nodes_same old sorted new moved is u =
    let P : List ℕ → Type 0 = λ us. Contains us u in (
      λ has. Contains-permutation sorted old u (IsPermutation-sym old sorted moved) (Contains-from_dedup eqb sorted u (subst P is has)),
      λ has. subst P (sym is) (Contains-dedup_nat sorted u (Contains-permutation old sorted u moved has)),
    )

-- ---- pairs

abbrev pub pair_eq : ℕ × ℕ → ℕ × ℕ → Bool
pair_eq x y = eqb x.0 y.0 && eqb x.1 y.1

abbrev pub pair_cmp : ℕ × ℕ → ℕ × ℕ → Ordering
pair_cmp x y = ordering_then (nat_cmp x.0 y.0) (nat_cmp x.1 y.1)

pairs_total : IsTotalOrder pair_cmp
pairs_total = then_total (on_total (λ (x : ℕ × ℕ). x.0) nat_cmp_total) (on_total (λ (x : ℕ × ℕ). x.1) nat_cmp_total)

pairs_equiv : IsEquivalence pair_eq
pairs_equiv = and_equiv (on_equiv (λ (x : ℕ × ℕ). x.0) nat_eq_equiv) (on_equiv (λ (x : ℕ × ℕ). x.1) nat_eq_equiv)

pairs_tied : (x y : ℕ × ℕ) → pair_eq x y ≡ eq_by_cmp pair_cmp x y
pairs_tied x y = both_tied (eqb x.0 y.0) (eqb x.1 y.1) (nat_cmp x.0 y.0) (nat_cmp x.1 y.1) (sym (unsigned_tied x.0 y.0)) (sym (unsigned_tied x.1 y.1))

equal_from : (o : Ordering) → is_eq o ≡ true → o ≡ Equal
equal_from Less e = cc
equal_from Equal e = refl
equal_from Greater e = cc

pairs_exact : (x y : ℕ × ℕ) → pair_eq x y ≡ true → x ≡ y
pairs_exact x y e = exact_pairs nat_cmp nat_cmp exact_unsigned exact_unsigned x y (equal_from (pair_cmp x y) (sym (pairs_tied x y) ∙ e))

pub edges_same : (old sorted new : List (ℕ × ℕ)) → IsPermutation old sorted → new ≡ dedup pair_eq sorted → (e : ℕ × ℕ) → Contains new e ↔ Contains old e
edges_same old sorted new moved is e =
    let P : List (ℕ × ℕ) → Type 0 = λ es. Contains es e in (
      λ has. Contains-permutation sorted old e (IsPermutation-sym old sorted moved) (Contains-from_dedup pair_eq sorted e (subst P is has)),
      λ has. subst P (sym is) (Contains-dedup pairs_equiv pairs_exact sorted e (Contains-permutation old sorted e moved has)),
    )

before_case : (a b : ℕ × ℕ) (o p : Ordering) → MatchOrdering o (a.0 < b.0) (a.0 ≡ b.0) (b.0 < a.0) → MatchOrdering p (a.1 < b.1) (a.1 ≡ b.1) (b.1 < a.1) → ordering_then o p ≡ Less → IsBefore a b
before_case a b Less p f s e = inl f
before_case a b Equal Less f s e = inr (f, s)
before_case a b Equal Equal f s e = absurd (cc)
before_case a b Equal Greater f s e = absurd (cc)
before_case a b Greater p f s e = absurd (cc)

before_from : (a b : ℕ × ℕ) → pair_cmp a b ≡ Less → IsBefore a b
before_from a b e = before_case a b (nat_cmp a.0 b.0) (nat_cmp a.1 b.1) (ranked a.0 b.0 (nat_cmp a.0 b.0) refl) (ranked a.1 b.1 (nat_cmp a.1 b.1) refl) e

adjacent : (es : List (ℕ × ℕ)) → IsStrictlySortedBy pair_cmp es → AllAdjacentBelow IsBefore es (length es)
unfolding IsStrictlySortedBy
adjacent [] s k d lt = absurd (omega arith)
adjacent (x ∷ []) s k d lt = absurd (omega arith)
adjacent (x ∷ y ∷ es) s zero d lt = before_from x y s.0.0
adjacent (x ∷ y ∷ es) s (suc k) d lt =
    let later = adjacent (y ∷ es) s.1 k d (omega arith) in
    let e : suc (k + 1) ≡ suc k + 1 = omega arith in
    let P : ℕ → Type 0 = λ n. IsBefore (get_or (y ∷ es) k d) (get_or (x ∷ y ∷ es) n d) in
    subst P e later

pub edges_rise : (sorted new : List (ℕ × ℕ)) → IsSorted pair_cmp sorted → new ≡ dedup pair_eq sorted → AllAdjacentBelow IsBefore new (length new)
edges_rise sorted new rise is =
    let P : List (ℕ × ℕ) → Type 0 = λ es. AllAdjacentBelow IsBefore es (length es) in
    subst P (sym is) (adjacent (dedup pair_eq sorted) (IsStrictlySortedBy-dedup pairs_total pairs_tied sorted rise))

-- ---- items of the one list are items of the other

pub all_of : {X : Type 0} (P : X → Type 0) (old new : List X) → ((x : X) → Contains new x → Contains old x) → All P old → All P new
all_of P old new from all k d lt = All-contains P old (get_or new k d) all (from (get_or new k d) (Contains-get_or new k d lt))
