-- Loops that count, gone through by method and place.
use Rattle.std.proofs.Common.{◌≡◌, ℕ, suc, ◌+◌, ◌≤◌, Bool, false, ◌&&◌, List, [], ◌∷◌, length, get_or, refl, sym, ◌∙◌, ap, ap₂, subst, arith, Some, None, cond, inl, inr, eqb}
use Rattle.std.specs.Prelude.{All}
use Rattle.std.specs.List.{AllAdjacentBelow}
use Rattle.std.proofs.lemmas.Bool.{cases_Bool, eqb-true}
use Rattle.std.proofs.lemmas.List.Elements.{All-nil, All-cons, All-head, All-tail, All-weaker}
use Rattle.lists.specs.Tests.{and_left, and_right}
use Rattle.loop_nest.specs.Digraph.{IsBefore}
use Rattle.loop_rules.specs.declared.found.FoundLoop.{FoundLoop}
use Rattle.loop_rules.specs.Finding.{places_of}
use Rattle.source_headers.specs.Headers.{found_at}
use Rattle.source_headers.specs.Found.{place_of, AreRising, StartsFrom, IsLeftFrom}

-- ---- the order

before_trans : (a b c : ℕ × ℕ) → IsBefore a b → IsBefore b c → IsBefore a c
before_trans a b c (inl h) (inl k) = inl (omega (arith, h, k))
before_trans a b c (inl h) (inr k) = inl (omega (arith, h, k.0))
before_trans a b c (inr h) (inl k) = inl (omega (arith, h.0, k))
before_trans a b c (inr h) (inr k) = inr (h.0 ∙ k.0, omega (arith, h.1, k.1))

pub before_itself : (a : ℕ × ℕ) → IsBefore a a → ⊥
before_itself a (inl h) = omega (arith, h)
before_itself a (inr h) = omega (arith, h.1)

-- ---- they rise

adjacent_tail : (x : FoundLoop) (xs : List FoundLoop) → AllAdjacentBelow IsBefore (places_of (x ∷ xs)) (length (x ∷ xs)) → AllAdjacentBelow IsBefore (places_of xs) (length xs)
adjacent_tail x xs h k d lt =
    let R : ℕ → Type 0 = λ i. IsBefore (get_or (places_of xs) k d) (get_or (places_of (x ∷ xs)) i d) in
    let same : suc k + 1 ≡ suc (k + 1) = omega arith in
    subst R same (h (suc k) d (omega (arith, lt)))

behind : (x : FoundLoop) (xs : List FoundLoop) → AllAdjacentBelow IsBefore (places_of (x ∷ xs)) (length (x ∷ xs)) → All (λ y. IsBefore (place_of x) (place_of y)) xs
behind x [] h = All-nil (λ (y : FoundLoop). IsBefore (place_of x) (place_of y))
behind x (y ∷ ys) h =
    let first : IsBefore (place_of x) (place_of y) = h 0 (place_of x) (omega arith) in
    All-cons (λ (z : FoundLoop). IsBefore (place_of x) (place_of z)) y ys first
    (All-weaker (λ (z : FoundLoop). IsBefore (place_of y) (place_of z)) (λ (z : FoundLoop). IsBefore (place_of x) (place_of z)) (λ z b. before_trans (place_of x) (place_of y) (place_of z) first b) ys
    (behind y ys (adjacent_tail x (y ∷ ys) h)))

pub are_rising : (xs : List FoundLoop) → AllAdjacentBelow IsBefore (places_of xs) (length xs) → AreRising xs
are_rising [] h = tt
are_rising (x ∷ xs) h = (behind x xs h, are_rising xs (adjacent_tail x xs h))

-- ---- what is found

-- the test of a loop that isn't at the place
other_place : (x : FoundLoop) (n q : ℕ) → ((place_of x ≡ (n, q)) → ⊥) → (eqb x.method n && eqb x.place q) ≡ false
other_place x n q other =
    elim (cases_Bool (eqb x.method n && eqb x.place q)) [
      | inl h ↦
          absurd (other (ap₂ (λ (a b : ℕ). (a, b)) (eqb-true x.method n (and_left (eqb x.method n) (eqb x.place q) h)) (eqb-true x.place q (and_right (eqb x.method n) (eqb x.place q) h))))
      | inr h ↦ h
    ]

passed : (x : FoundLoop) (xs : List FoundLoop) (n q : ℕ) → ((place_of x ≡ (n, q)) → ⊥) → found_at (x ∷ xs) n q ≡ found_at xs n q
passed x xs n q other = ap (λ (b : Bool). cond b (Some x.bound) (found_at xs n q)) (other_place x n q other)

none_behind : (x : FoundLoop) (xs : List FoundLoop) (m p : ℕ) → (IsBefore (place_of x) (m, p) → ⊥) → All (λ y. IsBefore (place_of x) (place_of y)) xs → found_at xs m p ≡ None
none_behind x [] m p after h = refl
none_behind x (y ∷ ys) m p after h =
    let B : FoundLoop → Type 0 = λ y. IsBefore (place_of x) (place_of y) in
    passed y ys m p (λ e. after (subst (λ (z : ℕ × ℕ). IsBefore (place_of x) z) e (All-head B y ys h))) ∙ none_behind x ys m p after (All-tail B y ys h)

-- the first of them is the loop, or there is none

pub none_here : (left : List FoundLoop) (m p : ℕ) (d : FoundLoop) → AreRising left → StartsFrom left m p → ((place_of (get_or left 0 d) ≡ (m, p)) → ⊥) → None ≡ found_at left m p
none_here [] m p d rising starts other = refl
none_here (x ∷ xs) m p d rising starts other = sym (passed x xs m p other ∙ none_behind x xs m p starts rising.0)

-- the loops of a method and of those behind it
pub later_methods : (found left next : List FoundLoop) (n : ℕ) → IsLeftFrom left next n 0 → ((m p : ℕ) → n ≤ m → found_at left m p ≡ found_at found m p) → (m p : ℕ) → n ≤ m → found_at next m p ≡ found_at found m p
later_methods found left next n less same m p le = less.same m p (not_before le) ∙ same m p le
  where
    not_before : n ≤ m → IsBefore (m, p) (n, 0) → ⊥
    not_before le (inl b) = omega (arith, b, le)
    not_before le (inr b) = omega (arith, b.1)
