-- What is put is found, and nothing is lost.
use Rattle.std.proofs.Common.{◌≡◌, ◌⊎◌, ℕ, ◌<◌, List, length, filter, set, Option, Some, None, refl, sym, ap, ◌∙◌, subst, inl, inr, arith}
use Rattle.std.specs.Prelude.{is_none}
use Rattle.std.proofs.lemmas.Bool.{cases_eq}
use Rattle.std.proofs.lemmas.List.{length-set, get_or-set_same, get_or-set_other}
use Rattle.lists.proofs.Lemmas.{none≢some, some_same}
use Rattle.loop_nest.proofs.Searching.{fewer-set}
use Rattle.loop_rules.specs.declared.further.table.KnownInt.{KnownInt}
use Rattle.loop_rules.specs.Further.Found.{Table, known_at}
use Rattle.known_ints.specs.declared.knowing.Holds.{Holds}
use Rattle.known_ints.specs.declared.knowing.Holds.TheVariants.{AnInt, AnArray}
use Rattle.known_ints.specs.Knowing.{found_of}
use Rattle.known_ints.specs.Answers.{AreKept}
use Rattle.known_ints.specs.Rounds.{IsPut, left}

fewer : (xs : List (Option KnownInt)) (p : ℕ) (k : KnownInt) → p < length xs → known_at xs p ≡ None → length (filter is_none (set xs p (Some k))) < length (filter is_none xs)
fewer xs p k lt fresh = fewer-set is_none xs p (Some k) None lt (ap is_none fresh) refl

put_at : (t t' : Table) (h : Holds) (p : ℕ) (k : KnownInt) → IsPut t h p k t' → found_of t' h ≡ set (found_of t h) p (Some k)
put_at t t' AnInt p k put = put.0
put_at t t' AnArray p k put = put.0

put_else : (t t' : Table) (h g : Holds) (p : ℕ) (k : KnownInt) → IsPut t h p k t' → (h ≡ g) ⊎ (found_of t' g ≡ found_of t g)
put_else t t' AnInt AnInt p k put = inl refl
put_else t t' AnInt AnArray p k put = inr put.1
put_else t t' AnArray AnInt p k put = inr put.1
put_else t t' AnArray AnArray p k put = inl refl

pub put_left : (t t' : Table) (h : Holds) (p : ℕ) (k : KnownInt) → IsPut t h p k t' → p < length (found_of t h) → known_at (found_of t h) p ≡ None → left t' < left t
put_left t t' AnInt p k put lt fresh =
    let less = fewer t.ints p k lt fresh in
    let a = ap (λ (xs : List (Option KnownInt)). length (filter is_none xs)) put.0 in
    let b = ap (λ (xs : List (Option KnownInt)). length (filter is_none xs)) put.1 in
    omega arith
put_left t t' AnArray p k put lt fresh =
    let less = fewer t.lengths p k lt fresh in
    let a = ap (λ (xs : List (Option KnownInt)). length (filter is_none xs)) put.0 in
    let b = ap (λ (xs : List (Option KnownInt)). length (filter is_none xs)) put.1 in
    omega arith

module _ (t t' : Table) (h : Holds) (p : ℕ) (k : KnownInt) (put : IsPut t h p k t') (within : p < length (found_of t h)) where
  pub put_long : (g : Holds) → length (found_of t' g) ≡ length (found_of t g)
  put_long g = elim (put_else t t' h g p k put) [
    | inl same ↦
        subst (λ (x : Holds). length (found_of t' x) ≡ length (found_of t x)) same
        (ap (λ (xs : List (Option KnownInt)). length xs) (put_at t t' h p k put) ∙ length-set (found_of t h) p (Some k))
    | inr same ↦ ap (λ (xs : List (Option KnownInt)). length xs) same
  ]

  there : known_at (found_of t' h) p ≡ Some k
  there = ap (λ (xs : List (Option KnownInt)). known_at xs p) (put_at t t' h p k put) ∙ get_or-set_same (found_of t h) p (Some k) None within

  elsewhere : (r : ℕ) → (r ≡ p → ⊥) → known_at (found_of t' h) r ≡ known_at (found_of t h) r
  elsewhere r other = ap (λ (xs : List (Option KnownInt)). known_at xs r) (put_at t t' h p k put) ∙ get_or-set_other (found_of t h) p r (Some k) None other

  -- what is found was found before, or is what was put
  pub put_cases : (g : Holds) (r : ℕ) (x : KnownInt) → known_at (found_of t' g) r ≡ Some x → (known_at (found_of t g) r ≡ Some x) ⊎ ((h ≡ g) × (r ≡ p) × (k ≡ x))
  put_cases g r x is = elim (put_else t t' h g p k put) [
    | inl same ↦ subst (λ (y : Holds). known_at (found_of t' y) r ≡ Some x → (known_at (found_of t y) r ≡ Some x) ⊎ ((h ≡ y) × (r ≡ p) × (k ≡ x))) same here is
    | inr same ↦ inl (ap (λ (xs : List (Option KnownInt)). known_at xs r) (sym same) ∙ is)
  ]
    where
      here : known_at (found_of t' h) r ≡ Some x → (known_at (found_of t h) r ≡ Some x) ⊎ ((h ≡ h) × (r ≡ p) × (k ≡ x))
      here at = elim (cases_eq r p) [
        | inl same ↦ inr (refl, same, some_same k x (sym (subst (λ (y : ℕ). known_at (found_of t' h) y ≡ Some k) (sym same) there) ∙ at))
        | inr other ↦ inl (sym (elsewhere r other) ∙ at)
      ]

  -- what was found is found still
  pub put_kept : known_at (found_of t h) p ≡ None → (g : Holds) → AreKept (found_of t g) (found_of t' g)
  put_kept fresh g r x was = elim (put_else t t' h g p k put) [
    | inl same ↦ subst (λ (y : Holds). known_at (found_of t y) r ≡ Some x → known_at (found_of t' y) r ≡ Some x) same here was
    | inr same ↦ ap (λ (xs : List (Option KnownInt)). known_at xs r) same ∙ was
  ]
    where
      here : known_at (found_of t h) r ≡ Some x → known_at (found_of t' h) r ≡ Some x
      here at = elim (cases_eq r p) [
        | inl same ↦ absurd (none≢some x (sym (subst (λ (y : ℕ). known_at (found_of t h) y ≡ None) (sym same) fresh) ∙ at))
        | inr other ↦ elsewhere r other ∙ at
      ]
