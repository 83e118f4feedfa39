-- Marks of numbers that are among others.
use Rattle.std.proofs.Common.{◌≡◌, ℕ, ◌+◌, ◌<◌, Bool, true, false, eqb, List, [], ◌∷◌, ◌++◌, take, length, get_or, set, inl, inr, refl, sym, ap, ◌∙◌}
use Rattle.std.specs.Prelude.{if◌then◌else◌}
use Rattle.std.proofs.lemmas.Bool.{cases_eq, or_left, or_right, eq-eqb, false≢true}
use Rattle.std.proofs.lemmas.List.{get_or-set_other}
use Rattle.lists.specs.Numbers.{is_among, IsSameSearch}
use Rattle.lists.proofs.Reached.{in_append}
use Rattle.lists.proofs.Finding.{same_among}
use Rattle.number_sets.specs.Numbers.{with_number}
use Rattle.number_sets.proofs.Inserting.{same_with, search_more}
use Rattle.number_sets.specs.Marks.{AreAmong}

pub among_kept : (xs : List ℕ) (n x : ℕ) → is_among xs x ≡ true → is_among (with_number xs n) x ≡ true
among_kept xs n x h =
    same_among (with_number xs n) (xs ++ n ∷ []) x (same_with xs n) ∙ (in_append xs (n ∷ []) x ∙ or_left (is_among xs x) (is_among (n ∷ []) x) h)

pub among_own : (xs : List ℕ) (n : ℕ) → is_among (with_number xs n) n ≡ true
among_own xs n =
    same_among (with_number xs n) (xs ++ n ∷ []) n (same_with xs n)
    ∙ (in_append xs (n ∷ []) n ∙ or_right (is_among xs n) (is_among (n ∷ []) n) (or_left (eqb n n) false (eq-eqb n n refl)))

pub none_marked : (marks : List Bool) (xs : List ℕ) → marks ≡ [] → AreAmong marks xs
none_marked marks xs e x h = absurd (false≢true (sym (ap (λ (m : List Bool). get_or m x false) e) ∙ h))

pub kept_more : (marks : List Bool) (xs next : List ℕ) (n : ℕ) → AreAmong marks xs → next ≡ with_number xs n → AreAmong marks next
kept_more marks xs next n a e x h = ap (λ zs. is_among zs x) e ∙ among_kept xs n x (a x h)

pub marked_more : (marks : List Bool) (xs next : List ℕ) (n : ℕ) → AreAmong marks xs → next ≡ with_number xs n → AreAmong (set marks n true) next
marked_more marks xs next n a e x h =
    ap (λ zs. is_among zs x) e
    ∙ elim (cases_eq x n) [
      | inl s ↦ ap (λ k. is_among (with_number xs n) k) s ∙ among_own xs n
      | inr s ↦ among_kept xs n x (a x (sym (get_or-set_other marks n x true false s) ∙ h))
    ]

-- a number that is among them already
pub search_same : (old xs self : List ℕ) (i : ℕ) → i < length xs → IsSameSearch self (old ++ take i xs) → is_among self (get_or xs i 0) ≡ true → IsSameSearch self (old ++ take (i + 1) xs)
search_same old xs self i lt h e =
    let x = get_or xs i 0 in
    search_more old xs self self i lt h (sym (ap (λ (b : Bool). if b then self else self ++ x ∷ []) e))
