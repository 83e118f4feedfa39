-- What is among the numbers of a list, one after another.
use Rattle.std.proofs.Common.{◌≡◌, ℕ, zero, suc, ◌+◌, ◌<◌, Bool, true, false, eqb, List, [], ◌∷◌, ◌++◌, Option, Some, None, take, length, get_or, inl, inr, refl, sym, ap, ◌∙◌, arith}
use Rattle.std.proofs.lemmas.Bool.{or_cases, or_left, or_right, eqb-true, eq-eqb, false≢true}
use Rattle.std.proofs.lemmas.List.Folds.{list_any_more}
use Rattle.std.specs.Option.{option_to_list}
use Rattle.lists.specs.Numbers.{is_among}
use Rattle.lists.proofs.Reached.{in_append}

pub among_at : (xs : List ℕ) (i : ℕ) → i < length xs → is_among xs (get_or xs i 0) ≡ true
among_at [] i h = absurd (omega (arith, h))
among_at (x ∷ xs) zero h = or_left (eqb x x) (is_among xs x) (eq-eqb x x refl)
among_at (x ∷ xs) (suc i) h = or_right (eqb x (get_or xs i 0)) (is_among xs (get_or xs i 0)) (among_at xs i (omega (arith, h)))

-- what holds of the numbers so far, and of the next
pub among_next : (xs : List ℕ) (i : ℕ) (test : ℕ → Bool) → i < length xs → ((d : ℕ) → is_among (take i xs) d ≡ true → test d ≡ true) → test (get_or xs i 0) ≡ true → (d : ℕ) → is_among (take (i + 1) xs) d ≡ true → test d ≡ true
among_next xs i test lt h e d a =
    elim (or_cases (is_among (take i xs) d) (eqb (get_or xs i 0) d) (sym (list_any_more (λ k. eqb k d) xs i 0 lt) ∙ a)) [
      | inl l ↦ h d l
      | inr r ↦ ap test (sym (eqb-true (get_or xs i 0) d r)) ∙ e
    ]

-- ---- in one of two lists, and in what an option has

pub in_left : (xs ys : List ℕ) (d : ℕ) → is_among xs d ≡ true → is_among (xs ++ ys) d ≡ true
in_left xs ys d h = in_append xs ys d ∙ or_left (is_among xs d) (is_among ys d) h

pub in_right : (xs ys : List ℕ) (d : ℕ) → is_among ys d ≡ true → is_among (xs ++ ys) d ≡ true
in_right xs ys d h = in_append xs ys d ∙ or_right (is_among xs d) (is_among ys d) h

pub in_option : (o : Option ℕ) (d : ℕ) → is_among (option_to_list o) d ≡ true → o ≡ Some d
in_option None d h = absurd (false≢true h)
in_option (Some x) d h = elim (or_cases (eqb x d) false h) [ inl e ↦ ap Some (eqb-true x d e) | inr e ↦ absurd (false≢true e) ]

pub option_in : (o : Option ℕ) (d : ℕ) → o ≡ Some d → is_among (option_to_list o) d ≡ true
option_in o d h = ap (λ x. is_among (option_to_list x) d) h ∙ or_left (eqb d d) false (eq-eqb d d refl)
