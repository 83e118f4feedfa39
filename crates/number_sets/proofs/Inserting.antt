-- Numbers added to a list, unless they are among it.
use Rattle.std.proofs.Common.{◌≡◌, ℕ, ◌+◌, ◌<◌, Bool, true, false, eqb, List, [], ◌∷◌, ◌++◌, take, length, get_or, append_assoc, inl, inr, refl, sym, ap, ◌∙◌}
use Rattle.std.specs.Prelude.{if◌then◌else◌}
use Rattle.std.proofs.lemmas.List.{take_more}
use Rattle.std.proofs.lemmas.Bool.{or_cases, eqb-true, false≢true}
use Rattle.lists.specs.Numbers.{is_among, IsSameSearch}
use Rattle.lists.proofs.Finding.{same_search, same_append, covered}
use Rattle.number_sets.specs.Numbers.{with_number}

with_case : (xs : List ℕ) (x : ℕ) (b : Bool) → is_among xs x ≡ b → IsSameSearch (if b then xs else xs ++ x ∷ []) (xs ++ x ∷ [])
with_case xs x true h find =
    covered xs (x ∷ []) (λ y e. elim (or_cases (eqb x y) false e) [ inl s ↦ ap (is_among xs) (sym (eqb-true x y s)) ∙ h | inr s ↦ absurd (false≢true s) ]) find
with_case xs x false h find = refl

pub same_with : (xs : List ℕ) (x : ℕ) → IsSameSearch (with_number xs x) (xs ++ x ∷ [])
same_with xs x = with_case xs x (is_among xs x) refl

-- one more of several numbers
pub search_more : (old xs self next : List ℕ) (i : ℕ) → i < length xs → IsSameSearch self (old ++ take i xs) → next ≡ with_number self (get_or xs i 0) → IsSameSearch next (old ++ take (i + 1) xs)
search_more old xs self next i lt h e find =
    let x = get_or xs i 0 in
    same_search next (with_number self x) e find
    ∙ (same_with self x find
    ∙ (same_append self (old ++ take i xs) (x ∷ []) (x ∷ []) h (same_search (x ∷ []) (x ∷ []) refl) find
    ∙ same_search ((old ++ take i xs) ++ x ∷ []) (old ++ take (i + 1) xs) (append_assoc old (take i xs) (x ∷ []) ∙ ap (λ zs. old ++ zs) (sym (take_more xs i 0 lt))) find))
