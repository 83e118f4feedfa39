-- The last / of a name.
use Rattle.std.proofs.Common.{◌≡◌, ℕ, suc, ◌+◌, ◌<◌, ◌≤◌, Bool, true, false, ◌||◌, eqb, List, [], ◌∷◌, inl, inr, take, drop, drop-cons, drop_of_length-le, get_or, length, refl, sym, ap, ◌∙◌, arith}
use Rattle.std.specs.Prelude.{if◌then◌else◌}
use Rattle.std.specs.List.{list_any}
use Rattle.std.proofs.lemmas.Bool.{false≢true, cases_Bool}
use Rattle.class_lookup.specs.Parts.{package_in}

-- the place of the last / among units from a place on, or else this one
abbrev pub last_slash : (place best : ℕ) → List ℕ → ℕ
last_slash n best [] = best
last_slash n best (u ∷ us) = last_slash (n + 1) (if eqb u 47 then n else best) us

abbrev has_slash : List ℕ → Bool
has_slash us = list_any (λ u. eqb u 47) us

no_case : (us : List ℕ) (n best : ℕ) (b : Bool) → (b || has_slash us) ≡ false → (has_slash us ≡ false → last_slash (n + 1) best us ≡ best) → last_slash (n + 1) (if b then n else best) us ≡ best
no_case us n best true h later = absurd (false≢true (sym h))
no_case us n best false h later = later h

no_slash : (us : List ℕ) (n best : ℕ) → has_slash us ≡ false → last_slash n best us ≡ best
no_slash [] n best h = refl
no_slash (u ∷ us) n best h = no_case us n best (eqb u 47) h (no_slash us (n + 1) best)

-- where there is one, it is as far behind the place as the package is long
found_case : (u : ℕ) (us : List ℕ) (n best : ℕ) (b c : Bool) → has_slash us ≡ c → (b || c) ≡ true → ((m : ℕ) → c ≡ true → last_slash (n + 1) m us ≡ n + 1 + length (package_in us))
    → last_slash (n + 1) (if b then n else best) us ≡ n + length (if c then u ∷ package_in us else [])
found_case u us n best b true e h later = let same : n + 1 + length (package_in us) ≡ n + suc (length (package_in us)) = omega arith in later (if b then n else best) refl ∙ same
found_case u us n best true false e h later = let same : n ≡ n + 0 = omega arith in no_slash us (n + 1) n e ∙ same
found_case u us n best false false e h later = absurd (false≢true h)

some_slash : (us : List ℕ) (n best : ℕ) → has_slash us ≡ true → last_slash n best us ≡ n + length (package_in us)
some_slash [] n best h = absurd (false≢true h)
some_slash (u ∷ us) n best h = found_case u us n best (eqb u 47) (has_slash us) refl h (λ m e. some_slash us (n + 1) m e)

take_case : (u : ℕ) (us : List ℕ) (c : Bool) → take (length (package_in us)) us ≡ package_in us → take (length (if c then u ∷ package_in us else [])) (u ∷ us) ≡ (if c then u ∷ package_in us else [])
take_case u us true h = ap (λ xs. u ∷ xs) h
take_case u us false h = refl

package_take : (us : List ℕ) → take (length (package_in us)) us ≡ package_in us
package_take [] = refl
package_take (u ∷ us) = take_case u us (has_slash us) (package_take us)

empty_case : (u : ℕ) (us : List ℕ) (b c : Bool) → has_slash us ≡ c → (b || c) ≡ false → (if c then u ∷ package_in us else []) ≡ []
empty_case u us true c e h = absurd (false≢true (sym h))
empty_case u us false true e h = absurd (false≢true (sym h))
empty_case u us false false e h = refl

no_package : (us : List ℕ) → has_slash us ≡ false → package_in us ≡ []
no_package [] h = refl
no_package (u ∷ us) h = empty_case u us (eqb u 47) (has_slash us) refl h

-- the package is what stands before the last /
pub before_last : (us : List ℕ) → take (last_slash 0 0 us) us ≡ package_in us
before_last us =
    elim (cases_Bool (has_slash us)) [
      | inl e ↦ let same : 0 + length (package_in us) ≡ length (package_in us) = omega arith in ap (λ n. take n us) (some_slash us 0 0 e ∙ same) ∙ package_take us
      | inr e ↦ ap (λ n. take n us) (no_slash us 0 0 e) ∙ sym (no_package us e)
    ]

long_case : (n best : ℕ) (b : Bool) → best ≤ n → (if b then n else best) ≤ n + 1
long_case n best true h = omega arith
long_case n best false h = omega (arith, h)

-- it stands within the units
pub within : (us : List ℕ) (n best : ℕ) → best ≤ n → last_slash n best us ≤ n + length us
within [] n best h = omega (arith, h)
within (u ∷ us) n best h = let m = within us (n + 1) (if eqb u 47 then n else best) (long_case n best (eqb u 47) h) in omega (arith, m)

-- one unit further
pub next_slash : (us : List ℕ) (i best : ℕ) (d : ℕ) → i < length us → last_slash i best (drop i us) ≡ last_slash (i + 1) (if eqb (get_or us i d) 47 then i else best) (drop (i + 1) us)
next_slash us i best d lt =
    let next : suc i ≡ i + 1 = omega arith in
    ap (last_slash i best) (drop-cons us i d lt) ∙ ap (λ k. last_slash (i + 1) (if eqb (get_or us i d) 47 then i else best) (drop k us)) next

-- behind the last unit
pub at_end : (us : List ℕ) (i best : ℕ) → length us ≤ i → last_slash i best (drop i us) ≡ best
at_end us i best h = ap (last_slash i best) (drop_of_length-le us h)
