-- One more of the items with their numbers.
use Rattle.std.proofs.Common.{◌≡◌, ℕ, zero, suc, ◌+◌, ◌<◌, List, [], ◌∷◌, ◌++◌, length, take, get_or, sym, ap, ◌∙◌, subst, arith, add-one, append-nil, append_assoc}
use Rattle.std.specs.Prelude.{Result, Ok, Err, OnOk}
use Rattle.microcode_listing.specs.Listing.{numbered}

from_suc : (text : ℕ → ℕ → List ℕ) (a : ℕ) (xs : List ℕ) (i d : ℕ) → i < length xs → numbered text a (take (suc i) xs) ≡ numbered text a (take i xs) ++ text (a + i) (get_or xs i d)
unfolding numbered
from_suc text a [] i d within = absurd (omega (arith, within))
from_suc text a (x ∷ xs) zero d within =
    let P : ℕ → Type 0 = λ n. text a x ++ [] ≡ text n x in
    subst P (let e : a ≡ a + 0 = omega arith in e) (append-nil (text a x))
from_suc text a (x ∷ xs) (suc i) d within =
    let P : ℕ → Type 0 = λ n. text a x ++ numbered text (suc a) (take (suc i) xs) ≡ (text a x ++ numbered text (suc a) (take i xs)) ++ text n (get_or xs i d) in
    let n_is : suc a + i ≡ a + suc i = omega arith in
    subst P n_is (ap (λ l. text a x ++ l) (from_suc text (suc a) xs i d (omega (arith, within))) ∙ sym (append_assoc (text a x) (numbered text (suc a) (take i xs)) (text (suc a + i) (get_or xs i d))))

one_more : (text : ℕ → ℕ → List ℕ) (xs : List ℕ) (i d : ℕ) → i < length xs → numbered text 0 (take (i + 1) xs) ≡ numbered text 0 (take i xs) ++ text i (get_or xs i d)
one_more text xs i d within =
    let P : ℕ → Type 0 = λ k. numbered text 0 (take k xs) ≡ numbered text 0 (take i xs) ++ text i (get_or xs i d) in
    let Q : ℕ → Type 0 = λ n. numbered text 0 (take (suc i) xs) ≡ numbered text 0 (take i xs) ++ text n (get_or xs i d) in
    subst P (sym (add-one i)) (subst Q (let e : 0 + i ≡ i = omega arith in e) (from_suc text 0 xs i d within))

-- what stood there, and the texts of the items so far
pub put_next : (text : ℕ → ℕ → List ℕ) (xs : List ℕ) (i d : ℕ) (before now next : List ℕ) → i < length xs → now ≡ before ++ numbered text 0 (take i xs) → next ≡ now ++ text i (get_or xs i d) → next ≡ before ++ numbered text 0 (take (i + 1) xs)
put_next text xs i d before now next within so_far more =
    more ∙ (ap (λ l. l ++ text i (get_or xs i d)) so_far
    ∙ (append_assoc before (numbered text 0 (take i xs)) (text i (get_or xs i d)) ∙ ap (λ l. before ++ l) (sym (one_more text xs i d within))))

-- three texts one after another
pub put_three : {T E : Type 0} (r : Result T E) (before a b c first second next : List ℕ) → first ≡ before ++ a → second ≡ first ++ b → OnOk r (next ≡ second ++ c) → OnOk r (next ≡ before ++ (a ++ (b ++ c)))
put_three (Err e) before a b c first second next p q h = tt
put_three (Ok x) before a b c first second next p q h =
    h ∙ (ap (λ l. l ++ c) (q ∙ ap (λ l. l ++ b) p) ∙ (append_assoc (before ++ a) b c ∙ append_assoc before a (b ++ c)))
