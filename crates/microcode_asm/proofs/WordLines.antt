-- One line more.
use Rattle.std.proofs.Common.{◌≡◌, ℕ, zero, suc, ◌+◌, ◌<◌, List, [], ◌∷◌, ◌++◌, length, take, get_or, sym, ap, ◌∙◌, subst, arith, add-one, append-nil, append_assoc}
use Rattle.microcode_asm.specs.Listing.{word_line, lines_from, listing_of}

from_suc : (a : ℕ) (ws : List ℕ) (i d : ℕ) → i < length ws → lines_from a (take (suc i) ws) ≡ lines_from a (take i ws) ++ word_line (a + i) (get_or ws i d)
from_suc a [] i d within = absurd (omega (arith, within))
from_suc a (w ∷ ws) zero d within =
    let P : ℕ → Type 0 = λ n. word_line a w ++ [] ≡ word_line n w in
    subst P (let e : a ≡ a + 0 = omega arith in e) (append-nil (word_line a w))
from_suc a (w ∷ ws) (suc i) d within =
    let P : ℕ → Type 0 = λ n. word_line a w ++ lines_from (suc a) (take (suc i) ws) ≡ (word_line a w ++ lines_from (suc a) (take i ws)) ++ word_line n (get_or ws i d) in
    let n_is : suc a + i ≡ a + suc i = omega arith in
    subst P n_is (ap (λ text. word_line a w ++ text) (from_suc (suc a) ws i d (omega (arith, within))) ∙ sym (append_assoc (word_line a w) (lines_from (suc a) (take i ws)) (word_line (suc a + i) (get_or ws i d))))

pub one_more : (ws : List ℕ) (i d : ℕ) → i < length ws → listing_of (take (i + 1) ws) ≡ listing_of (take i ws) ++ word_line i (get_or ws i d)
one_more ws i d within =
    let P : ℕ → Type 0 = λ k. listing_of (take k ws) ≡ listing_of (take i ws) ++ word_line i (get_or ws i d) in
    let Q : ℕ → Type 0 = λ n. listing_of (take (suc i) ws) ≡ listing_of (take i ws) ++ word_line n (get_or ws i d) in
    subst P (sym (add-one i)) (subst Q (let e : 0 + i ≡ i = omega arith in e) (from_suc 0 ws i d within))
