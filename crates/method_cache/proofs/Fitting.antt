-- What is left of the methods after a load.
use Rattle.std.proofs.Common.{◌≡◌, ℕ, ◌+◌, ◌-◌, ◌*◌, ◌<◌, ◌≤◌, Bool, true, false, cond, nat_le, eqb, List, [], ◌∷◌, ◌++◌, length, take, drop, Some, None, refl, ap, sym, subst, inl, inr, ◌∙◌, arith, length-drop}
use Rattle.std.proofs.lemmas.List.{drop-drop, drop-append-le, take-append-le}
use Rattle.std.proofs.lemmas.Bool.{cases_lt}
use Rattle.std.proofs.lemmas.Bool.Decides.{nat_tests}
use Rattle.method_cache.specs.Contents.{Entry, blocks_of, total_blocks, fitting, find_words, AreApart, HaveWords}
use Rattle.method_cache.specs.Ring.{held, laid}
use Rattle.method_cache.proofs.Held.{held-laid, blocks_for-pos, blocks_for-room}

-- `fitting` keeps a method that fits, and nothing from one that doesn't
pub fitting-fits : (w room : ℕ) (e : Entry) (es : List Entry) → blocks_of w e ≤ room → fitting w room (e ∷ es) ≡ e ∷ fitting w (room - blocks_of w e) es
fitting-fits w room e es h = ap (λ b. cond b (e ∷ fitting w (room - blocks_of w e) es) []) (let t : nat_le (blocks_of w e) room ≡ true = grind (arith, nat_tests) in t)

pub fitting-full : (w room : ℕ) (e : Entry) (es : List Entry) → room < blocks_of w e → fitting w room (e ∷ es) ≡ []
fitting-full w room e es h = ap (λ b. cond b (e ∷ fitting w (room - blocks_of w e) es) []) (let t : nat_le (blocks_of w e) room ≡ false = grind (arith, nat_tests) in t)

-- what fits, fits
pub total_blocks-fitting : (w room : ℕ) (es : List Entry) → total_blocks w (fitting w room es) ≤ room
total_blocks-fitting w room [] = omega arith
total_blocks-fitting w room (e ∷ es) =
    let P : List Entry → Type 0 = λ fs. total_blocks w fs ≤ room in
    elim (cases_lt room (blocks_of w e)) [
      | inl full ↦ subst P (sym (fitting-full w room e es full)) (omega arith)
      | inr fits ↦ subst P (sym (fitting-fits w room e es fits)) (omega (arith, total_blocks-fitting w (room - blocks_of w e) es))
    ]

-- it is part of what there was
pub total_blocks-fitting-le : (w room : ℕ) (es : List Entry) → total_blocks w (fitting w room es) ≤ total_blocks w es
total_blocks-fitting-le w room [] = omega arith
total_blocks-fitting-le w room (e ∷ es) =
    let P : List Entry → Type 0 = λ fs. total_blocks w fs ≤ total_blocks w (e ∷ es) in
    elim (cases_lt room (blocks_of w e)) [
      | inl full ↦ subst P (sym (fitting-full w room e es full)) (omega arith)
      | inr fits ↦ subst P (sym (fitting-fits w room e es fits)) (omega (arith, total_blocks-fitting-le w (room - blocks_of w e) es))
    ]

-- what isn't found in a list isn't found behind the same method in another
found_later : (m : ℕ) (e : Entry) (es fs : List Entry) → find_words m (e ∷ es) ≡ None → (find_words m es ≡ None → find_words m fs ≡ None) → find_words m (e ∷ fs) ≡ None
found_later m e es fs h step =
    let P : Bool → Type 0 = λ b. cond b (Some e.words) (find_words m es) ≡ None → cond b (Some e.words) (find_words m fs) ≡ None in
    elim (eqb e.method m) as P [
      | true ↦ λ k. let bad : ⊥ = cc in absurd bad
      | false ↦ λ k. step k
    ] h

pub find_words-fitting : (w room m : ℕ) (es : List Entry) → find_words m es ≡ None → find_words m (fitting w room es) ≡ None
find_words-fitting w room m [] h = refl
find_words-fitting w room m (e ∷ es) h =
    let rest = fitting w (room - blocks_of w e) es in
    let P : List Entry → Type 0 = λ fs. find_words m fs ≡ None in
    elim (cases_lt room (blocks_of w e)) [
      | inl full ↦ subst P (sym (fitting-full w room e es full)) refl
      | inr fits ↦ subst P (sym (fitting-fits w room e es fits)) (found_later m e es rest h (find_words-fitting w (room - blocks_of w e) m es))
    ]

pub AreApart-fitting : (w room : ℕ) (es : List Entry) → AreApart es → AreApart (fitting w room es)
AreApart-fitting w room [] h = tt
AreApart-fitting w room (e ∷ es) h =
    elim (cases_lt room (blocks_of w e)) [
      | inl full ↦ subst AreApart (sym (fitting-full w room e es full)) tt
      | inr fits ↦ subst AreApart (sym (fitting-fits w room e es fits)) (find_words-fitting w (room - blocks_of w e) e.method es h.0, AreApart-fitting w (room - blocks_of w e) es h.1)
    ]

pub HaveWords-fitting : (w room : ℕ) (es : List Entry) → HaveWords es → HaveWords (fitting w room es)
HaveWords-fitting w room [] h = tt
HaveWords-fitting w room (e ∷ es) h =
    elim (cases_lt room (blocks_of w e)) [
      | inl full ↦ subst HaveWords (sym (fitting-full w room e es full)) tt
      | inr fits ↦ subst HaveWords (sym (fitting-fits w room e es fits)) (h.0, HaveWords-fitting w (room - blocks_of w e) es h.1)
    ]

-- nothing fits into no block
pub fitting-zero : (w : ℕ) (es : List Entry) → 0 < w → HaveWords es → fitting w 0 es ≡ []
fitting-zero w [] some h = refl
fitting-zero w (e ∷ es) some h = fitting-full w 0 e es (blocks_for-pos w (length e.words) some h.0)

-- n words at one place of a list, whether or not others went away before them and came behind
words_stay : (ws new : List ℕ) (n gone left all : ℕ) → gone + left ≡ all → all + n ≤ length ws → take n (drop left (drop gone ws ++ new)) ≡ take n (drop all ws)
words_stay ws new n gone left all sums long =
    let tail = length-drop gone ws in
    let rest = length-drop all ws in
    ap (take n) (drop-append-le left (drop gone ws) new (omega arith) ∙ ap (λ us. us ++ new) (drop-drop left gone ws ∙ ap (λ (k : ℕ). drop k ws) sums))
    ∙ take-append-le n (drop all ws) new (omega arith)

-- a method that stays, and those that stay behind it
held-kept : (w : ℕ) (e : Entry) (es kept : List Entry) (ws new : List ℕ) → 0 < w → 0 < length e.words → total_blocks w (e ∷ es) * w ≤ length ws → held w (laid w (e ∷ es)) ws ≡ e ∷ es → total_blocks w kept ≤ total_blocks w es → (total_blocks w es * w ≤ length ws → held w (laid w es) ws ≡ es → held w (laid w kept) (drop ((total_blocks w es - total_blocks w kept) * w) ws ++ new) ≡ kept) → held w (laid w (e ∷ kept)) (drop ((total_blocks w (e ∷ es) - total_blocks w (e ∷ kept)) * w) ws ++ new) ≡ e ∷ kept
held-kept w e es kept ws new some has long was le later =
    let b = blocks_of w e in
    let n = length e.words in
    let all = total_blocks w es in
    let left = total_blocks w kept in
    let gone = all - left in
    let some_blocks : 0 < b = blocks_for-pos w n some has in
    let room : n ≤ b * w = blocks_for-room w n some in
    let us = drop (gone * w) ws ++ new in
    let split = held-laid w e es ws some_blocks in
    let newest : record { method = e.method; words = take n (drop (all * w) ws) } ≡ e = cc in
    let others : held w (laid w es) ws ≡ es = cc in
    let sums : gone * w + left * w ≡ all * w =
    (let products : gone * w + left * w ≡ (gone + left) * w = omega arith in products) ∙ ap (λ (k : ℕ). k * w) (let total : gone + left ≡ all = omega arith in total) in
    let behind : all * w + n ≤ length ws = omega (arith, room, long) in
    let behind_others : all * w ≤ length ws = omega arith in
    let same_gone : (b + all) - (b + left) ≡ gone = omega arith in
    ap (λ (k : ℕ). held w (laid w (e ∷ kept)) (drop (k * w) ws ++ new)) same_gone
    ∙ held-laid w e kept us some_blocks
    ∙ ap (λ vs. record { method = e.method; words = vs } ∷ held w (laid w kept) us) (words_stay ws new n (gone * w) (left * w) (all * w) sums behind)
    ∙ ap (λ (f : Entry). f ∷ held w (laid w kept) us) newest
    ∙ ap (λ (fs : List Entry). e ∷ fs) (later behind_others others)

-- the words of the methods that are left stay, since only blocks before theirs are given away and new ones are put behind
pub held-fitting : (w room : ℕ) (es : List Entry) (ws new : List ℕ) → 0 < w → HaveWords es → total_blocks w es * w ≤ length ws → held w (laid w es) ws ≡ es → let kept = fitting w room es in held w (laid w kept) (drop ((total_blocks w es - total_blocks w kept) * w) ws ++ new) ≡ kept
held-fitting w room [] ws new some h long was = refl
held-fitting w room (e ∷ es) ws new some h long was =
    let b = blocks_of w e in
    let kept = fitting w (room - b) es in
    let le = total_blocks-fitting-le w (room - b) es in
    let P : List Entry → Type 0 = λ fs. held w (laid w fs) (drop ((total_blocks w (e ∷ es) - total_blocks w fs) * w) ws ++ new) ≡ fs in
    elim (cases_lt room b) [
      | inl full ↦ subst P (sym (fitting-full w room e es full)) refl
      | inr fits ↦ subst P (sym (fitting-fits w room e es fits)) (held-kept w e es kept ws new some h.0 long was le (held-fitting w (room - b) es ws new some h.1))
    ]
