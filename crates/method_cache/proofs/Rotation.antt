-- A ring as a list that begins at one of its places.
use Rattle.std.proofs.Common.{◌≡◌, ℕ, ◌+◌, ◌-◌, ◌%◌, ◌<◌, ◌≤◌, ◌⊎◌, List, [], ◌∷◌, ◌++◌, length, get_or, take, drop, set, ap, sym, ◌∙◌, inl, inr, mod-eq_of_lt, arith, length-append, length-drop, length-set, length-take-le, get_or-drop, get_or-take}
use native.Mathlib.Nat.{mod-eq-sub-mod}
use Rattle.std.proofs.lemmas.List.{same_lists, drop_more, get_or_append_left, get_or-append_right, get_or-set_same, get_or-set_other, set_at, append_assoc}
use Rattle.std.proofs.lemmas.Bool.{cases_lt, cases_eq}
use Rattle.method_cache.specs.Ring.{rotated}

-- a place below 2 n wraps once at most
pub mod_wraps_once : (n j : ℕ) → j < n + n → ((j < n) × (j % n ≡ j)) ⊎ ((n ≤ j) × (j % n ≡ j - n))
mod_wraps_once n j below = elim (cases_lt j n) [
  | inl low ↦ inl (low, mod-eq_of_lt low)
  | inr high ↦ inr (high, mod-eq-sub-mod high ∙ mod-eq_of_lt (omega arith))
]

pub length-rotated : {X : Type 0} (k : ℕ) (xs : List X) → k ≤ length xs → length (rotated k xs) ≡ length xs
length-rotated k xs h =
    length-append (drop k xs) (take k xs) ∙ omega (arith, length-drop k xs, length-take-le k xs h)

-- place j of the turned ring
pub get_or-rotated : {X : Type 0} (k : ℕ) (xs : List X) → k ≤ length xs → (j : ℕ) (d : X) → j < length xs → get_or (rotated k xs) j d ≡ get_or xs ((k + j) % length xs) d
get_or-rotated k xs h j d below =
    let tail = length-drop k xs in
    elim (mod_wraps_once (length xs) (k + j) (omega arith)) [
      | inl low ↦ get_or_append_left _ _ d j (omega (arith, low.0)) ∙ get_or-drop k xs j d ∙ ap (λ (i : ℕ). get_or xs i d) (sym low.1)
      | inr high ↦ get_or-append_right _ _ (length xs - k) j d tail (omega (arith, high.0)) ∙ get_or-take k xs _ d (omega (arith, high.0)) ∙ ap (λ (i : ℕ). get_or xs i d) (omega (arith, high.1))
    ]

-- a write to the ring is a write to the turned ring
pub rotated-set : {X : Type 0} (k : ℕ) (xs : List X) (j : ℕ) (v : X) → k < length xs → j < length xs → rotated k (set xs ((k + j) % length xs) v) ≡ set (rotated k xs) j v
rotated-set {X} k xs j v h below =
    let n = length xs in
    let at = (k + j) % n in
    let ys = set xs at v in
    let same : length ys ≡ n = length-set xs at v in
    let long : length (rotated k xs) ≡ n = length-rotated k xs (omega arith) in
    let long' : length (rotated k ys) ≡ length ys = length-rotated k ys (omega arith) in
    let wrap_j = mod_wraps_once n (k + j) (omega arith) in
    same_lists _ _ (long' ∙ same ∙ sym long ∙ sym (length-set (rotated k xs) j v)) (λ i d in_range.
    let near : i < length xs = omega arith in
    let wrap_i = mod_wraps_once n (k + i) (omega arith) in
    get_or-rotated k ys (omega arith) i d (omega arith)
    ∙ ap (λ (m : ℕ). get_or ys ((k + i) % m) d) same
    ∙ elim (cases_eq i j) [
      | inl e ↦ ap (λ (m : ℕ). get_or ys ((k + m) % n) d) e ∙ get_or-set_same xs at v d (grind (arith, wrap_j)) ∙ sym (ap (λ (m : ℕ). get_or (set (rotated k xs) j v) m d) e ∙ get_or-set_same (rotated k xs) j v d (omega arith))
      | inr e ↦ get_or-set_other xs at ((k + i) % n) v d (grind (arith, wrap_i, wrap_j)) ∙ sym (get_or-rotated k xs (omega arith) i d near) ∙ sym (get_or-set_other (rotated k xs) j i v d e)
    ])

-- a turn on
pub rotated-rotated : {X : Type 0} (k s : ℕ) (xs : List X) → k < length xs → s ≤ length xs → rotated ((k + s) % length xs) xs ≡ rotated s (rotated k xs)
rotated-rotated {X} k s xs h t =
    let n = length xs in
    let ys = rotated k xs in
    let long : length ys ≡ n = length-rotated k xs (omega arith) in
    let e = (k + s) % n in
    let wrap_s = mod_wraps_once n (k + s) (omega arith) in
    let e_in : e < n = grind (arith, wrap_s) in
    let left : length (rotated e xs) ≡ n = length-rotated e xs (omega arith) in
    let right : length (rotated s ys) ≡ length ys = length-rotated s ys (omega arith) in
    same_lists _ _ (left ∙ sym (right ∙ long)) (λ i d in_range.
    let near : i < n = omega arith in
    let wrap_i = mod_wraps_once n (s + i) (omega arith) in
    let a = (s + i) % n in
    let a_in : a < n = grind (arith, wrap_i) in
    let wrap_a = mod_wraps_once n (k + a) (omega arith) in
    let wrap_e = mod_wraps_once n (e + i) (omega arith) in
    let places : (e + i) % n ≡ (k + a) % n = grind (arith, wrap_s, wrap_i, wrap_a, wrap_e) in
    get_or-rotated e xs (omega arith) i d near
    ∙ ap (λ (m : ℕ). get_or xs m d) places
    ∙ sym (get_or-rotated s ys (omega arith) i d (omega arith) ∙ ap (λ (m : ℕ). get_or ys ((s + i) % m) d) long ∙ get_or-rotated k xs (omega arith) a d a_in))

-- one more place of the turned ring is written
pub put_more : {X : Type 0} (at : ℕ) (xs front rest : List X) (k : ℕ) (v : X) → at < length xs → k < length xs → length front ≡ k → length rest ≡ length xs → rotated at xs ≡ front ++ drop k rest → rotated at (set xs ((at + k) % length xs) v) ≡ (front ++ v ∷ []) ++ drop (k + 1) rest
put_more at xs front rest k v place below front_is rest_is was =
    rotated-set at xs k v place below
    ∙ ap (λ ys. set ys k v) (was ∙ ap (λ ys. front ++ ys) (drop_more rest k v (omega arith)))
    ∙ set_at front _ _ v k front_is
    ∙ sym (append_assoc front (v ∷ []) (drop (k + 1) rest))
