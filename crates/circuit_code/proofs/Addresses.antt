-- Places that are counted on, sums, and what follows a microinstruction.
use Rattle.std.proofs.Common.{◌≡◌, ℕ, ◌+◌, ◌%◌, ◌^◌, Bool, if◌then◌else◌, ◌∙◌, ap}

-- a place so far behind another one, in so many bits
pub ahead : {r x w : ℕ} (n k bits : ℕ) → r ≡ (x + k) % 2 ^ w → w ≡ bits → x ≡ n → r ≡ (n + k) % 2 ^ bits
ahead {r} {x} {w} n k bits e width p = e ∙ ap (λ v. (x + k) % 2 ^ v) width ∙ ap (λ m. (m + k) % 2 ^ bits) p

pub summed : {r x y w : ℕ} (a b bits : ℕ) → r ≡ (x + y) % 2 ^ w → w ≡ bits → x ≡ a → y ≡ b → r ≡ (a + b) % 2 ^ bits
summed {r} {x} {y} {w} a b bits e width p q =
    e ∙ ap (λ v. (x + y) % 2 ^ v) width ∙ ap (λ m. (m + y) % 2 ^ bits) p ∙ ap (λ m. (a + m) % 2 ^ bits) q

-- the target of a branch, a row's beginning, or what comes behind
pub following : {r x y u v : ℕ} (taken dispatches : Bool) (target : ℕ) → r ≡ (if taken then target else if dispatches then x else y) → x ≡ u → y ≡ v
    → r ≡ (if taken then target else if dispatches then u else v)
following {r} {x} {y} {u} {v} taken dispatches target e p q =
    e ∙ ap (λ n. if taken then target else if dispatches then n else y) p ∙ ap (λ n. if taken then target else if dispatches then u else n) q

-- a place that is popped, or that of the next byte
pub popped_or : {r x y u v : ℕ} (at_a : Bool) → r ≡ (if at_a then x % 2 ^ 16 else y) → x ≡ u → y ≡ v → r ≡ (if at_a then u % 2 ^ 16 else v)
popped_or {r} {x} {y} {u} {v} at_a e p q = e ∙ ap (λ n. if at_a then n % 2 ^ 16 else y) p ∙ ap (λ n. if at_a then u % 2 ^ 16 else n) q
