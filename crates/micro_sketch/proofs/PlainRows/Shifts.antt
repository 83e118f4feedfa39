-- The shifts of longs, on numbers: a long is h * 2 ^ 32 + l, and the shift is by k bits, where P is 2 ^ k and R is 2 ^ (32 - k).
use Rattle.std.proofs.Common.{◌≡◌, ℕ, suc, ◌+◌, ◌-◌, ◌*◌, ◌/◌, ◌%◌, ◌^◌, ◌<◌, ◌≤◌, Bool, true, false, nat_lt, refl, sym, ap, ◌∙◌, arith, ltb-true, ltb-false}
use Rattle.std.proofs.Math.Nat.{mod-eq_of_lt, mod-lt, div-add-mod, mul-add-mod_self_right, mul-le-mul_right, div-mul-le_self}
use Rattle.std.proofs.lemmas.Nat.{div-mul-add}

-- a product below one of the same factor
below_product : (b R P : ℕ) → b < R → 0 < P → b * P < R * P
below_product b R P h p = let more : suc b * P ≤ R * P = mul-le-mul_right P h in omega (arith, more)

-- To the left: the low word's bits above R go over into the high one.

-- with l as a * R + b
up : (h a b P R : ℕ) → P * R ≡ 2 ^ 32 → (h * 2 ^ 32 + (a * R + b)) * P ≡ (h * P + a) * 2 ^ 32 + b * P
up h a b P R e =
    let turned : a * R * P ≡ a * (P * R) = omega arith in
    let whole : a * R * P ≡ a * 2 ^ 32 = turned ∙ ap (λ i. a * i) e in
    omega (arith, whole)

pub left_low : (h l P R : ℕ) → P * R ≡ 2 ^ 32 → 0 < P → 0 < R → (l * P) % 2 ^ 32 ≡ ((h * 2 ^ 32 + l) * P) % 2 ^ 64 % 2 ^ 32
left_low h l P R e p r = omega arith

pub left_high : (h l P R : ℕ) → P * R ≡ 2 ^ 32 → 0 < P → 0 < R → ((h * P) % 2 ^ 32 + l / R) % 2 ^ 32 ≡ ((h * 2 ^ 32 + l) * P) % 2 ^ 64 / 2 ^ 32
left_high h l P R e p r =
    let a = l / R in
    let b = l % R in
    let parts : l ≡ a * R + b = omega (arith, div-add-mod l R) in
    let few : b * P < R * P = below_product b R P (mod-lt l r) p in
    let turned : R * P ≡ P * R = omega arith in
    let low : b * P < 2 ^ 32 = omega (arith, few, turned, e) in
    let whole : (h * 2 ^ 32 + l) * P ≡ (h * P + a) * 2 ^ 32 + b * P = ap (λ i. (h * 2 ^ 32 + i) * P) parts ∙ up h a b P R e in
    omega (arith, whole, low)

-- by 32 bits more
pub left_far : (h l P : ℕ) → (l * P) % 2 ^ 32 * 2 ^ 32 ≡ ((h * 2 ^ 32 + l) * (P * 2 ^ 32)) % 2 ^ 64
left_far h l P =
    let whole : (h * 2 ^ 32 + l) * (P * 2 ^ 32) ≡ h * P * 2 ^ 64 + l * P * 2 ^ 32 = omega arith in
    omega (arith, whole)

-- To the right: the high word's bits below P go over into the low one.

-- the quotient, with h as a * P + b
pub right : (h l P R : ℕ) → P * R ≡ 2 ^ 32 → 0 < P → 0 < R → (h * 2 ^ 32 + l) / P ≡ h / P * 2 ^ 32 + (h % P * R + l / P)
right h l P R e p r =
    let a = h / P in
    let b = h % P in
    let c = l / P in
    let d = l % P in
    let parts : h ≡ a * P + b = omega (arith, div-add-mod h P) in
    let pieces : l ≡ c * P + d = omega (arith, div-add-mod l P) in
    let turned : b * (P * R) ≡ b * R * P = omega arith in
    let carry : b * 2 ^ 32 ≡ b * R * P = ap (λ i. b * i) (sym e) ∙ turned in
    let whole : h * 2 ^ 32 + l ≡ (a * 2 ^ 32 + (b * R + c)) * P + d = ap (λ i. i * 2 ^ 32 + l) parts ∙ ap (λ i. (a * P + b) * 2 ^ 32 + i) pieces ∙ omega (arith, carry) in
    ap (λ i. i / P) whole ∙ div-mul-add (a * 2 ^ 32 + (b * R + c)) P d (mod-lt l p)

-- the part that goes into the low word is one
pub low_part : (h l P R : ℕ) → P * R ≡ 2 ^ 32 → 0 < P → 0 < R → l < 2 ^ 32 → h % P * R + l / P < 2 ^ 32
low_part h l P R e p r word =
    let less = mod-lt h p in
    let over : suc (h % P) * R ≤ P * R = mul-le-mul_right R less in
    let quotient : l / P < R = (let back = div-add-mod l P in let rest = mod-lt l p in let same : P * R ≡ 2 ^ 32 = e in below_quotient l P R (omega (arith, word, e))) in
    omega (arith, over, quotient, e)
  where
    below_quotient : (l P R : ℕ) → l < P * R → l / P < R
    below_quotient l P R h = by (nat_lt (l / P) R) refl
      where
        by : (t : Bool) → nat_lt (l / P) R ≡ t → l / P < R
        by true e = ltb-true (l / P) R e
        by false e =
            let turned : R * P ≡ P * R = omega arith in
            absurd (omega (arith, mul-le-mul_right P (ltb-false (l / P) R e), div-mul-le_self l P, h, turned))

-- as the row makes it: the high word's bits, moved up by R
pub moved : (h P R : ℕ) → P * R ≡ 2 ^ 32 → 0 < P → 0 < R → (h * R) % 2 ^ 32 ≡ h % P * R
moved h P R e p r =
    let parts : h ≡ h / P * P + h % P = omega (arith, div-add-mod h P) in
    let turned : h / P * P * R ≡ h / P * (P * R) = omega arith in
    let whole : h * R ≡ h / P * 2 ^ 32 + h % P * R = ap (λ i. i * R) parts ∙ (let split : (h / P * P + h % P) * R ≡ h / P * P * R + h % P * R = omega arith in split) ∙ ap (λ i. i + h % P * R) (turned ∙ ap (λ i. h / P * i) e) in
    let over : suc (h % P) * R ≤ P * R = mul-le-mul_right R (mod-lt h p) in
    ap (λ i. i % 2 ^ 32) whole ∙ mul-add-mod_self_right (h / P) (2 ^ 32) (h % P * R) ∙ small (h % P * R) R (omega (arith, over, e)) r
  where
    small : (n R : ℕ) → n + R ≤ 2 ^ 32 → 0 < R → n % 2 ^ 32 ≡ n
    small n R h r = mod-eq_of_lt (omega (arith, h, r))

-- The shift that brings in the sign, by complements.

-- what is not a number of 32 bits, by P and R: each part is the rest of the other's
complement : (h P R a b : ℕ) → P * R ≡ 2 ^ 32 → h ≡ a * P + b → b < P → a < R → 2 ^ 32 - 1 - h ≡ (R - 1 - a) * P + (P - 1 - b)
complement h P R a b e parts below inside =
    let rest : R ≡ (R - 1 - a) + a + 1 = omega arith in
    let split : P * R ≡ (R - 1 - a) * P + a * P + P = ap (λ i. P * i) rest ∙ (let s : P * ((R - 1 - a) + a + 1) ≡ (R - 1 - a) * P + a * P + P = omega arith in s) in
    omega (arith, split, e, parts, below)

below_all : (h P R : ℕ) → P * R ≡ 2 ^ 32 → 0 < P → h < 2 ^ 32 → h / P < R
below_all h P R e p word = by (nat_lt (h / P) R) refl
  where
    by : (t : Bool) → nat_lt (h / P) R ≡ t → h / P < R
    by true f = ltb-true (h / P) R f
    by false f =
        let turned : R * P ≡ P * R = omega arith in
        absurd (omega (arith, mul-le-mul_right P (ltb-false (h / P) R f), div-mul-le_self h P, word, e, turned))

pub complement_div : (h P R : ℕ) → P * R ≡ 2 ^ 32 → 0 < P → h < 2 ^ 32 → (2 ^ 32 - 1 - h) / P ≡ R - 1 - h / P
complement_div h P R e p word =
    let parts : h ≡ h / P * P + h % P = omega (arith, div-add-mod h P) in
    let below = mod-lt h p in
    ap (λ i. i / P) (complement h P R (h / P) (h % P) e parts below (below_all h P R e p word)) ∙ div-mul-add (R - 1 - h / P) P (P - 1 - h % P) (omega (arith, below, p))

pub complement_mod : (h P R : ℕ) → P * R ≡ 2 ^ 32 → 0 < P → h < 2 ^ 32 → (2 ^ 32 - 1 - h) % P ≡ P - 1 - h % P
complement_mod h P R e p word =
    let parts : h ≡ h / P * P + h % P = omega (arith, div-add-mod h P) in
    let below = mod-lt h p in
    ap (λ i. i % P) (complement h P R (h / P) (h % P) e parts below (below_all h P R e p word)) ∙ mul-add-mod_self_right (R - 1 - h / P) P (P - 1 - h % P) ∙ mod-eq_of_lt (omega (arith, below, p))

-- the low word is that of the shift without a sign
pub signed_low : (h l P R : ℕ) → P * R ≡ 2 ^ 32 → 0 < P → 0 < R → h < 2 ^ 32 → l < 2 ^ 32
    → 2 ^ 64 - 1 - (2 ^ 64 - 1 - (h * 2 ^ 32 + l)) / P ≡ (2 ^ 32 - 1 - (2 ^ 32 - 1 - h) / P) * 2 ^ 32 + (h % P * R + l / P)
signed_low h l P R e p r high low =
    let h' = 2 ^ 32 - 1 - h in
    let l' = 2 ^ 32 - 1 - l in
    let whole : 2 ^ 64 - 1 - (h * 2 ^ 32 + l) ≡ h' * 2 ^ 32 + l' = omega arith in
    let quotient = ap (λ i. i / P) whole ∙ right h' l' P R e p r in
    let below = mod-lt h p in
    let b = h % P in
    let part : (P - 1 - b) * R ≡ 2 ^ 32 - R - b * R = (let split : P * R ≡ (P - 1 - b) * R + R + b * R = (let rest : P ≡ (P - 1 - b) + 1 + b = omega arith in ap (λ i. i * R) rest ∙ (let s : ((P - 1 - b) + 1 + b) * R ≡ (P - 1 - b) * R + R + b * R = omega arith in s)) in omega (arith, split, e)) in
    let over : suc b * R ≤ P * R = mul-le-mul_right R below in
    let l_part = below_all l P R e p low in
    let h_part = below_all h' P R e p (omega arith) in
    let little : h' % P * R + l' / P ≡ 2 ^ 32 - 1 - (b * R + l / P) =
    ap (λ i. i * R + l' / P) (complement_mod h P R e p high) ∙ ap (λ i. (P - 1 - b) * R + i) (complement_div l P R e p low) ∙ ap (λ i. i + (R - 1 - l / P)) part ∙ omega (arith, over, e, l_part, r) in
    let fits : h' / P < 2 ^ 32 = (let many : R ≤ P * R = (let one : 1 * R ≤ P * R = mul-le-mul_right R p in omega (arith, one)) in omega (arith, h_part, many, e)) in
    let small : b * R + l / P < 2 ^ 32 = omega (arith, over, e, l_part) in
    ap (λ i. 2 ^ 64 - 1 - i) (quotient ∙ ap (λ i. h' / P * 2 ^ 32 + i) little) ∙ joins (h' / P) (b * R + l / P) fits small
  where
    joins : (a c : ℕ) → a < 2 ^ 32 → c < 2 ^ 32 → 2 ^ 64 - 1 - (a * 2 ^ 32 + (2 ^ 32 - 1 - c)) ≡ (2 ^ 32 - 1 - a) * 2 ^ 32 + c
    joins a c h k = omega arith
