-- Operators worked out in 64 and 128 bits.
use Rattle.std.proofs.Common.{◌≡◌, ℕ, ◌+◌, ◌-◌, ◌*◌, ◌/◌, ◌%◌, ◌^◌, ◌<◌, ◌≤◌, sym, ap, ◌∙◌, arith}
use Rattle.std.proofs.lemmas.Nat.{pow_pos, pow-add}
use Rattle.std.proofs.Math.Nat.{mod-lt, div-eq_of_lt, mul-mod_left, mul-le-mul, mul_assoc, pow-le-pow_right}

pub power_fits : (width : ℕ) → width ≤ 64 → 2 ^ width ≤ 2 ^ 64
power_fits width le = let some : 0 < 2 = omega arith in pow-le-pow_right some le

pub low_fits : (x width : ℕ) → width ≤ 64 → x % 2 ^ width < 2 ^ 64
low_fits x width le =
    let below : x % 2 ^ width < 2 ^ width = mod-lt x (pow_pos width) in
    let up : 2 ^ width ≤ 2 ^ 64 = power_fits width le in
    omega (arith, below, up)

pub product_fits : (x y : ℕ) → x < 2 ^ 64 → y < 2 ^ 64 → x * y < 2 ^ 128
product_fits x y hx hy =
    let first : x ≤ 18446744073709551615 = omega (arith, hx) in
    let second : y ≤ 18446744073709551615 = omega (arith, hy) in
    let below : x * y ≤ 18446744073709551615 * 18446744073709551615 = mul-le-mul first second in
    omega (arith, below)

-- moved up by as many bits as there are, or more
pub all_moved_up : (x by width : ℕ) → width ≤ 64 → 64 ≤ by → 0 ≡ (x * 2 ^ by) % 2 ^ width
all_moved_up x by width le ge =
    let rest : ℕ = by - width in
    let sum : by ≡ rest + width = omega (arith, le, ge) in
    sym (ap (λ m. x * 2 ^ m % 2 ^ width) sum ∙ ap (λ m. x * m % 2 ^ width) (pow-add 2 rest width)
    ∙ ap (λ m. m % 2 ^ width) (sym (mul_assoc x (2 ^ rest) (2 ^ width))) ∙ mul-mod_left (x * 2 ^ rest) (2 ^ width))

-- moved down by as many bits as there are, or more
pub all_moved_down : (x by : ℕ) → x < 2 ^ 64 → 64 ≤ by → 0 ≡ x / 2 ^ by
all_moved_down x by lt ge =
    let some : 0 < 2 = omega arith in
    let up : 2 ^ 64 ≤ 2 ^ by = pow-le-pow_right some ge in
    sym (div-eq_of_lt (omega (arith, lt, up)))
