-- Decimal numbers, computed.
use Rattle.std.proofs.Common.{◌≡◌, ℕ, zero, suc, ◌+◌, ◌*◌, ◌/◌, ◌%◌, ◌^◌, ◌<◌, ◌≤◌, Bool, true, false, List, [], ◌∷◌, ◌++◌, decimal, refl, sym, ap, ◌∙◌, arith}
use Rattle.std.specs.Prelude.{nat_lt, if◌then◌else◌}
use Rattle.std.proofs.lemmas.Bool.{ltb-true, ltb-false}
use Rattle.std.proofs.lemmas.Fmt.{decimal_digit, decimal_step}

-- with at most one digit more than this
abbrev pub digits_up : (more : ℕ) → ℕ → List ℕ
digits_up zero n = (48 + n) ∷ []
digits_up (suc k) n = if nat_lt n 10 then (48 + n) ∷ [] else digits_up k (n / 10) ++ ((48 + n % 10) ∷ [])

abbrev pub digits : ℕ → List ℕ
digits n = digits_up 12 n

abbrev top : ℕ → ℕ
top zero = 10
top (suc k) = 10 * top k

tenth : (n m : ℕ) → n < 10 * m → n / 10 < m
tenth n m h = omega (arith, h)

by : (k n : ℕ) (b : Bool) → nat_lt n 10 ≡ b → n < 2 ^ 64 → (10 ≤ n → digits_up k (n / 10) ≡ decimal (n / 10)) → (if b then (48 + n) ∷ [] else digits_up k (n / 10) ++ ((48 + n % 10) ∷ [])) ≡ decimal n
by k n true h small later = sym (decimal_digit n (ltb-true n 10 h))
by k n false h small later =
    let many = ltb-false n 10 h in
    ap (λ l. l ++ ((48 + n % 10) ∷ [])) (later many) ∙ sym (decimal_step n many small)

spelled : (k n : ℕ) → n < top k → n < 2 ^ 64 → digits_up k n ≡ decimal n
spelled zero n h small = sym (decimal_digit n h)
spelled (suc k) n h small = by k n (nat_lt n 10) refl small (λ many. let fewer = tenth n (top k) h in let less : n / 10 < 2 ^ 64 = omega (arith, small) in spelled k (n / 10) fewer less)

pub digits_are : (n : ℕ) → n < 2 ^ 32 → digits n ≡ decimal n
digits_are n h = spelled 12 n (omega (arith, h)) (omega (arith, h))
