-- The digits of numbers in texts.
use Rattle.std.proofs.Common.{◌≡◌, ℕ, ◌^◌, ◌<◌, ◌≤◌, Bool, false, List, [], ◌∷◌, arith}
use Rattle.std.specs.Prelude.{decimal}
use Rattle.std.specs.List.{AllByRecursion}
use Rattle.std.specs.Str.Parse.{AllDigits}
use Rattle.std.proofs.lemmas.Str.Parse.{tells_digits}
use Rattle.ascii_text.proofs.NumberLemmas.{HasOneSpelling-decimal}

-- a test that no code from 48 to 57 passes, no digit passes
digits_fail : (p : ℕ → Bool) → ((c : ℕ) → 48 ≤ c → c ≤ 57 → p c ≡ false) → (ds : List ℕ) → AllDigits 10 ds → AllByRecursion (λ c. p c ≡ false) ds
digits_fail p none [] h = tt
digits_fail p none (c ∷ cs) h =
    let parts = tells_digits.parts c cs h in (none c (omega (arith, parts.0)) (omega (arith, parts.0)), digits_fail p none cs parts.1)

pub decimal_fails : (p : ℕ → Bool) → ((c : ℕ) → 48 ≤ c → c ≤ 57 → p c ≡ false) → (n : ℕ) → n < 2 ^ 64 → AllByRecursion (λ c. p c ≡ false) (decimal n)
decimal_fails p none n small = digits_fail p none (decimal n) (HasOneSpelling-decimal n small).0.digits
