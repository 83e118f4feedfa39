-- The first value that leaves a loop, by how far the values have moved.
use Rattle.std.proofs.Common.{◌≡◌, ◌↔◌, ℕ, suc, ◌*◌, ◌^◌, ◌<◌, ◌≤◌, Bool, true, false, ℤ, pos, negsuc, Option, Some, None, refl, sym, ap, ◌∙◌, subst, arith}
use Rattle.std.specs.Prelude.{FitsSigned, IfSome}
use Rattle.std.specs.Int.{w32}
use Rattle.std.proofs.lemmas.Bool.{both_ways}
use Rattle.std.proofs.lemmas.Int.{ints}
use Rattle.std.proofs.Math.Nat.{mul-le-mul_left, mul-le-mul_right}
use Rattle.loop_rules.specs.Values.{value_at, IsFirstOut}
use Rattle.loop_acts.specs.Values.{value_by, IsFirstMove, IsMove, IsFirst}

-- ---- values by distances

pub value_up : (first : ℤ) (t k : ℕ) → value_at first (pos t) k ≡ value_by true first (k * t)
value_up first t k = refl

pub value_down : (first : ℤ) (u k : ℕ) → value_at first (negsuc u) k ≡ value_by false first (k * suc u)
value_down first u k = refl

not_true : (b : Bool) → (b ≡ true → ⊥) → b ≡ false
not_true true h = absurd (h refl)
not_true false h = refl

module _ (first s : ℤ) (up : Bool) (size room : ℕ) (out : ℤ → Bool) (same : (k : ℕ) → value_at first s k ≡ value_by up first (k * size)) (fits : (x : ℕ) → FitsSigned w32 (value_by up first x) ↔ (x ≤ room)) where
  abbrev pub Out : ℕ → Type 0
  Out x = out (value_by up first x) ≡ true

  moved : (n : ℕ) → IsFirstMove size room Out n → IsFirstOut first s out n
  moved n is = record {
    ints = λ k le.
        let more : k * size ≤ n * size = mul-le-mul_right size le in
        let within = is.within in
        let inside : k * size ≤ room = omega arith in
        subst (λ (z : ℤ). FitsSigned w32 z) (sym (same k)) ((fits (k * size)).1 inside);
    leaves = ap out (same n) ∙ is.out;
    stays = λ k less. ap out (same k) ∙ not_true (out (value_by up first (k * size))) (is.before k less);
  }

  move_of : (n : ℕ) → IsFirstOut first s out n → IsFirstMove size room Out n
  move_of n is = record {
    within = (fits (n * size)).0 (subst (λ (z : ℤ). FitsSigned w32 z) (same n) (is.ints n (omega arith)));
    out = sym (ap out (same n)) ∙ is.leaves;
    before = λ k less at. both_ways (out (value_at first s k)) (is.stays k less) (ap out (same k) ∙ at);
  }

  pub first_is : (o : Option ℕ) → IsMove size room Out o → IsFirst first s out o
  first_is (Some n) is = moved n is
  first_is None none = λ n is. none n (move_of n is)

pub no_int : (first s : ℤ) (out : ℤ → Bool) → (FitsSigned w32 first → ⊥) → (n : ℕ) → ¬ IsFirstOut first s out n
no_int first s out none n is =
    let at : value_at first s 0 ≡ first = omega (arith, ints) in
    none (subst (λ (z : ℤ). FitsSigned w32 z) at (is.ints 0 (omega arith)))

-- the number fits 32 bits
pub few_moves : (size room : ℕ) (Out : ℕ → Type 0) (o : Option ℕ) → 0 < size → room < 2 ^ 32 → IsMove size room Out o → IfSome o (λ n. n < 2 ^ 32)
few_moves size room Out None some small h = tt
few_moves size room Out (Some n) some small h =
    let within = h.within in
    let more : n * 1 ≤ n * size = mul-le-mul_left n some in
    omega arith
