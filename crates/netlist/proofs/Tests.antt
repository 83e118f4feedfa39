-- What the tests of a netlist's parts tell.
use Rattle.std.proofs.Common.{◌≡◌, ℕ, ◌+◌, ◌*◌, ◌/◌, ◌^◌, ◌<◌, ◌≤◌, ◌↔◌, subst, arith}
use Rattle.std.specs.Prelude.{IsTrue, nat_eq, nat_le}
use Rattle.std.proofs.lemmas.Bool.{eqb-true, eq-eqb, le-leb}
use Rattle.std.proofs.lemmas.Nat.{pow_pos}
use Rattle.std.proofs.Math.Nat.{div-eq_of_lt, lt-div-mul-add, pow-le-pow_right}

pub wide_fits : (word width : ℕ) → word < 2 ^ 64 → 64 ≤ width → IsTrue (nat_le 64 width) ↔ (word < 2 ^ width)
wide_fits word width h wide =
    let some : 0 < 2 = omega arith in
    let more : 2 ^ 64 ≤ 2 ^ width = pow-le-pow_right some wide in
    ((λ t. omega (arith, h, more)), (λ lt. le-leb 64 width wide))

pub shifted_out : (word width : ℕ) → IsTrue (nat_eq (word / 2 ^ width) 0) ↔ (word < 2 ^ width)
shifted_out word width = (
  (λ e. let some = pow_pos width in
      let zero_is : word / 2 ^ width ≡ 0 = eqb-true (word / 2 ^ width) 0 e in
      let below : word < word / 2 ^ width * 2 ^ width + 2 ^ width = lt-div-mul-add some in
      let Below : ℕ → Type 0 = λ n. word < n * 2 ^ width + 2 ^ width in
      let it : word < 0 * 2 ^ width + 2 ^ width = subst Below zero_is below in
      omega (arith, it)),
  (λ lt. eq-eqb (word / 2 ^ width) 0 (div-eq_of_lt lt)),
)
