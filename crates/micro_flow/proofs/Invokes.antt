-- Which of the invokes costs most.
use Rattle.std.proofs.Common.{◌≡◌, ℕ, suc, ◌≤◌, Bool, true, false, nat_le, max, get_or, refl, sym, subst, arith, leb-true, leb-false}
use Rattle.std.proofs.Math.Nat.{le-max_left, le-max_right, max-eq_left, max-eq_right}
use Rattle.microcode.specs.declared.TheConstants.{ENTRIES}
use Rattle.micro_flow.specs.declared.CostParams.{CostParams}
use Rattle.micro_flow.specs.Walk.{IsCost}
use Rattle.micro_flow.specs.Costs.{IsGreatestInvoke}
use Rattle.micro_flow.proofs.Ceilings.{greatest_is}

-- n is the greatest cost of the opcodes from 182 to a last one
record UpTo (p : CostParams) (last n : ℕ) : Type 0 where
  op : ℕ
  from : 182 ≤ op
  to : op ≤ last
  is : IsCost op p n
  greatest : (other c : ℕ) → 182 ≤ other → other ≤ last → IsCost other p c → c ≤ n

alone : (p : CostParams) (n : ℕ) → IsCost 182 p n → UpTo p 182 n
alone p n is = record {
  op = 182;
  from = omega arith;
  to = omega arith;
  is = is;
  greatest = λ other c from to cost.
      let here : other ≡ 182 = omega (arith, from, to) in
      let same : c ≡ n = greatest_is p (get_or ENTRIES 182 0) c n (subst (λ k. IsCost k p c) here cost) is in
      omega (arith, same);
}

-- with one opcode more
one_more : (p : CostParams) (last n d : ℕ) → UpTo p last n → IsCost (suc last) p d → UpTo p (suc last) (max n d)
one_more p last n d h is = by (nat_le d n) refl
  where
    all : (other c : ℕ) → 182 ≤ other → other ≤ suc last → IsCost other p c → c ≤ max n d
    all other c from to cost = side (nat_le other last) refl
      where
        side : (b : Bool) → nat_le other last ≡ b → c ≤ max n d
        side true e = omega (arith, h.greatest other c from (leb-true other last e) cost, le-max_left n d)
        side false e =
            let past = leb-false other last e in
            let here : other ≡ suc last = omega (arith, to, past) in
            let same = greatest_is p (get_or ENTRIES (suc last) 0) c d (subst (λ k. IsCost k p c) here cost) is in
            omega (arith, same, le-max_right n d)

    by : (b : Bool) → nat_le d n ≡ b → UpTo p (suc last) (max n d)
    by true e =
        let same = max-eq_left (leb-true d n e) in
        record { op = h.op; from = h.from; to = omega (arith, h.to); is = subst (λ k. IsCost h.op p k) (sym same) h.is; greatest = all }
    by false e =
        let past = leb-false d n e in
        let same = max-eq_right (let below : n ≤ d = omega (arith, past) in below) in
        let from = h.from in
        let to = h.to in
        record { op = suc last; from = omega arith; to = omega arith; is = subst (λ k. IsCost (suc last) p k) (sym same) is; greatest = all }

pub greatest_of_four : (p : CostParams) (a b c d n : ℕ) → IsCost 182 p a → IsCost 183 p b → IsCost 184 p c → IsCost 185 p d → n ≡ max (max (max a b) c) d → IsGreatestInvoke p n
greatest_of_four p a b c d n virtual special static interface same =
    let best = one_more p 184 (max (max a b) c) d (one_more p 183 (max a b) c (one_more p 182 a b (alone p a virtual) special) static) interface in
    subst (λ k. IsGreatestInvoke p k) (sym same)
    (record { op = best.op; invoke = record { from = best.from; to = best.to }; is = best.is; greatest = λ other c invoke cost. best.greatest other c invoke.from invoke.to cost })
