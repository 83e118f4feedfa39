-- What some cycles leave of a port.
use Rattle.std.proofs.Common.{◌≡◌, ℕ, zero, suc, ◌-◌, refl, arith}
use Rattle.machine_memory.specs.Timing.Port.{Port, ticked, ticked_for}

pub count-ticked_for : (n : ℕ) (p : Port) → (ticked_for n p).count ≡ p.count - n
count-ticked_for zero p = omega arith
count-ticked_for (suc n) p = omega (arith, count-ticked_for n (ticked p))

pub value-ticked_for : (n : ℕ) (p : Port) → (ticked_for n p).value ≡ p.value
value-ticked_for zero p = refl
value-ticked_for (suc n) p = value-ticked_for n (ticked p)

pub words-ticked_for : (n : ℕ) (p : Port) → (ticked_for n p).words ≡ p.words
words-ticked_for zero p = refl
words-ticked_for (suc n) p = words-ticked_for n (ticked p)
