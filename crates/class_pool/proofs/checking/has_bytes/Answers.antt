use Rattle.std.proofs.Common.{refl, arith}
use Rattle.class_pool.proofs.CheckLemmas.{counted_all, are_units}
use Rattle.class_pool.proofs.checking.has_bytes.Goals as goal

pub returns : goal.returns
returns c = (λ t. (are_units c.args.units.now (λ i. omega (arith, c.type_inv.units i)), counted_all c.args.units.now c.loop-unit.unit-index c.loop-unit.total c.loop-unit-test.false c.loop-unit.invariant), λ h. refl)
