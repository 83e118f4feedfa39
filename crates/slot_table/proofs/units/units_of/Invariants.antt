use Rattle.std.proofs.Common.{◌≡◌, length}
use Rattle.class_pool.specs.Reading.{units_in}
use Rattle.class_pool.proofs.TextLemmas.{with_front}
use Rattle.slot_table.proofs.units.units_of.Given as goal

abbrev pub invariant-loop-rest : goal.invariant-loop-rest
invariant-loop-rest l = with_front l.units.items (units_in l.rest) ≡ units_in l.bytes

abbrev pub decreases-loop-rest : goal.decreases-loop-rest
decreases-loop-rest l = length l.rest
