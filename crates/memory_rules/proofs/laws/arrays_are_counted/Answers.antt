use Rattle.std.proofs.Common.{refl}
use Rattle.memory_rules.proofs.laws.arrays_are_counted.Goals as goal

pub returns : goal.returns
returns c = record { ints = refl; longs = refl; empty = refl; negative = refl }
