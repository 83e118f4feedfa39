use Rattle.std.proofs.Common.{◌≡◌, ◌++◌, take}
use Rattle.image_builder.proofs.writing.add_units.Given as goal

abbrev pub invariant-loop-unit : goal.invariant-loop-unit
invariant-loop-unit l = l.words.items ≡ l.fn.words.items ++ take l.unit-index l.units
