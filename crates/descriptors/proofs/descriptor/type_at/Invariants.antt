use Rattle.std.proofs.Common.{◌≡◌, ◌≤◌, length}
use Rattle.descriptors.specs.Parsing.{type_from, type_in}
use Rattle.descriptors.proofs.descriptor.type_at.Given as goal

abbrev pub invariant-loop-after : goal.invariant-loop-after
invariant-loop-after l = (type_from l.dimensions l.rest ≡ type_in l.units) × (l.dimensions ≤ 255)

abbrev pub decreases-loop-after : goal.decreases-loop-after
decreases-loop-after l = length l.rest
