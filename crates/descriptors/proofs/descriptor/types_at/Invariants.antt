use Rattle.std.proofs.Common.{◌≡◌, ◌-◌, length}
use Rattle.descriptors.specs.Parsing.{types_in}
use Rattle.descriptors.proofs.TypeLemmas.{types_after}
use Rattle.descriptors.proofs.descriptor.types_at.Given as goal

abbrev pub invariant-loop : goal.invariant-loop
invariant-loop l = types_after l.types.items (types_in (length l.units - l.counter) l.rest) ≡ types_in (length l.units) l.units
