use Rattle.std.proofs.Common.{◌≡◌, take, drop}
use Rattle.descriptors.specs.Parsing.{split_in}
use Rattle.descriptors.proofs.TypeLemmas.{split_after}
use Rattle.descriptors.proofs.descriptor.split_at_semicolon.Given as goal

abbrev pub invariant-loop-i : goal.invariant-loop-i
invariant-loop-i l = split_after (take l.i l.units) (split_in (drop l.i l.units)) ≡ split_in l.units
