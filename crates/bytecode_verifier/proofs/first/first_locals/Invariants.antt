use Rattle.std.proofs.Common.{◌≡◌, ◌++◌, drop, map}
use Rattle.verifier_types.specs.Seen.{types_seen}
use Rattle.bytecode_verifier.specs.Begun.{asked_of}
use Rattle.bytecode_verifier.proofs.first.first_locals.Given as goal

abbrev pub invariant-loop-item : goal.invariant-loop-item
invariant-loop-item l = l.locals.items ++ map asked_of (types_seen (drop l.item-index l.types)) ≡ map asked_of (types_seen l.types)
