use Rattle.std.proofs.Common.{◌≡◌, ◌++◌, length, map, take, drop}
use Rattle.bytecode_typing.specs.Types.{substituted}
use Rattle.verifier_types.specs.Seen.{type_seen, types_seen}
use Rattle.verifier_types.proofs.slices.substitute.Given as goal

abbrev pub invariant-loop-i : goal.invariant-loop-i
invariant-loop-i l =
    (length l.types ≡ length l.initial.types)
    × (types_seen l.types ≡ map (substituted (type_seen l.old) (type_seen l.new)) (take l.i (types_seen l.initial.types)) ++ drop l.i (types_seen l.initial.types))
