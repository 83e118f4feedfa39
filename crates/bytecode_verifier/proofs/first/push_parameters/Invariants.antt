use Rattle.std.proofs.Common.{◌≡◌, ◌++◌, drop, map}
use Rattle.bytecode_typing.specs.Types.{type_of}
use Rattle.program_tables.specs.Meanings.{declared_seen}
use Rattle.verifier_types.specs.Seen.{types_seen}
use Rattle.bytecode_verifier.proofs.first.push_parameters.Given as goal

abbrev pub invariant-loop-parameter : goal.invariant-loop-parameter
invariant-loop-parameter l =
    types_seen l.types.items ++ map type_of (map declared_seen (drop l.parameter-index l.parameters)) ≡ types_seen l.initial.types.items ++ map type_of (map declared_seen l.parameters)
