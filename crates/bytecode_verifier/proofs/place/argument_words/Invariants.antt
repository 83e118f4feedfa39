use Rattle.std.proofs.Common.{◌≡◌, ◌≤◌, ◌+◌, ◌*◌, drop, map}
use Rattle.std.specs.Prelude.{sum_by, if◌then◌else◌}
use Rattle.bytecode_typing.specs.Types.{type_words, type_of}
use Rattle.program_tables.specs.Meanings.{declared_seen}
use Rattle.bytecode_verifier.proofs.place.argument_words.Given as goal

abbrev pub invariant-loop-parameter : goal.invariant-loop-parameter
invariant-loop-parameter l =
    (l.words + sum_by type_words (map type_of (map declared_seen (drop l.parameter-index l.shape.parameters)))
    ≡ (if l.shape.has_this then 1 else 0) + sum_by type_words (map type_of (map declared_seen l.shape.parameters)))
    × (l.words ≤ 1 + 2 * l.parameter-index)
