use Rattle.std.proofs.Common.{◌≡◌, drop}
use Rattle.program_tables.specs.Resolved.{resolved}
use Rattle.bytecode_typing.specs.Tests.{all_two}
use Rattle.bytecode_typing.specs.Assignable.{is_assignable_item}
use Rattle.verifier_types.specs.Seen.{types_seen}
use Rattle.verifier_types.proofs.assignable.are_assignable_items.Given as goal

abbrev pub invariant-loop-i : goal.invariant-loop-i
invariant-loop-i l =
    all_two (is_assignable_item (resolved l.classes)) (types_seen (drop l.i l.from)) (types_seen (drop l.i l.to)) ≡ all_two (is_assignable_item (resolved l.classes)) (types_seen l.from) (types_seen l.to)
