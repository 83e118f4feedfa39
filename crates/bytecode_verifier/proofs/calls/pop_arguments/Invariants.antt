use Rattle.std.proofs.Common.{◌≡◌, map, drop, reverse}
use Rattle.std.specs.Option.{option_map}
use Rattle.program_tables.specs.Meanings.{declared_seen}
use Rattle.verifier_types.specs.Frame.{operands_seen}
use Rattle.verifier_types.specs.Site.{Site}
use Rattle.bytecode_verifier.specs.Around.{StandsAt}
use Rattle.bytecode_verifier.specs.Arguments.{and_all, arguments_found}
use Rattle.bytecode_verifier.proofs.calls.pop_arguments.Given as goal

abbrev pub invariant-loop-i : goal.invariant-loop-i
invariant-loop-i l =
    (s : Site) → StandsAt l.around s
    → option_map (and_all l.all) (arguments_found s (drop l.i (reverse (map declared_seen l.parameters))) (operands_seen l.operands))
    ≡ arguments_found s (reverse (map declared_seen l.parameters)) (operands_seen l.initial.operands)
