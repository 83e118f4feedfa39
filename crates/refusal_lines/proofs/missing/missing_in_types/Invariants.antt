use Rattle.std.proofs.Common.{◌≡◌, take, None}
use Rattle.std.specs.List.{flat_map}
use Rattle.program_tables.specs.Kinds.{class_in_type}
use Rattle.refusal_lines.specs.Entries.{missing}
use Rattle.refusal_lines.proofs.missing.missing_in_types.Given as goal

abbrev pub invariant-loop-of : goal.invariant-loop-of
invariant-loop-of l = missing l.known.before.now l.known.files.now (flat_map class_in_type (take l.of-index l.types)) ≡ None
