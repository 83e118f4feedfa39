use Rattle.std.proofs.Common.{◌≡◌, ◌++◌, drop, map, Some}
use Rattle.std.specs.Prelude.{slice_get}
use Rattle.class_pool.specs.declared.class.ClassFile.{ClassFile}
use Rattle.frame_types.specs.Steps.{named}
use Rattle.verifier_types.specs.Seen.{types_seen}
use Rattle.bytecode_verifier.specs.Listed.{types_by}
use Rattle.bytecode_verifier.proofs.names.types_of_entries.Given as goal

abbrev pub invariant-loop-entry : goal.invariant-loop-entry
invariant-loop-entry l = (c : ClassFile) → slice_get l.of.program.now l.of.class ≡ Some c
    → types_seen l.found.items ++ types_by l.of.program.now (map (named c.pool) (drop l.entry-index l.entries)) ≡ types_by l.of.program.now (map (named c.pool) l.entries)
