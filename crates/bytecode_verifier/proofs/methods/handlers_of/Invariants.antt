use Rattle.std.proofs.Common.{◌≡◌, ◌++◌, drop, map, Some}
use Rattle.std.specs.Prelude.{slice_get}
use Rattle.class_pool.specs.declared.class.ClassFile.{ClassFile}
use Rattle.program_tables.specs.Meanings.{handler_seen}
use Rattle.program_tables.specs.Resolved.{handler_of}
use Rattle.bytecode_verifier.proofs.methods.handlers_of.Given as goal

abbrev pub invariant-loop-entry : goal.invariant-loop-entry
invariant-loop-entry l = (c : ClassFile) → slice_get l.program l.class ≡ Some c → map handler_seen l.handlers.items ++ map (handler_of l.program c) (drop l.entry-index l.entries) ≡ map (handler_of l.program c) l.entries
