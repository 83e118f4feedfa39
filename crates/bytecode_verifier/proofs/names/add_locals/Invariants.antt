use Rattle.std.proofs.Common.{◌≡◌, ◌≤◌, ◌++◌, List, length, map, take, Some}
use Rattle.std.specs.Prelude.{slice_get}
use Rattle.class_pool.specs.declared.class.ClassFile.{ClassFile}
use Rattle.frame_types.specs.Steps.{named}
use Rattle.bytecode_typing.specs.Types.{VarType}
use Rattle.verifier_types.specs.Locals.{HasListsOf}
use Rattle.bytecode_verifier.specs.Listed.{HasLocals, words_of, types_by}
use Rattle.bytecode_verifier.proofs.names.add_locals.Given as goal

abbrev pub invariant-loop-entry : goal.invariant-loop-entry
invariant-loop-entry l =
    HasListsOf l.initial.lists l.lists
    × ((c : ClassFile) (types : List VarType) → slice_get l.of.program.now l.of.class ≡ Some c → length (words_of (types ++ types_by l.of.program.now (map (named c.pool) l.entries))) ≤ l.initial.lists.max_locals
    → HasLocals l.initial.lists l.initial.current types → HasLocals l.lists l.current (types ++ types_by l.of.program.now (map (named c.pool) (take l.entry-index l.entries))))
