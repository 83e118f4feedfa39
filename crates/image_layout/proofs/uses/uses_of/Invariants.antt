use Rattle.std.proofs.Common.{◌≡◌, ◌+◌, Some, length, map, take}
use Rattle.std.specs.Prelude.{slice_get}
use Rattle.std.specs.List.{flat_map, range_with_len}
use Rattle.class_pool.specs.declared.class.ClassFile.{ClassFile}
use Rattle.program_tables.specs.Instructions.{instructions_of}
use Rattle.image_layout.specs.Uses.{instr_of, use_of}
use Rattle.image_layout.proofs.uses.uses_of.Given as goal

abbrev pub invariant-loop-method : goal.invariant-loop-method
invariant-loop-method l =
    (k : ClassFile) → slice_get l.program l.number ≡ Some k
    → l.uses.items ≡ map (use_of l.program l.number k (map instr_of (flat_map instructions_of (take l.method-index k.methods)))) (range_with_len 0 (1 + length k.pool))
