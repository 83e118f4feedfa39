use Rattle.std.proofs.Common.{◌≡◌, ℕ, List, Some, map}
use Rattle.std.specs.Prelude.{slice_get}
use Rattle.std.specs.List.{range_with_len}
use Rattle.class_pool.specs.declared.class.ClassFile.{ClassFile}
use Rattle.opcodes.specs.declared.instruction.Instr.{Instr}
use Rattle.image_layout.specs.Uses.{use_of}
use Rattle.image_layout.proofs.UseLemmas.{before_place}
use Rattle.image_layout.proofs.uses.note_code.Given as goal

abbrev pub invariant-loop-pc : goal.invariant-loop-pc
invariant-loop-pc l =
    (k : ClassFile) (before : List Instr) (many : ℕ) → slice_get l.program l.number ≡ Some k → l.fn.uses.items ≡ map (use_of l.program l.number k before) (range_with_len 0 many)
    → l.uses.items ≡ map (use_of l.program l.number k (before_place before l.code l.pc-items l.pc-index)) (range_with_len 0 many)
