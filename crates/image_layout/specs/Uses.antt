-- How the instructions of a class use the entries of its pool.
use Rattle.std.specs.Prelude.{ℕ, Bool, not, ◌&&◌, ◌||◌, ◌==◌, if◌then◌else◌, true, List, length, is_some, Option, Some, None}
use Rattle.std.specs.Option.{option_map, option_or}
use Rattle.std.specs.List.{filter, find}
use Rattle.class_pool.specs.declared.class.ClassFile.{ClassFile}
use Rattle.opcodes.specs.declared.instruction.Instr.{Instr}
use Rattle.image_facts.specs.Says.{invokespecial, invokestatic}
use Rattle.program_tables.specs.Instructions.{Placed, index_of_entry, named_in}
use Rattle.program_tables.specs.Operands.{operand_in}
use Rattle.image_words.specs.Layout.{outline_of}
use Rattle.image_words.specs.Pools.{operand_place}
use Rattle.image_layout.specs.declared.uses.Use.{Use}

abbrev pub instr_of : Placed → Instr
instr_of p = p.instr

-- it runs a method without a selection
abbrev pub is_fixed : Instr → Bool
is_fixed x = x.op == invokespecial || x.op == invokestatic

abbrev pub names_index : ClassFile → (index : ℕ) → Instr → Bool
names_index k index x = index_of_entry x == index && is_some (named_in k x)

abbrev pub use_by : List ClassFile → (class : ℕ) → ClassFile → (uses : List Instr) → Use
use_by cs c k xs = record { named = not (length xs == 0); taken = option_map (λ x. operand_place (outline_of cs) (operand_in cs c k x)) (find is_fixed xs) }

-- the use of an entry by these instructions of a class
abbrev pub use_of : List ClassFile → (class : ℕ) → ClassFile → List Instr → (index : ℕ) → Use
use_of cs c k xs index = use_by cs c k (filter (names_index k index) xs)

-- one more instruction names the entry
abbrev pub again : Use → (fixed : Option ℕ) → Use
again before fixed = record { named = true; taken = option_or before.taken fixed }

-- the place of the method that it takes without a selection
abbrev pub fixed_place : List ClassFile → (class : ℕ) → ClassFile → Instr → Option ℕ
fixed_place cs c k x = if is_fixed x then Some (operand_place (outline_of cs) (operand_in cs c k x)) else None
