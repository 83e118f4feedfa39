-- Which instructions may name an entry of the pool: JVM Specification SE 8, 4.9.1 and 6.5.
use Rattle.std.specs.Prelude.{◌≡◌, ℕ, ◌||◌, ◌==◌, Bool, List, None, Ok}
use Rattle.class_pool.specs.declared.class.ClassFile.{ClassFile}
use Rattle.opcodes.specs.declared.instruction.Instr.{Instr}
use Rattle.opcodes.specs.Instruction.{decoded}
use Rattle.program_tables.specs.Instructions.{is_ldc, is_ldc2, is_field_access, is_class_use, takes_method, named_in}

-- it loads a constant, accesses a field, calls a method (185 is invokeinterface), or uses a class
unfoldable pub may_name : (op : ℕ) → Bool
may_name op = is_ldc op || is_ldc2 op || is_field_access op || takes_method op || op == 185 || is_class_use op

-- the instruction at the place, if one is there, names nothing in any class
abbrev pub NamesNothingAt : List ℕ → (pc : ℕ) → Type 0
NamesNothingAt code pc = (i : Instr) → decoded code pc ≡ Ok i → (c : ClassFile) → named_in c i ≡ None

-- ---- laws

-- an instruction of another opcode names nothing
abbrev pub NamesNothing : (op : ℕ) → Type 0
NamesNothing op = (c : ClassFile) (i : Instr) → i.op ≡ op → named_in c i ≡ None

-- the byte at pc is the opcode of the instruction there, unless it is `wide` (196), behind which the opcode stands
abbrev pub IsOpcodeAt : List ℕ → (pc op : ℕ) → Type 0
IsOpcodeAt code pc op = (i : Instr) → decoded code pc ≡ Ok i → (op ≡ 196 → ⊥) → i.op ≡ op
