-- What isn't supported at each place of a class file, with the place, as words that proofs open only where they need what they say.
-- For proofs alone: each is a definition of `program_tables` under another name, and no public contract's meaning rests on this file.
use Rattle.std.specs.Prelude.{◌≡◌, ℕ, Bool, List, []}
use Rattle.class_pool.specs.declared.class.Member.{Member}
use Rattle.class_pool.specs.declared.class.ClassFile.{ClassFile}
use Rattle.opcodes.specs.declared.instruction.Instr.{Instr}
use Rattle.program_tables.specs.declared.refusal.Item.{Item}
use Rattle.program_tables.specs.declared.refusal.Site.{Site}
use Rattle.program_tables.specs.declared.refusal.Site.TheVariants as sites
use Rattle.program_tables.specs.Instructions.{Placed}
use Rattle.program_tables.specs.Unsupported.{is_refused_opcode, sited, items_at_instruction, items_at_field, items_at_method, items_in_method}

unfoldable pub refused_opcode : (in_io : Bool) → (op : ℕ) → Bool
refused_opcode in_io op = is_refused_opcode in_io op

unfoldable pub instruction_items : ClassFile → Instr → List Item
instruction_items c i = items_at_instruction c i

-- an instruction with the opcode has nothing that isn't supported
abbrev pub HasNoItems : (op : ℕ) → Type 0
HasNoItems op = (c : ClassFile) (i : Instr) → i.op ≡ op → instruction_items c i ≡ []

unfoldable pub method_items : ClassFile → Member → List Item
method_items c m = items_at_method c m

unfoldable pub unsupported_at_field : ClassFile → ℕ × Member → List (Site × Item)
unsupported_at_field c e = sited (sites.Field e.0) (items_at_field c e.1)

unfoldable pub unsupported_at : ClassFile → (method : ℕ) → Placed → List (Site × Item)
unsupported_at c method p = sited (sites.Code method p.pc) (items_at_instruction c p.instr)

unfoldable pub unsupported_in_method : ClassFile → ℕ × Member → List (Site × Item)
unsupported_in_method c e = items_in_method c e
