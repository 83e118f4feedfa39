-- The instructions of a method, and what they name in the pool: JVM Specification SE 8, 4.4, 4.9.1 and 6.5.
use Rattle.std.specs.Prelude.{ℕ, ◌&&◌, ◌==◌, ◌||◌, nat_le, if◌then◌else◌, Bool, true, false, List, [], Option, Some, None, unsigned_abs}
use Rattle.std.specs.Option.{option_map, option_map_or}
use Rattle.std.specs.List.{filter_map}
use Rattle.class_pool.specs.declared.entry.Entry.{Entry}
use Rattle.class_pool.specs.declared.entry.Entry.TheVariants as entries
use Rattle.class_pool.specs.Grammar.{entry_at, name_and_type_of, text_at}
use Rattle.class_pool.specs.declared.class.Member.{Member}
use Rattle.class_pool.specs.declared.class.ClassFile.{ClassFile}
use Rattle.opcodes.specs.declared.instruction.Instr.{Instr}
use Rattle.opcodes.specs.Instruction.{decoded}
use Rattle.opcodes.specs.Start.{starts_of}
use Rattle.bytecode_model.specs.Lists.{onto}
use Rattle.bytecode_model.specs.Program.{as_instr}
use Rattle.class_pool.specs.Found.{code_of}
use Rattle.class_lookup.specs.Parts.{Signature}

-- an instruction at its place
pub record Placed : Type 0 where
  pub pc : ℕ
  pub instr : Instr

abbrev pub placed_at : List ℕ → ℕ → Option Placed
placed_at code pc = option_map (λ i. record { pc = pc; instr = i }) (as_instr (decoded code pc))

-- the instructions of a code in their order, up to the first place from which it isn't a whole instruction
unfoldable pub instructions_in : List ℕ → List Placed
instructions_in code = filter_map (placed_at code) (starts_of code)

abbrev pub instructions_of : Member → List Placed
instructions_of m = option_map_or (λ k. instructions_in k.code) (code_of m) []

-- ---- what an instruction names

-- What a pool entry gives to an instruction: a constant; a class, by the index of its Class entry; a field or a method, by the index of the Class entry through
-- which it is named, and its name and descriptor; of a method, whether it is named as one of an interface.
pub data Named : Type 0 where
  Constant : Entry → Named
  Class : (class : ℕ) → Named
  Field : (class : ℕ) → Signature → Named
  Method : (of_interface : Bool) → (class : ℕ) → Signature → Named

-- the name and the descriptor of a NameAndType entry (4.4.6)
abbrev pub signature_in : List Entry → (index : ℕ) → Option Signature
signature_in pool index = option_map (λ n. record { name = text_at pool n.0; descriptor = text_at pool n.1 }) (name_and_type_of (entry_at pool index))

abbrev pub is_ldc : (op : ℕ) → Bool
is_ldc op = op == 18 || op == 19

abbrev pub is_ldc2 : (op : ℕ) → Bool
is_ldc2 op = op == 20

-- getstatic, putstatic, getfield and putfield
abbrev pub is_field_access : (op : ℕ) → Bool
is_field_access op = nat_le 178 op && nat_le op 181

-- new, anewarray, checkcast and instanceof
abbrev pub is_class_use : (op : ℕ) → Bool
is_class_use op = op == 187 || op == 189 || op == 192 || op == 193

-- invokevirtual, invokespecial and invokestatic take a method of a class
abbrev pub takes_method : (op : ℕ) → Bool
takes_method op = nat_le 182 op && nat_le op 184

-- invokeinterface takes a method of an interface, and from version 52 on so do invokespecial and invokestatic
abbrev pub takes_interface_method : (major op : ℕ) → Bool
takes_interface_method major op = op == 185 || (nat_le 52 major && (op == 183 || op == 184))

-- an entry that is no right one for the opcode names nothing
abbrev pub named_by : List Entry → (major op index : ℕ) → Entry → Option Named
named_by pool major op index (entries.Integer n) = if is_ldc op then Some (Constant (entries.Integer n)) else None
named_by pool major op index (entries.Float bits) = if is_ldc op then Some (Constant (entries.Float bits)) else None
named_by pool major op index (entries.Text units) = if is_ldc op then Some (Constant (entries.Text units)) else None
named_by pool major op index (entries.Handle kind reference) = if is_ldc op then Some (Constant (entries.Handle kind reference)) else None
named_by pool major op index (entries.MethodType descriptor) = if is_ldc op then Some (Constant (entries.MethodType descriptor)) else None
named_by pool major op index (entries.Long n) = if is_ldc2 op then Some (Constant (entries.Long n)) else None
named_by pool major op index (entries.Double bits) = if is_ldc2 op then Some (Constant (entries.Double bits)) else None
named_by pool major op index (entries.Class name) = if is_ldc op then Some (Constant (entries.Class name)) else if is_class_use op then Some
    (Class index) else None
named_by pool major op index (entries.Field owner member) = if is_field_access op then option_map (Field owner) (signature_in pool member) else None
named_by pool major op index (entries.Method owner member) = if takes_method op then option_map (Method false owner) (signature_in pool member) else None
named_by pool major op index (entries.InterfaceMethod owner member) =
    if takes_interface_method major op then option_map (Method true owner) (signature_in pool member) else None
named_by pool major op index entry = None

-- the pool index that an instruction has
abbrev pub index_of_entry : Instr → ℕ
index_of_entry i = unsigned_abs i.first

abbrev pub named_in : ClassFile → Instr → Option Named
named_in c i = onto (entry_at c.pool (index_of_entry i)) (named_by c.pool c.major i.op (index_of_entry i))
