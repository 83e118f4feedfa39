-- What the pool entry means that an instruction names: JVM Specification SE 8, 4.4 and 5.4.3.
use Rattle.std.specs.Prelude.{ℕ, ◌+◌, ◌*◌, Bool, false, not, ◌&&◌, ◌==◌, if◌then◌else◌, List, Option, Some, slice_get}
use Rattle.std.specs.Int.{w32, w64, cast_signed}
use Rattle.std.specs.Option.{option_map_or}
use Rattle.class_pool.specs.declared.entry.Entry.{Entry}
use Rattle.class_pool.specs.declared.entry.Entry.TheVariants as entries
use Rattle.class_pool.specs.declared.class.Member.{Member}
use Rattle.class_pool.specs.declared.class.ClassFile.{ClassFile}
use Rattle.class_pool.specs.Grammar.{text_at}
use Rattle.opcodes.specs.declared.instruction.Instr.{Instr}
use Rattle.bytecode_model.specs.Lists.{onto, index_of}
use Rattle.bytecode_model.specs.Program.{Operand, NoOperand, AnInt, ALong, AString, AStatic, AField, AMethod, AType}
use Rattle.class_pool.specs.Found.{code_of}
use Rattle.class_lookup.specs.Parts.{Signature, class_text, is_protected}
use Rattle.class_lookup.specs.Hierarchy.{find_class, is_subclass}
use Rattle.class_lookup.specs.Lookup.{Place, field_at, method_at, same_place, find_field, find_method}
use Rattle.class_lookup.specs.Access.{are_in_one_package}
use Rattle.class_lookup.specs.Selection.{special}
use Rattle.program_tables.specs.Instructions.{placed_at, Named, Constant, Class, Field, Method, named_in}
use Rattle.program_tables.specs.Kinds.{kind_of_entry}
use Rattle.program_tables.specs.Numbers.{method_number, static_fields, instance_fields, is_static_field, string_number}

-- ---- members that instructions name (5.4.3.2 to 5.4.3.4); an array class has none

abbrev pub class_named : List ClassFile → ClassFile → (class : ℕ) → Option ℕ
class_named cs c index = find_class cs (class_text c.pool index)

abbrev pub field_named : List ClassFile → ClassFile → (class : ℕ) → Signature → Option Place
field_named cs c index s = onto (class_named cs c index) (λ n. find_field cs n s)

abbrev pub method_named : List ClassFile → ClassFile → (class : ℕ) → Signature → Option Place
method_named cs c index s = onto (class_named cs c index) (λ n. find_method cs n s)

-- the method that runs, where it is fixed by the instruction: at invokespecial (183) by the direct superclass of the current class
abbrev pub method_taken : List ClassFile → (op current named : ℕ) → Place → Option Place
method_taken cs op current named m = if op == 183 then special cs current named m else Some m

-- ---- operands

-- the number of a string's object: the objects of the errors stand first, and each string has its array before it
abbrev pub string_object : (string : ℕ) → ℕ
string_object n = 9 + 2 * n + 1

abbrev pub constant_operand : List ClassFile → List Entry → Entry → Operand
constant_operand cs pool (entries.Integer n) = AnInt (cast_signed w32 n)
constant_operand cs pool (entries.Long n) = ALong (cast_signed w64 n)
constant_operand cs pool (entries.Text units) = option_map_or (λ n. AString (string_object n)) (string_number cs (text_at pool units)) NoOperand
constant_operand cs pool entry = NoOperand

abbrev pub static_operand : List ClassFile → Place → Operand
static_operand cs f = option_map_or AStatic (index_of (same_place f) (static_fields cs)) NoOperand

abbrev pub instance_operand : List ClassFile → (named : ℕ) → Place → Operand
instance_operand cs named f = option_map_or (AField named f.0) (index_of (same_place f) (instance_fields cs f.0)) NoOperand

abbrev pub field_operand : List ClassFile → (named : ℕ) → Place → Operand
field_operand cs named f = if is_static_field cs f then static_operand cs f else instance_operand cs named f

abbrev pub method_operand : List ClassFile → (named : ℕ) → Option Place → Operand
method_operand cs named m = option_map_or (AMethod named) (onto m (method_number cs)) NoOperand

-- what is named by an instruction with this opcode in a class of this number
abbrev pub operand_by : List ClassFile → (current : ℕ) → ClassFile → (op : ℕ) → Named → Operand
operand_by cs current c op (Constant entry) = constant_operand cs c.pool entry
operand_by cs current c op (Class index) = option_map_or AType (kind_of_entry cs c.pool index) NoOperand
operand_by cs current c op (Field index s) = option_map_or (λ n. option_map_or (field_operand cs n) (find_field cs n s) NoOperand)
    (class_named cs c index) NoOperand
operand_by cs current c op (Method of_interface index s) =
    option_map_or (λ n. method_operand cs n (onto (find_method cs n s) (method_taken cs op current n))) (class_named cs c index) NoOperand

abbrev pub operand_in : List ClassFile → (current : ℕ) → ClassFile → Instr → Operand
operand_in cs current c i = option_map_or (operand_by cs current c i.op) (named_in c i) NoOperand

-- ---- protected members of superclasses in other packages (4.10.1.8)

abbrev pub is_guarded_member : List ClassFile → (current : ℕ) → Option Place → Option Member → Bool
is_guarded_member cs current (Some p) (Some m) = is_protected m && is_subclass cs current p.0 && not (are_in_one_package cs current p.0)
is_guarded_member cs current p m = false

abbrev pub guarded_by : List ClassFile → (current : ℕ) → ClassFile → Named → Bool
guarded_by cs current c (Field index s) = let f = field_named cs c index s in is_guarded_member cs current f (onto f (field_at cs))
guarded_by cs current c (Method of_interface index s) = let m = method_named cs c index s in is_guarded_member cs current m (onto m (method_at cs))
guarded_by cs current c named = false

abbrev pub guarded_in : List ClassFile → (current : ℕ) → ClassFile → Instr → Bool
guarded_in cs current c i = option_map_or (guarded_by cs current c) (named_in c i) false

-- ---- at a place of a method

-- what is said of the instruction at a place of the method, by its class's number and its class
abbrev pub at_instruction : {A : Type 0} → List ClassFile → Place → (pc : ℕ) → (none : A) → ((current : ℕ) → ClassFile → Instr → A) → A
at_instruction cs m pc none say =
    option_map_or (λ c. option_map_or (λ p. say m.0 c p.instr) (onto (onto (method_at cs m) code_of) (λ k. placed_at k.code pc)) none) (slice_get cs m.0) none
