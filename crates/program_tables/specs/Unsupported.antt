-- What this machine doesn't support, and where it stands in a class file.
use Rattle.std.specs.Prelude.{ℕ, Bool, true, false, not, ◌&&◌, ◌||◌, ◌==◌, if◌then◌else◌, List, [], ◌∷◌, ◌++◌, map, Option, Some, None, unsigned_abs}
use Rattle.std.specs.Option.{option_map_or}
use Rattle.std.specs.List.{flat_map, list_any, enumerate_from}
use Rattle.class_pool.specs.declared.entry.Entry.{Entry}
use Rattle.class_pool.specs.declared.entry.Entry.TheVariants as entries
use Rattle.descriptors.specs.declared.descriptor.Element.{Element}
use Rattle.descriptors.specs.declared.descriptor.Element.TheVariants as elements
use Rattle.descriptors.specs.declared.descriptor.FieldType.{FieldType}
use Rattle.descriptors.specs.declared.descriptor.MethodType.{MethodType}
use Rattle.descriptors.specs.Parsing.{field_in, method_in}
use Rattle.class_pool.specs.declared.class.Member.{Member}
use Rattle.class_pool.specs.declared.class.ClassFile.{ClassFile}
use Rattle.class_pool.specs.Grammar.{text_at}
use Rattle.opcodes.specs.declared.instruction.Instr.{Instr}
use Rattle.opcodes.specs.Row.{row_of}
use Rattle.class_lookup.specs.Parts.{signature_of, is_interface_class, is_native, is_static, is_clinit, has_code}
use Rattle.program_tables.specs.declared.refusal.Item.{Item}
use Rattle.program_tables.specs.declared.refusal.Item.TheVariants.{Opcode, LdcFloat, LdcClass, LdcMethod, LdcDouble, NewarrayFloat, NewarrayDouble}
use Rattle.program_tables.specs.declared.refusal.Item.TheVariants.{DescriptorFloat, DescriptorDouble, Native, InterfaceCode}
use Rattle.program_tables.specs.declared.refusal.Site.{Site}
use Rattle.program_tables.specs.declared.refusal.Site.TheVariants as sites
use Rattle.program_tables.specs.Core.{is_io}
use Rattle.program_tables.specs.Instructions.{instructions_of, Named, Constant, Class, Field, Method, named_in}

-- ---- opcodes

-- impdep1 and impdep2 stand only in jop/Io
abbrev pub is_of_devices : (op : ℕ) → Bool
is_of_devices op = op == 254 || op == 255

abbrev pub is_refused_opcode : (in_io : Bool) → (op : ℕ) → Bool
is_refused_opcode in_io op = not (row_of op).supported || (is_of_devices op && not in_io)

-- ---- descriptors

abbrev pub is_float : Element → Bool
is_float elements.Float = true
is_float element = false

abbrev pub is_double : Element → Bool
is_double elements.Double = true
is_double element = false

abbrev pub types_of_method : MethodType → List FieldType
types_of_method m = m.parameters ++ option_map_or (λ t. t ∷ []) m.result []

-- the types in a descriptor
abbrev pub types_in_field : List ℕ → List FieldType
types_in_field text = option_map_or (λ t. t ∷ []) (field_in text) []

abbrev pub types_in_method : List ℕ → List FieldType
types_in_method text = option_map_or types_of_method (method_in text) []

abbrev pub items_where : Bool → Item → List Item
items_where holds item = if holds then item ∷ [] else []

-- float and double in the types of a descriptor, also as elements of arrays
abbrev pub items_of_types : List FieldType → List Item
items_of_types types =
    items_where (list_any (λ t. is_float t.element) types) DescriptorFloat ++ items_where (list_any (λ t. is_double t.element) types) DescriptorDouble

-- ---- at a place; several in the order in which they are tried

abbrev pub items_of_constant : Entry → List Item
items_of_constant (entries.Float bits) = LdcFloat ∷ []
items_of_constant (entries.Class name) = LdcClass ∷ []
items_of_constant (entries.Handle kind reference) = LdcMethod ∷ []
items_of_constant (entries.MethodType descriptor) = LdcMethod ∷ []
items_of_constant (entries.Double bits) = LdcDouble ∷ []
items_of_constant entry = []

-- what is loaded, and the descriptor of the member that is named
abbrev pub items_of_named : Option Named → List Item
items_of_named None = []
items_of_named (Some (Constant entry)) = items_of_constant entry
items_of_named (Some (Class index)) = []
items_of_named (Some (Field index s)) = items_of_types (types_in_field s.descriptor)
items_of_named (Some (Method of_interface index s)) = items_of_types (types_in_method s.descriptor)

-- newarray (188) of float and of double
abbrev pub items_of_newarray : Instr → List Item
items_of_newarray i = if i.op == 188 then items_where (unsigned_abs i.first == 6) NewarrayFloat
    ++ items_where (unsigned_abs i.first == 7) NewarrayDouble else []

abbrev pub items_at_instruction : ClassFile → Instr → List Item
items_at_instruction c i =
    items_where (is_refused_opcode (is_io c) i.op) (Opcode i.op) ++ (items_of_newarray i ++ items_of_named (named_in c i))

abbrev pub items_at_field : ClassFile → Member → List Item
items_at_field c f = items_of_types (types_in_field (text_at c.pool f.descriptor))

-- a method of an interface has code, and isn't the interface's initialization method
abbrev pub has_interface_code : ClassFile → Member → Bool
has_interface_code c m = is_interface_class c && has_code m && not (is_clinit (signature_of c m) && is_static m)

abbrev pub items_at_method : ClassFile → Member → List Item
items_at_method c m =
    items_of_types (types_in_method (text_at c.pool m.descriptor))
    ++ (items_where (is_native m) Native ++ items_where (has_interface_code c m) InterfaceCode)

-- ---- in a class, in the order in which they are tried

abbrev pub sited : Site → List Item → List (Site × Item)
sited site items = map (λ item. (site, item)) items

abbrev pub items_in_method : ClassFile → ℕ × Member → List (Site × Item)
items_in_method c e =
    sited (sites.Method e.0) (items_at_method c e.1) ++ flat_map (λ p. sited (sites.Code e.0 p.pc) (items_at_instruction c p.instr)) (instructions_of e.1)

-- fields, then methods; of a method what stands at it, then its instructions
unfoldable pub unsupported_in : ClassFile → List (Site × Item)
unsupported_in c =
    flat_map (λ e. sited (sites.Field e.0) (items_at_field c e.1)) (enumerate_from 0 c.fields) ++ flat_map (items_in_method c) (enumerate_from 0 c.methods)
