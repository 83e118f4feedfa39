-- The program that a list of class files is: JVM Specification SE 8, 5.4.
-- The list has the classes that the virtual machine knows, those that are linked, and last the one that is run.
use Rattle.std.specs.Prelude.{ℕ, ◌-◌, pos, true, false, not, ◌||◌, ◌==◌, if◌then◌else◌, List, [], ◌∷◌, ◌++◌, length, map, Option, Some, None, unwrap_or}
use Rattle.std.specs.Prelude.{slice_get}
use Rattle.std.specs.Int.{w32, w64, cast_signed}
use Rattle.std.specs.Option.{option_map, option_map_or}
use Rattle.std.specs.List.{filter_map, flat_map, enumerate_from}
use Rattle.class_pool.specs.declared.entry.Entry.{Entry}
use Rattle.class_pool.specs.declared.entry.Entry.TheVariants as entries
use Rattle.class_pool.specs.declared.class.Code.{Code}
use Rattle.class_pool.specs.declared.class.Member.{Member}
use Rattle.class_pool.specs.declared.class.ClassFile.{ClassFile}
use Rattle.class_pool.specs.Grammar.{text_at}
use Rattle.bytecode_model.specs.declared.Value.{Value}
use Rattle.bytecode_model.specs.declared.Value.TheVariants.{Int, Long, Ref}
use Rattle.bytecode_model.specs.Lists.{onto}
use Rattle.bytecode_model.specs.Types.{Declared, default}
use Rattle.bytecode_model.specs.State.{Object}
use Rattle.bytecode_model.specs.Program.{Program, Method, Body, Handler, NoOperand, object_class, string_class}
use Rattle.class_pool.specs.Found.{code_of}
use Rattle.class_lookup.specs.Parts.{signature_of, is_static, is_init}
use Rattle.class_lookup.specs.Hierarchy.{superclass, is_interface, is_concrete, extends}
use Rattle.class_lookup.specs.Lookup.{Place, field_at, method_at}
use Rattle.class_lookup.specs.Selection.{select}
use Rattle.program_tables.specs.Core.{raised_classes}
use Rattle.program_tables.specs.Kinds.{kind_of_entry, field_declared, parameters_declared, result_declared}
use Rattle.program_tables.specs.Numbers.{methods_by_number, method_number, static_fields, instance_fields, types_of, class_type_number, constant_entry}
use Rattle.program_tables.specs.Numbers.{method_text}
use Rattle.program_tables.specs.Numbers.{strings_of, string_number}
use Rattle.program_tables.specs.Operands.{string_object, operand_in, guarded_in, at_instruction}

-- ---- methods

-- the class index 0 catches any (4.7.3)
abbrev pub handler_of : List ClassFile → ClassFile → ℕ × ℕ × ℕ × ℕ → Handler
handler_of cs c h = record { start = h.0; end = h.1; target = h.2; caught = if h.3 == 0 then None else kind_of_entry cs c.pool h.3 }

abbrev pub body_in : List ClassFile → ClassFile → Code → Body
body_in cs c k = record { max_locals = k.max_locals; max_stack = k.max_stack; code = k.code; handlers = map (handler_of cs c) k.handlers }

abbrev pub method_in : List ClassFile → (owner : ℕ) → ClassFile → Member → Method
method_in cs owner c m =
    let s = signature_of c m in
    record {
      owner = owner;
      has_this = not (is_static m);
      is_init = is_init s;
      parameters = parameters_declared cs s.descriptor;
      result = result_declared cs s.descriptor;
      body = option_map (body_in cs c) (code_of m);
    }

abbrev pub resolved_method : List ClassFile → Place → Option Method
resolved_method cs m = onto (slice_get cs m.0) (λ c. option_map (method_in cs m.0 c) (method_at cs m))

abbrev pub resolved_methods : List ClassFile → List Method
resolved_methods cs = filter_map (resolved_method cs) (methods_by_number cs)

-- ---- fields

abbrev pub declared_at : List ClassFile → Place → Option Declared
declared_at cs f = onto (slice_get cs f.0) (λ c. onto (field_at cs f) (λ k. field_declared cs (text_at c.pool k.descriptor)))

abbrev pub declared_fields : List ClassFile → List Place → List Declared
declared_fields cs fs = filter_map (declared_at cs) fs

-- a constant as a value (4.7.2)
abbrev pub constant_of : List ClassFile → List Entry → Entry → Option Value
constant_of cs pool (entries.Integer n) = Some (Int (cast_signed w32 n))
constant_of cs pool (entries.Long n) = Some (Long (cast_signed w64 n))
constant_of cs pool (entries.Text units) = option_map (λ n. Ref (string_object n)) (string_number cs (text_at pool units))
constant_of cs pool entry = None

abbrev pub constant_at : List ClassFile → Place → Option Value
constant_at cs f = onto (slice_get cs f.0) (λ c. onto (field_at cs f) (λ k. onto (constant_entry c k) (constant_of cs c.pool)))

-- a static field begins with its constant, or else with its type's default (5.5, 2.3, 2.4)
abbrev pub first_value : List ClassFile → Place → Option Value
first_value cs f = option_map (λ d. unwrap_or (constant_at cs f) (default d)) (declared_at cs f)

-- ---- the objects that are there at the start

abbrev pub raised_object : List ClassFile → (class : ℕ) → Object
raised_object cs c = record { kind = class_type_number c; parts = map default (declared_fields cs (instance_fields cs c)) }

-- a string's array of char, whose type is the second, and the string
abbrev pub string_objects : ℕ × List ℕ → List Object
string_objects e =
    record { kind = 1; parts = map (λ unit. Int (pos unit)) e.1 }
    ∷ record { kind = class_type_number string_class; parts = Ref (string_object e.0 - 1) ∷ [] }
    ∷ []

abbrev pub objects_at_start : List ClassFile → List Object
objects_at_start cs = map (raised_object cs) raised_classes ++ flat_map string_objects (enumerate_from 0 (strings_of cs))

-- ---- the program

-- by method numbers
abbrev pub at_method : {A : Type 0} → List ClassFile → (method : ℕ) → (none : A) → (Place → A) → A
at_method cs m none say = option_map_or say (slice_get (methods_by_number cs) m) none

-- the name of a method: its class's name, a dot, its own name and its descriptor
abbrev pub method_name : List ClassFile → (method : ℕ) → List ℕ
method_name cs m = at_method cs m [] (method_text cs)

-- the last class's method
abbrev pub boot_of : List ClassFile → ℕ
boot_of cs = unwrap_or (method_number cs (length cs - 1, 0)) 0

abbrev pub resolved : List ClassFile → Program
resolved cs = record {
  linked = true;
  methods = resolved_methods cs;
  boot = boot_of cs;
  operand = λ m pc. at_method cs m NoOperand (λ p. at_instruction cs p pc NoOperand (operand_in cs));
  guarded = λ m pc. at_method cs m false (λ p. at_instruction cs p pc false (guarded_in cs));
  types = types_of cs;
  -- each class is an Object
  extends = λ c d. d == object_class || extends cs c d;
  superclass = superclass cs;
  is_interface = is_interface cs;
  is_concrete = is_concrete cs;
  fields = λ c. declared_fields cs (instance_fields cs c);
  statics = declared_fields cs (static_fields cs);
  first_statics = filter_map (first_value cs) (static_fields cs);
  first_objects = objects_at_start cs;
  select = λ receiver m. at_method cs m None (λ p. onto (select cs receiver p) (method_number cs));
}
