-- What pool entries name and can't be resolved: JVM Specification SE 8, 5.4.3, 5.4.4, and the linking exceptions of 6.5.
use Rattle.std.specs.Prelude.{ℕ, Bool, false, not, ◌&&◌, ◌||◌, ◌==◌, if◌then◌else◌, List, [], ◌∷◌, ◌++◌, length, map, Option, Some, None, is_some}
use Rattle.std.specs.Prelude.{slice_get}
use Rattle.std.specs.Option.{option_map_or}
use Rattle.std.specs.List.{filter, find, flat_map, list_all, range_with_len}
use Rattle.class_pool.specs.declared.class.Code.{Code}
use Rattle.class_pool.specs.declared.class.Member.{Member}
use Rattle.class_pool.specs.declared.class.ClassFile.{ClassFile}
use Rattle.class_pool.specs.Grammar.{text_at}
use Rattle.class_lookup.specs.Lists.{first_some}
use Rattle.class_pool.specs.Found.{code_of}
use Rattle.class_lookup.specs.Parts.{Signature, signature_of, has_code, is_static, is_private, is_abstract, is_init, is_clinit}
use Rattle.class_lookup.specs.Hierarchy.{find_class, is_interface, is_concrete, supertypes}
use Rattle.class_lookup.specs.Lookup.{Place, field_at, method_at}
use Rattle.class_lookup.specs.Access.{is_accessible_class, is_accessible_member, is_writable_field}
use Rattle.class_lookup.specs.Selection.{is_method_with, select, special}
use Rattle.program_tables.specs.declared.refusal.Why.{Why}
use Rattle.program_tables.specs.declared.refusal.Why.TheVariants.{NoClass, NoField, NoMethod, NotAccessible, WrongKind, NotImplemented}
use Rattle.program_tables.specs.Core.{is_boot}
use Rattle.program_tables.specs.Instructions.{Placed, instructions_of, index_of_entry, Named, Constant, Class, Field, Method, named_in}
use Rattle.program_tables.specs.Kinds.{class_in_entry, classes_in_field_descriptor, classes_in_method_descriptor}
use Rattle.program_tables.specs.FrameClasses.{classes_in_frames}
use Rattle.program_tables.specs.Operands.{class_named, field_named, method_named}
use Rattle.bytecode_model.specs.Effects.{same_bool}

-- the reason, unless this holds
abbrev pub unless : Bool → Why → Option Why
unless holds why = if holds then None else Some why

-- ---- classes

abbrev pub is_there : List ClassFile → (name : List ℕ) → Bool
is_there cs name = is_some (find_class cs name)

-- the first of the classes that isn't there
abbrev pub missing_class : List ClassFile → List (List ℕ) → Option (List ℕ)
missing_class cs names = find (λ name. not (is_there cs name)) names

abbrev pub are_there : List ClassFile → List (List ℕ) → Bool
are_there cs names = list_all (is_there cs) names

-- the rules on access don't bind the class that is run first
abbrev pub is_free : List ClassFile → (class : ℕ) → Bool
is_free cs c = option_map_or is_boot (slice_get cs c) false

abbrev pub may_name : List ClassFile → (caller : ℕ) → (name : List ℕ) → Bool
may_name cs caller name = is_free cs caller || option_map_or (is_accessible_class cs caller) (find_class cs name) false

-- the class of a Class entry, or the class of its array's elements, may be named (5.4.3.1, 5.4.4)
abbrev pub may_name_entry : List ClassFile → (caller : ℕ) → ClassFile → (index : ℕ) → Bool
may_name_entry cs caller c index = list_all (may_name cs caller) (class_in_entry c.pool index)

-- why a class that a superclass or superinterface list, an instruction or an exception table names isn't resolved
abbrev pub why_class : List ClassFile → (caller : ℕ) → ClassFile → (index : ℕ) → Option Why
why_class cs caller c index =
    first_some (unless (are_there cs (class_in_entry c.pool index)) NoClass ∷ unless (may_name_entry cs caller c index) NotAccessible ∷ [])

-- new (187) needs a class that is neither abstract nor an array class nor an interface
abbrev pub may_be_made : List ClassFile → ClassFile → (index : ℕ) → Bool
may_be_made cs c index = option_map_or (is_concrete cs) (class_named cs c index) false

abbrev pub why_class_use : List ClassFile → (caller : ℕ) → ClassFile → (op index : ℕ) → Option Why
why_class_use cs caller c op index = first_some (why_class cs caller c index ∷ unless (not (op == 187) || may_be_made cs c index) WrongKind ∷ [])

-- ---- fields

-- getstatic (178) and putstatic (179) need a static field, getfield and putfield (181) an instance field
abbrev pub needs_static_field : (op : ℕ) → Bool
needs_static_field op = op == 178 || op == 179

abbrev pub writes_field : (op : ℕ) → Bool
writes_field op = op == 179 || op == 181

-- a field found, by an instruction of the caller's method
abbrev pub may_use_field : List ClassFile → (caller : ℕ) → ClassFile → (method : Signature) → (op index : ℕ) → Place → Member → Bool
may_use_field cs caller c method op index f k =
    is_free cs caller
    || (may_name_entry cs caller c index
    && option_map_or (λ n. is_accessible_member cs caller n f.0 k) (class_named cs c index) false
    && (not (writes_field op) || is_writable_field caller f.0 method k))

abbrev pub why_field_found : List ClassFile → (caller : ℕ) → ClassFile → (method : Signature) → (op index : ℕ) → Place → Option Member → Option Why
why_field_found cs caller c method op index f None = Some NoField
why_field_found cs caller c method op index f (Some k) =
    first_some (unless (may_use_field cs caller c method op index f k) NotAccessible ∷ unless (same_bool (needs_static_field op) (is_static k)) WrongKind ∷ [])

abbrev pub why_field_named : List ClassFile → (caller : ℕ) → ClassFile → (method : Signature) → (op index : ℕ) → Option Place → Option Why
why_field_named cs caller c method op index None = Some NoField
why_field_named cs caller c method op index (Some f) = why_field_found cs caller c method op index f (field_at cs f)

abbrev pub why_field : List ClassFile → (caller : ℕ) → ClassFile → (method : Signature) → (op index : ℕ) → Signature → Option Why
why_field cs caller c method op index s =
    first_some (unless (are_there cs (class_in_entry c.pool index ++ classes_in_field_descriptor s.descriptor)) NoClass
    ∷ why_field_named cs caller c method op index (field_named cs c index s) ∷ [])

-- ---- methods

-- a method found, named through an entry
abbrev pub may_use_method : List ClassFile → (caller : ℕ) → ClassFile → (index : ℕ) → Place → Member → Bool
may_use_method cs caller c index m k =
    is_free cs caller
    || (may_name_entry cs caller c index && option_map_or (λ n. is_accessible_member cs caller n m.0 k) (class_named cs c index) false)

-- a method named as one of an interface is named through an interface, and any other through a class; but the class that is run first calls the initialization
-- methods of interfaces too, by invokestatic (184)
abbrev pub is_named_rightly : List ClassFile → (caller : ℕ) → ClassFile → (of_interface : Bool) → (op index : ℕ) → Bool
is_named_rightly cs caller c of_interface op index =
    let through_interface = option_map_or (is_interface cs) (class_named cs c index) false in
    if of_interface then through_interface else (is_free cs caller && op == 184) || not through_interface

-- invokevirtual (182) and invokeinterface (185) name no private method
abbrev pub calls_no_private : (op : ℕ) → Bool
calls_no_private op = op == 182 || op == 185

-- invokespecial (183) names no abstract method, and the one that it runs isn't abstract
abbrev pub is_special : List ClassFile → (caller : ℕ) → ClassFile → (index : ℕ) → Place → Bool
is_special cs caller c index m =
    is_method_with (λ k. not (is_abstract k)) cs m
    && option_map_or (λ n. option_map_or (is_method_with (λ k. not (is_abstract k)) cs) (special cs caller n m) false) (class_named cs c index) false

-- only invokespecial names instance initialization methods, and only the class that is run first names class initialization methods
abbrev pub is_callable_name : List ClassFile → (caller op : ℕ) → Signature → Bool
is_callable_name cs caller op s = (not (is_init s) || op == 183) && (not (is_clinit s) || is_free cs caller)

-- the method is of the kind that the instruction needs: static for invokestatic (184), an instance method for the others
abbrev pub is_right_method : List ClassFile → (caller : ℕ) → ClassFile → (of_interface : Bool) → (op index : ℕ) → Signature → Place → Member → Bool
is_right_method cs caller c of_interface op index s m k =
    is_named_rightly cs caller c of_interface op index
    && same_bool (op == 184) (is_static k)
    && (not (calls_no_private op) || not (is_private k))
    && (not (op == 183) || is_special cs caller c index m)
    && is_callable_name cs caller op s

abbrev pub why_method_found : List ClassFile → (caller : ℕ) → ClassFile → (of_interface : Bool) → (op index : ℕ) → Signature → Place → Option Member
    → Option Why
why_method_found cs caller c of_interface op index s m None = Some NoMethod
why_method_found cs caller c of_interface op index s m (Some k) =
    first_some (unless (may_use_method cs caller c index m k) NotAccessible ∷ unless (is_right_method cs caller c of_interface op index s m k) WrongKind ∷ [])

abbrev pub why_method_named : List ClassFile → (caller : ℕ) → ClassFile → (of_interface : Bool) → (op index : ℕ) → Signature → Option Place → Option Why
why_method_named cs caller c of_interface op index s None = Some NoMethod
why_method_named cs caller c of_interface op index s (Some m) = why_method_found cs caller c of_interface op index s m (method_at cs m)

abbrev pub why_method : List ClassFile → (caller : ℕ) → ClassFile → (of_interface : Bool) → (op index : ℕ) → Signature → Option Why
why_method cs caller c of_interface op index s =
    first_some (unless (are_there cs (class_in_entry c.pool index ++ classes_in_method_descriptor s.descriptor)) NoClass
    ∷ why_method_named cs caller c of_interface op index s (method_named cs c index s) ∷ [])

-- ---- instructions

abbrev pub why_named : List ClassFile → (caller : ℕ) → ClassFile → (method : Signature) → (op : ℕ) → Option Named → Option Why
why_named cs caller c method op None = None
why_named cs caller c method op (Some (Constant entry)) = None
why_named cs caller c method op (Some (Class index)) = why_class_use cs caller c op index
why_named cs caller c method op (Some (Field index s)) = why_field cs caller c method op index s
why_named cs caller c method op (Some (Method of_interface index s)) = why_method cs caller c of_interface op index s

-- ---- abstract methods that are left open

abbrev pub abstract_methods_in : List ClassFile → (class : ℕ) → List Place
abstract_methods_in cs c =
    filter (is_method_with is_abstract cs) (option_map_or (λ k. map (λ i. (c, i)) (range_with_len 0 (length k.methods))) (slice_get cs c) [])

-- the method that is selected for the abstract one has code
abbrev pub is_implemented : List ClassFile → (class : ℕ) → (abstract : Place) → Bool
is_implemented cs c a = option_map_or (is_method_with has_code cs) (select cs c a) false

-- each abstract method of the class, of its superclasses and of its superinterfaces has code, or the class is itself abstract
abbrev pub implements_all : List ClassFile → (class : ℕ) → Bool
implements_all cs c = not (is_concrete cs c) || list_all (is_implemented cs c) (flat_map (abstract_methods_in cs) (supertypes cs c))

-- ---- what names classes and members in a class, in the order in which it is tried

-- the class itself; the descriptor of a field or of a method; an instruction of a method; the class that an exception handler catches; a class in a
-- stack map frame
pub data Mention : Type 0 where
  ThisClass : Mention
  FieldDescriptor : Member → Mention
  MethodDescriptor : Member → Mention
  AtInstruction : (method : Member) → Placed → Mention
  AtHandler : (class : ℕ) → Mention
  InFrame : (class : ℕ) → Mention

-- its instructions by place, then its exception entries in their order, then its frames in theirs
abbrev pub mentions_in_code : ClassFile → Member → Code → List Mention
mentions_in_code c m k =
    map (AtInstruction m) (instructions_of m)
    ++ (map (λ h. AtHandler h.3) (filter (λ h. not (h.3 == 0)) k.handlers) ++ map InFrame (classes_in_frames c.pool k))

abbrev pub mentions_in_method : ClassFile → Member → List Mention
mentions_in_method c m = MethodDescriptor m ∷ option_map_or (mentions_in_code c m) (code_of m) []

abbrev pub mentions_in : ClassFile → List Mention
mentions_in c = ThisClass ∷ (map FieldDescriptor c.fields ++ flat_map (mentions_in_method c) c.methods)

-- the pool entry that is told
abbrev pub entry_of : ClassFile → Mention → ℕ
entry_of c ThisClass = c.this_class
entry_of c (FieldDescriptor f) = f.descriptor
entry_of c (MethodDescriptor m) = m.descriptor
entry_of c (AtInstruction m p) = index_of_entry p.instr
entry_of c (AtHandler class) = class
entry_of c (InFrame class) = class

-- why it isn't resolved, the first reason that applies
abbrev pub why : List ClassFile → (caller : ℕ) → ClassFile → Mention → Option Why
why cs caller c ThisClass = unless (implements_all cs caller) NotImplemented
why cs caller c (FieldDescriptor f) = unless (are_there cs (classes_in_field_descriptor (text_at c.pool f.descriptor))) NoClass
why cs caller c (MethodDescriptor m) = unless (are_there cs (classes_in_method_descriptor (text_at c.pool m.descriptor))) NoClass
why cs caller c (AtInstruction m p) = why_named cs caller c (signature_of c m) p.instr.op (named_in c p.instr)
why cs caller c (AtHandler class) = why_class cs caller c class
why cs caller c (InFrame class) = unless (are_there cs (class_in_entry c.pool class)) NoClass
