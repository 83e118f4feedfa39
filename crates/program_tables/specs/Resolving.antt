-- Which classes are resolved: JVM Specification SE 8, 5.3 and 5.4. Nothing refuses them, neither a class file by itself nor what it names.
use Rattle.std.specs.Prelude.{◌≡◌, ℕ, ◌-◌, ◌^◌, ◌<◌, not, ◌&&◌, List, [], ◌∷◌, length, map, take, Some, None, slice_get, IfSome, IsTrue}
use Rattle.std.specs.List.{list_all, AllByRecursion}
use Rattle.class_pool.specs.declared.class.Member.{Member}
use Rattle.class_pool.specs.declared.class.ClassFile.{ClassFile}
use Rattle.class_pool.specs.Found.{code_of}
use Rattle.class_rules.specs.Grammar.{IsClass}
use Rattle.bytecode_model.specs.Types.{OfNumbers, Reference, t_char}
use Rattle.bytecode_model.specs.Program.{object_class, serializable_class, cloneable_class, string_class, throwable_class}
use Rattle.class_lookup.specs.Parts.{signature_of, name_of, is_static, is_init, has_code}
use Rattle.class_lookup.specs.Hierarchy.{superclass, superinterfaces, is_interface, is_concrete, extends, IsAcyclic}
use Rattle.class_lookup.specs.Lookup.{method_at}
use Rattle.class_lookup.specs.Selection.{signature_at}
use Rattle.program_tables.specs.Core.{core_names, boot_method, boot_descriptor, raised_classes}
use Rattle.program_tables.specs.Numbers.{instance_fields}
use Rattle.program_tables.specs.Resolved.{declared_fields}
use Rattle.program_tables.specs.Unsupported.{unsupported_in}
use Rattle.program_tables.specs.Placed.{duplicate_of, supertype_entries, is_badly_placed}
use Rattle.program_tables.specs.Unresolved.{why_class, mentions_in, why}

-- the first classes are those that the virtual machine knows, and the last is the one that is run
pub record HasCore (cs : List ClassFile) : Type 0 where
  pub names : take (length core_names) (map name_of cs) ≡ core_names
  -- Object has no field, and no method but `<init>`
  pub object : (superclass cs object_class ≡ None) × (superinterfaces cs object_class ≡ []) × (instance_fields cs object_class ≡ [])
  pub object_methods : (k : ClassFile) → slice_get cs object_class ≡ Some k → IsTrue (list_all (λ m. is_init (signature_of k m)) k.methods)
  -- the interfaces of arrays have no superinterface
  pub serializable : (superinterfaces cs serializable_class ≡ []) × IsTrue (is_interface cs serializable_class)
  pub cloneable : (superinterfaces cs cloneable_class ≡ []) × IsTrue (is_interface cs cloneable_class)
  -- a string has an array of char
  pub string : IsTrue (is_concrete cs string_class)
  pub chars : declared_fields cs (instance_fields cs string_class) ≡ Reference (OfNumbers t_char) ∷ []
  -- there are objects of the classes of errors
  pub throwable : IsTrue (is_concrete cs throwable_class)
  pub raised : IsTrue (list_all (λ c. is_concrete cs c && extends cs c throwable_class) raised_classes)
  -- the one method of the last class: static, without parameters and result
  pub last : (boot : Member) × (method_at cs (length cs - 1, 0) ≡ Some boot) × IsTrue (is_static boot && has_code boot)
  pub descriptor : signature_at cs (length cs - 1, 0) ≡ Some (record { name = boot_method; descriptor = boot_descriptor })

-- what a class says of others
pub record IsLinkable (cs : List ClassFile) (c : ℕ) (k : ClassFile) : Type 0 where
  -- no class before it, and no other than the last, has its name
  pub name : duplicate_of cs c ≡ None
  -- its superclass and its superinterfaces are there and accessible
  pub supertypes : AllByRecursion (λ index. why_class cs c k index ≡ None) (supertype_entries k)
  pub placed : IsTrue (not (is_badly_placed cs c))
  -- all else that it names is resolved
  pub mentions : AllByRecursion (λ m. why cs c k m ≡ None) (mentions_in k)

-- the code of a method is bytes (4.7.3)
abbrev pub HasBytes : Member → Type 0
HasBytes m = IfSome (code_of m) (λ k. AllByRecursion (λ byte. byte < 2 ^ 8) k.code)

pub record IsResolved (cs : List ClassFile) : Type 0 where
  pub core : HasCore cs
  -- each is of the class grammar, and nothing unsupported stands in it
  pub grammar : AllByRecursion IsClass cs
  pub bytes : AllByRecursion (λ k. AllByRecursion HasBytes k.methods) cs
  pub supported : AllByRecursion (λ k. unsupported_in k ≡ []) cs
  pub linkable : (c : ℕ) (k : ClassFile) → slice_get cs c ≡ Some k → IsLinkable cs c k
  pub acyclic : IsAcyclic cs
