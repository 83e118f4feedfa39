-- What a class file says of its class and of its members: JVM Specification SE 8, 4.1, 4.5 and 4.6. The flags are those of tables 4.1-A, 4.5-A and 4.6-A.
use Rattle.std.specs.Prelude.{ℕ, Bool, not, ◌&&◌, ◌==◌, nat_eq, if◌then◌else◌, List, [], ◌∷◌, map, is_some}
use Rattle.std.specs.Option.{option_map_or}
use Rattle.std.specs.List.{list_any}
use lib.Pointwise.{pointwise}
use Rattle.class_pool.specs.declared.entry.Entry.{Entry}
use Rattle.class_pool.specs.Grammar.{entry_at, class_name_of, text_at, has}
use Rattle.class_pool.specs.declared.class.Member.{Member}
use Rattle.class_pool.specs.declared.class.ClassFile.{ClassFile}
use Rattle.descriptors.specs.Names.{is_instance_initializer, is_class_initializer}
use Rattle.class_pool.specs.Found.{code_of}

abbrev pub same_text : List ℕ → List ℕ → Bool
same_text a b = pointwise nat_eq a b

-- the name that a Class entry gives (4.4.1); nothing where the index is that of no Class entry
abbrev pub class_text : List Entry → (index : ℕ) → List ℕ
class_text pool index = option_map_or (text_at pool) (class_name_of (entry_at pool index)) []

-- ---- the class (4.1)

abbrev pub name_of : ClassFile → List ℕ
name_of c = class_text c.pool c.this_class

abbrev pub superclass_name : ClassFile → List ℕ
superclass_name c = class_text c.pool c.super_class

abbrev pub superinterface_names : ClassFile → List (List ℕ)
superinterface_names c = map (class_text c.pool) c.interfaces

abbrev pub is_public_class : ClassFile → Bool
is_public_class c = has c.flags 0x0001

abbrev pub is_final_class : ClassFile → Bool
is_final_class c = has c.flags 0x0010

-- ACC_SUPER: invokespecial treats the methods of superclasses specially
abbrev pub is_super_class : ClassFile → Bool
is_super_class c = has c.flags 0x0020

abbrev pub is_interface_class : ClassFile → Bool
is_interface_class c = has c.flags 0x0200

-- an abstract class or an interface
abbrev pub is_abstract_class : ClassFile → Bool
is_abstract_class c = has c.flags 0x0400

-- the part of a class's name before its last / names its package; that of the unnamed package is empty (5.3)
abbrev pub package_in : List ℕ → List ℕ
package_in [] = []
package_in (unit ∷ units) = if list_any (λ u. u == 47) units then unit ∷ package_in units else []

abbrev pub same_package : ClassFile → ClassFile → Bool
same_package c d = same_text (package_in (name_of c)) (package_in (name_of d))

-- ---- members (4.5, 4.6)

-- a name and a descriptor
pub record Signature : Type 0 where
  pub name : List ℕ
  pub descriptor : List ℕ

abbrev pub signature_of : ClassFile → Member → Signature
signature_of c m = record { name = text_at c.pool m.name; descriptor = text_at c.pool m.descriptor }

abbrev pub same_signature : Signature → Signature → Bool
same_signature s t = same_text s.name t.name && same_text s.descriptor t.descriptor

abbrev pub is_public : Member → Bool
is_public m = has m.flags 0x0001

abbrev pub is_private : Member → Bool
is_private m = has m.flags 0x0002

abbrev pub is_protected : Member → Bool
is_protected m = has m.flags 0x0004

-- neither public nor private nor protected
abbrev pub is_package_private : Member → Bool
is_package_private m = not (has m.flags 0x0007)

abbrev pub is_static : Member → Bool
is_static m = has m.flags 0x0008

abbrev pub is_final : Member → Bool
is_final m = has m.flags 0x0010

abbrev pub is_native : Member → Bool
is_native m = has m.flags 0x0100

abbrev pub is_abstract : Member → Bool
is_abstract m = has m.flags 0x0400

-- of an instance initialization method, of a class or interface initialization method (2.9)
abbrev pub is_init : Signature → Bool
is_init s = is_instance_initializer s.name

abbrev pub is_clinit : Signature → Bool
is_clinit s = is_class_initializer s.name

abbrev pub has_code : Member → Bool
has_code m = is_some (code_of m)
