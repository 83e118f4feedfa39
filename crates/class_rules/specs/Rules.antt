-- The rules on a class file: JVM Specification SE 8, 4.1 and 4.4 to 4.7.
use Rattle.std.specs.Prelude.{◌≡◌, ℕ, ◌+◌, ◌<◌, ◌≤◌, ◌⊎◌, IsTrue, List, [], ◌∷◌, length, count_by, codes, Option, Some, None}
use Rattle.std.specs.List.{AllByRecursion}
use Rattle.class_pool.specs.declared.entry.Entry.{Entry}
use Rattle.class_pool.specs.declared.entry.Entry.TheVariants as entries
use Rattle.class_pool.specs.declared.class.Attribute.{Attribute}
use Rattle.class_pool.specs.declared.class.Body.{Body}
use Rattle.class_pool.specs.declared.class.Body.TheVariants.{Code, ConstantValue}
use Rattle.class_pool.specs.declared.class.Code.{Code as CodeParts}
use Rattle.class_pool.specs.declared.class.Member.{Member}
use Rattle.class_pool.specs.declared.class.ClassFile.{ClassFile}
use Rattle.class_pool.specs.Grammar.{entry_at, utf8_of, text_at}
use Rattle.descriptors.specs.declared.descriptor.Element.{Element}
use Rattle.descriptors.specs.declared.descriptor.Element.TheVariants as elements
use Rattle.descriptors.specs.declared.descriptor.FieldType.{FieldType}
use Rattle.descriptors.specs.declared.descriptor.MethodType.{MethodType}
use Rattle.descriptors.specs.Names.{is_class_name, is_unqualified, is_method_name, has_no_parenthesis}
use Rattle.descriptors.specs.Descriptors.{IsFieldDescriptor, IsMethodDescriptor, argument_words}
use Rattle.class_rules.specs.Tests.{is_code, is_constant_value, is_frame_table}
use Rattle.class_rules.specs.Flags.{acc_public, acc_private, acc_protected, acc_static, acc_final, acc_synchronized, acc_native, acc_interface, acc_abstract}
use Rattle.class_rules.specs.Flags.{acc_strict, IsSet}

-- ---- texts of the pool

-- the entry of the index is this text
abbrev pub IsText : List Entry → ℕ → List ℕ → Type 0
IsText pool index units = utf8_of (entry_at pool index) ≡ Some units

-- the entry of the index is a text of which that holds
abbrev pub HasText : List Entry → ℕ → (List ℕ → Type 0) → Type 0
HasText pool index P = (units : List ℕ) × IsText pool index units × P units

abbrev pub IsAnyText : List ℕ → Type 0
IsAnyText units = Unit {0}

-- the descriptor of a field (4.3.2), of an array type among them, and that of a method (4.3.3)
abbrev pub IsField : List ℕ → Type 0
IsField units = (t : FieldType) × IsFieldDescriptor units t

abbrev pub IsArray : List ℕ → Type 0
IsArray units = (t : FieldType) × IsFieldDescriptor units t × (0 < t.dimensions)

abbrev pub IsMethod : List ℕ → Type 0
IsMethod units = (t : MethodType) × IsMethodDescriptor units t

-- the name of a class (4.2.1), an unqualified name, the name of a method (4.2.2), and that of a declared one, which
-- holds no ( so that name and descriptor together name one method
abbrev pub IsClassName : List ℕ → Type 0
IsClassName units = IsTrue (is_class_name units)

abbrev pub IsUnqualified : List ℕ → Type 0
IsUnqualified units = IsTrue (is_unqualified units)

abbrev pub IsMethodName : List ℕ → Type 0
IsMethodName units = IsTrue (is_method_name units)

abbrev pub IsDeclaredName : List ℕ → Type 0
IsDeclaredName units = IsTrue (is_method_name units) × IsTrue (has_no_parenthesis units)

-- ---- the pool

-- the entry of the index is a name and type whose descriptor is a text of which that holds
abbrev pub IsDescribed : List Entry → ℕ → (List ℕ → Type 0) → Type 0
IsDescribed pool index P = (name descriptor : ℕ) × (entry_at pool index ≡ Some (entries.NameAndType name descriptor)) × HasText pool descriptor P

-- a class is named as a class or as an array type (4.4.1), a field has a field's descriptor, a method a method's
-- (4.4.2), a name fits its descriptor (4.4.6), and a method type and a dynamic call have a method's descriptor (4.4.9, 4.4.10)
abbrev pub IsRightEntry : List Entry → Entry → Type 0
IsRightEntry pool (entries.Class name) = HasText pool name (λ units. IsClassName units ⊎ IsArray units)
IsRightEntry pool (entries.Field owner member) = IsDescribed pool member IsField
IsRightEntry pool (entries.Method owner member) = IsDescribed pool member IsMethod
IsRightEntry pool (entries.InterfaceMethod owner member) = IsDescribed pool member IsMethod
IsRightEntry pool (entries.NameAndType name descriptor) =
    (HasText pool descriptor IsField × HasText pool name IsUnqualified) ⊎ (HasText pool descriptor IsMethod × HasText pool name IsMethodName)
IsRightEntry pool (entries.MethodType descriptor) = HasText pool descriptor IsMethod
IsRightEntry pool (entries.Dynamic bootstrap member) = IsDescribed pool member IsMethod
IsRightEntry pool entry = Unit {0}

-- the entry of the index is a class that is no array class
abbrev pub IsClassAt : List Entry → ℕ → Type 0
IsClassAt pool index = (name : ℕ) × (entry_at pool index ≡ Some (entries.Class name)) × HasText pool name IsClassName

-- ---- attributes and code

-- each attribute has a name (4.7)
abbrev pub AreNamed : List Entry → List Attribute → Type 0
AreNamed pool attributes = AllByRecursion (λ a. HasText pool a.name IsAnyText) attributes

-- what an exception handler catches is anything or a class (4.7.3)
abbrev pub IsCatchType : List Entry → ℕ → Type 0
IsCatchType pool caught = (caught ≡ 0) ⊎ ((name : ℕ) × (entry_at pool caught ≡ Some (entries.Class name)))

-- code (4.7.3), with one table of frames at most (4.7.4)
pub record IsRightCode (pool : List Entry) (c : CodeParts) : Type 0 where
  pub not_empty : 1 ≤ length c.code
  pub not_long : length c.code ≤ 65535
  pub caught : AllByRecursion (λ h. IsCatchType pool h.3) c.handlers
  pub named : AllByRecursion (λ a. HasText pool a.0 IsAnyText) c.attributes
  pub frames : count_by (is_frame_table pool) c.attributes ≤ 1

abbrev pub IsRightBody : List Entry → Body → Type 0
IsRightBody pool (Code code) = IsRightCode pool code
IsRightBody pool body = Unit {0}

-- ---- members

-- at most one of public, private and protected (4.5, 4.6)
pub record HasOneAccess (flags : ℕ) : Type 0 where
  pub public_private : ¬ (IsSet flags acc_public × IsSet flags acc_private)
  pub public_protected : ¬ (IsSet flags acc_public × IsSet flags acc_protected)
  pub private_protected : ¬ (IsSet flags acc_private × IsSet flags acc_protected)

-- the entry is that of an int, a float, a long, a double or a string
abbrev pub IsInteger : Option Entry → Type 0
IsInteger entry = (n : ℕ) × (entry ≡ Some (entries.Integer n))

abbrev pub IsFloat : Option Entry → Type 0
IsFloat entry = (bits : ℕ) × (entry ≡ Some (entries.Float bits))

abbrev pub IsLong : Option Entry → Type 0
IsLong entry = (n : ℕ) × (entry ≡ Some (entries.Long n))

abbrev pub IsDouble : Option Entry → Type 0
IsDouble entry = (bits : ℕ) × (entry ≡ Some (entries.Double bits))

abbrev pub IsString : Option Entry → Type 0
IsString entry = (units : ℕ) × (entry ≡ Some (entries.Text units))

-- the constant of a field of a type that is no array (table 4.7.2-A)
abbrev pub IsConstantOfElement : Element → Option Entry → Type 0
IsConstantOfElement elements.Long entry = IsLong entry
IsConstantOfElement elements.Float entry = IsFloat entry
IsConstantOfElement elements.Double entry = IsDouble entry
IsConstantOfElement elements.Int entry = IsInteger entry
IsConstantOfElement elements.Short entry = IsInteger entry
IsConstantOfElement elements.Char entry = IsInteger entry
IsConstantOfElement elements.Byte entry = IsInteger entry
IsConstantOfElement elements.Boolean entry = IsInteger entry
IsConstantOfElement (elements.Class name) entry = (name ≡ codes "java/lang/String") × IsString entry

abbrev pub IsConstantOf : Option Entry → List ℕ → Type 0
IsConstantOf entry units = (t : FieldType) × IsFieldDescriptor units t × ((t.dimensions ≡ 0) × IsConstantOfElement t.element entry)

-- an entry that is a constant of some field
abbrev pub IsFieldConstant : Option Entry → Type 0
IsFieldConstant entry = IsInteger entry ⊎ IsFloat entry ⊎ IsLong entry ⊎ IsDouble entry ⊎ IsString entry

-- a ConstantValue names a constant, that of a static field one of its descriptor's type (4.7.2)
abbrev pub IsRightConstant : List Entry → Member → Body → Type 0
IsRightConstant pool m (ConstantValue index) =
    (IsSet m.flags acc_static → HasText pool m.descriptor (IsConstantOf (entry_at pool index)))
    × (¬ IsSet m.flags acc_static → IsFieldConstant (entry_at pool index))
IsRightConstant pool m body = Unit {0}

-- a field (4.5)
pub record IsRightField (c : ClassFile) (m : Member) : Type 0 where
  pub name : HasText c.pool m.name IsUnqualified
  pub descriptor : HasText c.pool m.descriptor IsField
  pub access : HasOneAccess m.flags
  pub of_interface : IsSet c.flags acc_interface → IsSet m.flags acc_public × IsSet m.flags acc_static × IsSet m.flags acc_final
  pub named : AreNamed c.pool m.attributes
  pub one_constant : count_by is_constant_value m.attributes ≤ 1
  pub constants : AllByRecursion (λ a. IsRightConstant c.pool m a.body) m.attributes

-- a method's arguments take at most 255 words, `this` among them (4.3.3)
abbrev pub TakesFewWords : ℕ → List ℕ → Type 0
TakesFewWords flags units =
    (t : MethodType) × IsMethodDescriptor units t × ((IsSet flags acc_static → argument_words t.parameters ≤ 255)
    × (¬ IsSet flags acc_static → argument_words t.parameters + 1 ≤ 255))

-- what an abstract method is not (4.6)
pub record IsPlain (flags : ℕ) : Type 0 where
  pub not_private : ¬ IsSet flags acc_private
  pub not_static : ¬ IsSet flags acc_static
  pub not_final : ¬ IsSet flags acc_final
  pub not_synchronized : ¬ IsSet flags acc_synchronized
  pub not_native : ¬ IsSet flags acc_native
  pub not_strict : ¬ IsSet flags acc_strict

abbrev pub ReturnsNothing : List ℕ → Type 0
ReturnsNothing units = (t : MethodType) × IsMethodDescriptor units t × (t.result ≡ None)

-- an instance initializer (2.9): of no interface, not static, and returns nothing
pub record IsRightInitializer (c : ClassFile) (m : Member) : Type 0 where
  pub of_class : ¬ IsSet c.flags acc_interface
  pub not_static : ¬ IsSet m.flags acc_static
  pub nothing : HasText c.pool m.descriptor ReturnsNothing

-- a method (4.6), with code exactly where it is neither abstract nor native (4.7.3)
pub record IsRightMethod (c : ClassFile) (m : Member) : Type 0 where
  pub name : HasText c.pool m.name IsDeclaredName
  pub descriptor : HasText c.pool m.descriptor (TakesFewWords m.flags)
  pub access : HasOneAccess m.flags
  pub plain : IsSet m.flags acc_abstract → IsPlain m.flags
  pub initializer : IsText c.pool m.name (codes "<init>") → IsRightInitializer c m
  pub named : AreNamed c.pool m.attributes
  pub no_code : IsSet m.flags acc_abstract ⊎ IsSet m.flags acc_native → count_by is_code m.attributes ≡ 0
  pub one_code : ¬ IsSet m.flags acc_abstract → ¬ IsSet m.flags acc_native → count_by is_code m.attributes ≡ 1
  pub code : AllByRecursion (λ a. IsRightBody c.pool a.body) m.attributes

-- ---- no two alike

-- two members have the same name and the same descriptor
abbrev pub AreSame : List Entry → Member → Member → Type 0
AreSame pool m n = (text_at pool m.name ≡ text_at pool n.name) × (text_at pool m.descriptor ≡ text_at pool n.descriptor)

-- no two members do (4.5, 4.6)
abbrev pub AreNamedOnce : List Entry → List Member → Type 0
AreNamedOnce pool [] = Unit {0}
AreNamedOnce pool (m ∷ members) = AllByRecursion (λ n. ¬ AreSame pool m n) members × AreNamedOnce pool members

-- ---- all of them

pub record FollowsRules (c : ClassFile) : Type 0 where
  pub pool : AllByRecursion (IsRightEntry c.pool) c.pool
  -- this, the superclass if there is one, and the interfaces are classes (4.1)
  pub this_class : IsClassAt c.pool c.this_class
  pub super_class : (c.super_class ≡ 0) ⊎ IsClassAt c.pool c.super_class
  pub interfaces : AllByRecursion (IsClassAt c.pool) c.interfaces
  -- an interface is abstract (4.1)
  pub of_interface : IsSet c.flags acc_interface → IsSet c.flags acc_abstract
  pub fields : AllByRecursion (IsRightField c) c.fields
  pub methods : AllByRecursion (IsRightMethod c) c.methods
  pub named : AreNamed c.pool c.attributes
  pub distinct_fields : AreNamedOnce c.pool c.fields
  pub distinct_methods : AreNamedOnce c.pool c.methods
