-- Which plans say what a class file may say: JVM Specification SE 8, 4.1 and 4.4 to 4.7, in the words of the rules on class files.
use Rattle.std.specs.Prelude.{◌≡◌, ℕ, ◌+◌, ◌<◌, ◌≤◌, ◌^◌, ◌⊎◌, List, [], ◌∷◌, length, codes, Option, Some, None, IfSome}
use Rattle.std.specs.Option.{option_to_list}
use Rattle.std.specs.List.{AllByRecursion}
use Rattle.class_pool.specs.Utf8.{utf8_bytes, AreUnits}
use Rattle.class_pool.specs.Structure.{IsHalf}
use Rattle.class_rules.specs.Flags.{acc_public, acc_static, acc_final, acc_interface, acc_abstract, acc_native, IsSet}
use Rattle.class_rules.specs.Rules.{IsField, IsArray, IsMethod, IsClassName, IsUnqualified, IsMethodName, IsDeclaredName, HasOneAccess, IsPlain, TakesFewWords}
use Rattle.class_rules.specs.Rules.{ReturnsNothing}
use Rattle.class_making.specs.declared.item.Item.{Item}
use Rattle.class_making.specs.declared.item.Item.TheVariants.{Text, Integer, Class, Str, NameAndType, Field, Method, InterfaceMethod}
use Rattle.class_making.specs.declared.plan.Piece.{Piece}
use Rattle.class_making.specs.declared.plan.Piece.TheVariants.{Byte, Index}
use Rattle.class_making.specs.declared.plan.CodePlan.{CodePlan}
use Rattle.class_making.specs.declared.plan.FieldPlan.{FieldPlan}
use Rattle.class_making.specs.declared.plan.MethodPlan.{MethodPlan}
use Rattle.class_making.specs.declared.plan.ClassPlan.{ClassPlan}
use Rattle.class_making.specs.Making.{expanded}
use Rattle.class_making.specs.Plans.{plan_mentions, items_of}

-- ---- items

-- a text that a pool can hold (4.4.7)
abbrev pub IsPoolText : List ℕ → Type 0
IsPoolText units = AreUnits units × (length (utf8_bytes units) < 2 ^ 16)

-- texts fit, a class is named as a class or an array type (4.4.1), and descriptors and the names that stand with them are such (4.4.2, 4.4.6)
abbrev pub IsRightItem : Item → Type 0
IsRightItem (Text units) = IsPoolText units
IsRightItem (Integer n) = n < 2 ^ 32
IsRightItem (Class name) = IsClassName name ⊎ IsArray name
IsRightItem (Str units) = Unit {0}
IsRightItem (NameAndType name descriptor) = (IsField descriptor × IsUnqualified name) ⊎ (IsMethod descriptor × IsMethodName name)
IsRightItem (Field owner name descriptor) = IsField descriptor
IsRightItem (Method owner name descriptor) = IsMethod descriptor
IsRightItem (InterfaceMethod owner name descriptor) = IsMethod descriptor

-- it and what it names may stand in a pool
abbrev pub IsRightMention : Item → Type 0
IsRightMention x = AllByRecursion IsRightItem (expanded x)

-- ---- code (4.7.3)

abbrev pub piece_length : Piece → ℕ
piece_length (Byte byte) = 1
piece_length (Index x) = 2

-- in bytes
abbrev pub code_length : List Piece → ℕ
code_length [] = 0
code_length (piece ∷ pieces) = piece_length piece + code_length pieces

abbrev pub IsRightPiece : Piece → Type 0
IsRightPiece (Byte byte) = byte < 2 ^ 8
IsRightPiece (Index x) = Unit {0}

-- from 1 to 65,535 bytes, and fewer than 2^32 of the attribute: 12 with no table of frames, and 6 beside the bytes of one
pub record IsRightCodePlan (k : CodePlan) : Type 0 where
  pub max_stack : IsHalf k.max_stack
  pub max_locals : IsHalf k.max_locals
  pub not_empty : 1 ≤ code_length k.pieces
  pub not_long : code_length k.pieces ≤ 65535
  pub pieces : AllByRecursion IsRightPiece k.pieces
  pub stack_map : IfSome k.stack_map (λ bytes. 18 + code_length k.pieces + length bytes < 2 ^ 32)

-- code stands exactly where the method is neither abstract nor native
abbrev pub HasRightCode : (flags : ℕ) → Option CodePlan → Type 0
HasRightCode flags None = IsSet flags acc_abstract ⊎ IsSet flags acc_native
HasRightCode flags (Some k) = (¬ IsSet flags acc_abstract) × (¬ IsSet flags acc_native) × IsRightCodePlan k

-- ---- members

-- a field of a class of these flags (4.5)
pub record IsRightFieldPlan (class_flags : ℕ) (f : FieldPlan) : Type 0 where
  pub flags : IsHalf f.flags
  pub name : IsUnqualified f.name
  pub descriptor : IsField f.descriptor
  pub access : HasOneAccess f.flags
  pub of_interface : IsSet class_flags acc_interface → IsSet f.flags acc_public × IsSet f.flags acc_static × IsSet f.flags acc_final

-- an instance initializer stands in no interface, isn't static and returns nothing (2.9)
pub record IsRightInitializerPlan (class_flags : ℕ) (m : MethodPlan) : Type 0 where
  pub of_class : ¬ IsSet class_flags acc_interface
  pub not_static : ¬ IsSet m.flags acc_static
  pub nothing : ReturnsNothing m.descriptor

-- a method of a class of these flags (4.6)
pub record IsRightMethodPlan (class_flags : ℕ) (m : MethodPlan) : Type 0 where
  pub flags : IsHalf m.flags
  pub name : IsDeclaredName m.name
  pub descriptor : TakesFewWords m.flags m.descriptor
  pub access : HasOneAccess m.flags
  pub plain : IsSet m.flags acc_abstract → IsPlain m.flags
  pub initializer : m.name ≡ codes "<init>" → IsRightInitializerPlan class_flags m
  pub code : HasRightCode m.flags m.code

-- ---- the class (4.1)

-- a name and a descriptor
abbrev pub PlanSignature : Type 0
PlanSignature = List ℕ × List ℕ

abbrev pub field_signature : FieldPlan → PlanSignature
field_signature f = (f.name, f.descriptor)

abbrev pub method_signature : MethodPlan → PlanSignature
method_signature m = (m.name, m.descriptor)

-- no two members have the same name and descriptor
abbrev pub HaveOwnSignatures : {X : Type 0} → (X → PlanSignature) → List X → Type 0
HaveOwnSignatures signature [] = Unit {0}
HaveOwnSignatures signature (x ∷ xs) = AllByRecursion (λ y. ¬ (signature x ≡ signature y)) xs × HaveOwnSignatures signature xs

-- what the plan says may stand in a class file, and its pool has room for it
pub record IsRightPlan (p : ClassPlan) : Type 0 where
  pub mentions : AllByRecursion IsRightMention (plan_mentions p)
  pub room : length (items_of p) ≤ 65534
  pub oldest : 50 ≤ p.major
  pub newest : p.major ≤ 52
  pub flags : IsHalf p.flags
  pub of_interface : IsSet p.flags acc_interface → IsSet p.flags acc_abstract
  pub name : IsClassName p.name
  pub superclass : AllByRecursion IsClassName (option_to_list p.superclass)
  pub interfaces : AllByRecursion IsClassName p.interfaces
  pub few_interfaces : length p.interfaces < 2 ^ 16
  pub fields : AllByRecursion (IsRightFieldPlan p.flags) p.fields
  pub few_fields : length p.fields < 2 ^ 16
  pub distinct_fields : HaveOwnSignatures field_signature p.fields
  pub methods : AllByRecursion (IsRightMethodPlan p.flags) p.methods
  pub few_methods : length p.methods < 2 ^ 16
  pub distinct_methods : HaveOwnSignatures method_signature p.methods
