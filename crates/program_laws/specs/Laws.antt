-- What a resolved program keeps: JVM Specification SE 8, 4.10, 5.3.5, 5.4.5 and 5.4.6.
use Rattle.std.specs.Prelude.{◌≡◌, ◌⊎◌, ℕ, false, List, [], Some, IfSome, slice_get, IsTrue}
use Rattle.class_pool.specs.declared.class.ClassFile.{ClassFile}
use Rattle.bytecode_model.specs.Program.{Program, object_class, serializable_class, cloneable_class, throwable_class}
use Rattle.bytecode_typing.specs.Lawful.{Lawful}
use Rattle.class_lookup.specs.Parts.{Signature, has_code}
use Rattle.class_lookup.specs.Hierarchy.{is_concrete, extends}
use Rattle.class_lookup.specs.Lookup.{Place}
use Rattle.class_lookup.specs.Selection.{signature_at, is_method_with, is_instance, select}
use Rattle.program_tables.specs.Resolved.{resolved}
use Rattle.program_tables.specs.Resolving.{IsResolved}

-- the hierarchy is an order with Object at its top; above an interface there are interfaces and Object alone
pub record HasHierarchy (P : Program) : Type 0 where
  pub self : (c : ℕ) → IsTrue (P.extends c c)
  pub through : (a b c : ℕ) → IsTrue (P.extends a b) → IsTrue (P.extends b c) → IsTrue (P.extends a c)
  pub object : (c : ℕ) → IsTrue (P.extends c object_class)
  pub root : (c : ℕ) → IsTrue (P.extends object_class c) → c ≡ object_class
  pub superclass : (c d : ℕ) → P.superclass c ≡ Some d → IsTrue (P.extends c d)
  pub superinterfaces : (b c : ℕ) → IsTrue (P.is_interface b) → IsTrue (P.extends b c) → IsTrue (P.is_interface c) ⊎ (c ≡ object_class)
  pub serializable : IsTrue (P.is_interface serializable_class)
  pub cloneable : IsTrue (P.is_interface cloneable_class)
  pub throwable : P.is_interface throwable_class ≡ false

abbrev pub HierarchyLaw : Type 0
HierarchyLaw = (cs : List ClassFile) → IsResolved cs → HasHierarchy (resolved cs)

-- a class has the fields of what it extends first, at the same indexes
abbrev pub KeepsFields : Program → Type 0
KeepsFields P = (c d : ℕ) → IsTrue (P.extends c d) → (k : ℕ) → IfSome (slice_get (P.fields d) k) (λ t. slice_get (P.fields c) k ≡ Some t)

pub record FieldLaw : Type 0 where
  pub prefix : (cs : List ClassFile) → IsResolved cs → KeepsFields (resolved cs)
  pub object : (cs : List ClassFile) → IsResolved cs → (resolved cs).fields object_class ≡ []

-- a method that is selected has code, and the name and the descriptor of the resolved one; it is an instance method of the receiver's class or of a superclass
pub record IsSelectedMethod (cs : List ClassFile) (receiver : ℕ) (s : Signature) (t : Place) : Type 0 where
  pub signature : signature_at cs t ≡ Some s
  pub instance : IsTrue (is_instance cs t)
  pub code : IsTrue (is_method_with has_code cs t)
  pub above : IsTrue (extends cs receiver t.0)

-- where there are objects of the receiver's class, a method is selected for each instance method of what it extends
abbrev pub SelectionLaw : Type 0
SelectionLaw = (cs : List ClassFile) → IsResolved cs → (receiver : ℕ) (a : Place) (s : Signature) → signature_at cs a ≡ Some s → IsTrue (is_instance cs a)
    → IsTrue (is_concrete cs receiver)
    → IsTrue (extends cs receiver a.0)
    → (t : Place) × (select cs receiver a ≡ Some t) × IsSelectedMethod cs receiver s t

-- resolved programs have what typing presupposes of a program
abbrev pub ProgramLaw : Type 0
ProgramLaw = (cs : List ClassFile) → IsResolved cs → Lawful (resolved cs)
