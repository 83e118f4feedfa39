-- What the resolution of classes gives of a program, beyond its typing: JVM Specification SE 8, chapter 5. Each premise says which rule gives it.
use Rattle.std.specs.Prelude.{◌≡◌, ℕ, true, false, [], Option, Some, None, IfSome, slice_get, FitsSigned, ◌⊎◌}
use Rattle.std.specs.Int.{w32, w64}
use Rattle.std.specs.Option.{IsSomeAnd}
use Rattle.opcodes.specs.Start.{IsStart}
use Rattle.bytecode_model.specs.declared.Value.{Value}
use Rattle.bytecode_model.specs.declared.Value.TheVariants.{Int, Long, Ref, Null, Unset}
use Rattle.bytecode_model.specs.Lists.{onto}
use Rattle.bytecode_model.specs.Types.{OfClass, OfNumbers, OfReferences}
use Rattle.bytecode_model.specs.Program.{Program, Method, Body, kind_of, type_number, is_of, object_class, serializable_class, cloneable_class, throwable_class}
use Rattle.bytecode_model.specs.Rows as rows
use Rattle.bytecode_model.specs.Rows.{Row}
use Rattle.bytecode_model.specs.Effects.{Fault, fault_object}
use Rattle.bytecode_model.specs.Steps.{row_in}
use Rattle.bytecode_typing.specs.Tests.{Holds, AllTwo}
use Rattle.bytecode_typing.specs.Checks.{is_own_class}
use Rattle.bytecode_typing.specs.Fits.{HasDeclared, ObjectFits, numbers_of}

abbrev pub IsThere : {A : Type 0} → Option A → Type 0
IsThere o = IsSomeAnd o (λ x. Unit {0})

-- a constant of the pool or of the instruction has the width of its type (4.4.4, 4.4.5), and a string is one of the objects that are there at the start
abbrev pub IsConstant : Program → Value → Type 0
IsConstant P (Int i) = FitsSigned w32 i
IsConstant P (Long i) = FitsSigned w64 i
IsConstant P (Ref p) = IsThere (onto (slice_get P.first_objects p) (λ o. kind_of P o))
IsConstant P Null = Unit {0}
IsConstant P Unset = ⊥

-- what invokestatic names is a class method with code (5.4.3.3, 6.5.invokestatic)
pub record IsStaticCall (k : Method) : Type 0 where
  pub static : k.has_this ≡ false
  pub code : IsThere k.body

-- What invokespecial names is an instance method with code: an `<init>` of the named class, which gives no result, or a method that is fixed from the
-- named class, or from the superclass of the current class, upwards (6.5.invokespecial).
pub record IsSpecialCall (P : Program) (m : Method) (named : ℕ) (k : Method) : Type 0 where
  pub instance : k.has_this ≡ true
  pub code : IsThere k.body
  pub init : k.is_init ≡ true → (k.owner ≡ named) × (k.result ≡ None)
  pub above : k.is_init ≡ false → Holds (is_own_class P m named) → Holds (P.extends m.owner k.owner)

-- what invokevirtual names is an instance method other than `<init>`, of the named class, which isn't an interface, or of a superclass or
-- superinterface (5.4.3.3)
pub record IsVirtualCall (P : Program) (named : ℕ) (k : Method) : Type 0 where
  pub instance : k.has_this ≡ true
  pub other : k.is_init ≡ false
  pub class : P.is_interface named ≡ false
  pub inherited : Holds (P.extends named k.owner)

-- what invokeinterface names is an instance method of an interface (5.4.3.4)
pub record IsInterfaceCall (k : Method) : Type 0 where
  pub instance : k.has_this ≡ true
  pub other : k.is_init ≡ false

-- what getfield and putfield name is a field of the named class, which isn't an interface, or of a superclass (5.4.3.2)
pub record IsFieldOf (P : Program) (named owner : ℕ) : Type 0 where
  pub class : P.is_interface named ≡ false
  pub inherited : Holds (P.extends named owner)

-- what resolution gives of what the instruction of method m names
abbrev pub IsResolvedRow : Program → Method → Row → Type 0
IsResolvedRow P m (rows.Push v) = IsConstant P v
IsResolvedRow P m (rows.GetField named owner k) = IsFieldOf P named owner
IsResolvedRow P m (rows.PutField named owner k) = IsFieldOf P named owner
-- a class that isn't abstract (6.5.new); each class has a type number, and each kind of array that an instruction makes
IsResolvedRow P m (rows.New c) = (P.is_concrete c ≡ true) × IsThere (type_number P (OfClass c))
IsResolvedRow P m (rows.NewNumbers code) = IsThere (type_number P (OfNumbers code))
IsResolvedRow P m (rows.NewReferences k) = IsThere (type_number P (OfReferences k))
IsResolvedRow P m (rows.CallStatic c) = IsSomeAnd (slice_get P.methods c) IsStaticCall
IsResolvedRow P m (rows.CallSpecial named c) = IsSomeAnd (slice_get P.methods c) (IsSpecialCall P m named)
IsResolvedRow P m (rows.CallVirtual named c) = IsSomeAnd (slice_get P.methods c) (IsVirtualCall P named)
IsResolvedRow P m (rows.CallInterface named c) = IsSomeAnd (slice_get P.methods c) IsInterfaceCall
IsResolvedRow P m r = Unit {0}

-- a method that is selected in a class for a resolved one has code, its parameters and its result, and stands in the class or above it (5.4.5, 5.4.6)
pub record IsSelected (P : Program) (receiver : ℕ) (k j : Method) : Type 0 where
  pub parameters : j.parameters ≡ k.parameters
  pub result : j.result ≡ k.result
  pub instance : j.has_this ≡ true
  pub other : j.is_init ≡ false
  pub code : IsThere j.body
  pub above : Holds (P.extends receiver j.owner)

pub record Lawful (P : Program) : Type 0 where
  -- a class is itself, and what its superclasses and superinterfaces are (4.10, 8.1.4 of the language); each class is an Object, which has none above it
  pub self : (c : ℕ) → Holds (P.extends c c)
  pub through : (a b c : ℕ) → Holds (P.extends a b) → Holds (P.extends b c) → Holds (P.extends a c)
  pub object : (c : ℕ) → Holds (P.extends c object_class)
  pub root : (c : ℕ) → Holds (P.extends object_class c) → c ≡ object_class
  pub superclass : (c d : ℕ) → P.superclass c ≡ Some d → Holds (P.extends c d)
  -- above an interface there are interfaces and Object alone: the superclass of an interface is Object (4.1)
  pub superinterfaces : (b c : ℕ) → Holds (P.is_interface b) → Holds (P.extends b c) → Holds (P.is_interface c) ⊎ (c ≡ object_class)
  -- of the core classes; Object declares no field, and no method but `<init>`
  pub serializable : Holds (P.is_interface serializable_class)
  pub cloneable : Holds (P.is_interface cloneable_class)
  pub throwable : P.is_interface throwable_class ≡ false
  pub object_fields : P.fields object_class ≡ []
  pub object_methods : (c : ℕ) (k : Method) → slice_get P.methods c ≡ Some k → k.owner ≡ object_class → k.has_this ≡ true → k.is_init ≡ true
  -- a class has its superclass's fields first, at the same indexes
  pub fields : (c d : ℕ) → Holds (P.extends c d) → (k : ℕ) → IfSome (slice_get (P.fields d) k) (λ t. slice_get (P.fields c) k ≡ Some t)
  -- where the receiver's class isn't abstract and has the resolved method's class above it, a method is selected
  pub selects : (receiver c : ℕ) (k : Method) → slice_get P.methods c ≡ Some k → k.has_this ≡ true → k.is_init ≡ false → P.is_concrete receiver ≡ true
      → Holds (P.extends receiver k.owner) → IsSomeAnd (P.select receiver c) (λ t. IsSomeAnd (slice_get P.methods t) (IsSelected P receiver k))
  -- what the instructions name
  pub rows : (n : ℕ) (m : Method) (b : Body) → slice_get P.methods n ≡ Some m → m.body ≡ Some b → (pc : ℕ) → IsStart b.code pc
      → IfSome (row_in P n pc) (λ x. IsResolvedRow P m x.1)
  -- boot is a class method without a result
  pub boot : IsSomeAnd (slice_get P.methods P.boot) (λ k. (k.has_this ≡ false) × (k.result ≡ None) × IsThere k.body)
  -- a program that comes of class files has at the start an object of each class that instructions raise
  pub faults : P.linked ≡ true → (f : Fault) → IsSomeAnd (slice_get P.first_objects (fault_object f))
      (λ o. IsSomeAnd (kind_of P o) (λ k. Holds (is_of P k (OfClass throwable_class))))
  -- the objects and the static fields begin with what their types allow
  pub first_objects : (p : ℕ) → IfSome (slice_get P.first_objects p) (ObjectFits P (numbers_of P.first_objects))
  pub first_statics : AllTwo (HasDeclared P (numbers_of P.first_objects)) P.statics P.first_statics
