-- What the verifier asks of each instruction: JVM Specification SE 8, 4.10.1.9, in the order of the rows.
use Rattle.std.specs.Prelude.{ℕ, ◌+◌, ◌==◌, Bool, true, false, not, ◌&&◌, ◌||◌, nat_le, if◌then◌else◌, List, [], ◌∷◌, ◌++◌, map, reverse, Option, Some, None, ℤ}
use Rattle.std.specs.Prelude.{pos, ◌+ℤ◌, slice_get}
use Rattle.std.specs.List.{list_any, list_all}
use Rattle.bytecode_model.specs.declared.Value.{Value}
use Rattle.bytecode_model.specs.declared.Value.TheVariants.{Int, Long, Ref, Null, Unset}
use Rattle.bytecode_model.specs.Lists.{onto, natural}
use Rattle.bytecode_model.specs.Types.{NumberType, IntType, LongType, Kind, OfClass, OfNumbers, OfReferences, Declared, Moved, Numbers, element_type}
use Rattle.bytecode_model.specs.Program.{Program, Method, Body, kind_of, throwable_class}
use Rattle.bytecode_model.specs.Rows as rows
use Rattle.bytecode_model.specs.Rows.{Row}
use Rattle.bytecode_model.specs.Slots.{shuffle, stored}
use Rattle.bytecode_model.specs.Steps.{row_in}
use Rattle.bytecode_typing.specs.Types.{VarType, Top, Integer, LongInteger, NullReference, UninitializedThis, Uninitialized, ReferenceTo, TypeFrame}
use Rattle.bytecode_typing.specs.Types.{is_long_type, number_type, type_of, result_types, is_reference_type, is_initialized, is_this, moves, moved_words}
use Rattle.bytecode_typing.specs.Types.{substituted, holds_made}
use Rattle.bytecode_typing.specs.Assignable.{is_assignable, is_assignable_item, flows_to}
use Rattle.bytecode_typing.specs.Rules as rule
use Rattle.bytecode_typing.specs.Rules.{Checked, Fails, Leaves, need, found, on_type, on_reference, on_number_types, on_argument_types}

-- ---- what isn't initialised

abbrev pub class_made_by : Row → Option ℕ
class_made_by (rows.New c) = Some c
class_made_by r = None

-- the class that the `new` at a place names
abbrev pub made_at : Program → (method pc : ℕ) → Option ℕ
made_at P n pc = onto (row_in P n pc) (λ x. class_made_by x.1)

-- the class of which an uninitialised type of a method is
abbrev pub class_begun : Program → (number : ℕ) → Method → VarType → Option ℕ
class_begun P n m UninitializedThis = Some m.owner
class_begun P n m (Uninitialized place) = made_at P n place
class_begun P n m t = None

abbrev pub as_reference : VarType → Option ℕ → VarType
as_reference t None = t
as_reference t (Some c) = ReferenceTo (OfClass c)

-- Where the rules on stack and access ask for a class, what isn't initialised counts as a reference to its class. Whether it may be used so, the rule on
-- initialisation says.
abbrev pub seen : Program → (number : ℕ) → Method → VarType → VarType
seen P n m t = as_reference t (class_begun P n m t)

-- ---- constants and arrays

abbrev pub reference_or_top : Option Kind → VarType
reference_or_top None = Top
reference_or_top (Some k) = ReferenceTo k

-- the type of a constant; a string is one of the objects that are there at the start
abbrev pub constant_type : Program → Value → VarType
constant_type P (Int n) = Integer
constant_type P (Long n) = LongInteger
constant_type P (Ref p) = reference_or_top (onto (slice_get P.first_objects p) (λ o. kind_of P o))
constant_type P Null = NullReference
constant_type P Unset = Top

abbrev pub is_array_type : VarType → Bool
is_array_type NullReference = true
is_array_type (ReferenceTo (OfNumbers code)) = true
is_array_type (ReferenceTo (OfReferences k)) = true
is_array_type t = false

abbrev pub same_number : NumberType → NumberType → Bool
same_number IntType IntType = true
same_number LongType LongType = true
same_number s t = false

-- null, or an array of one of these codes, whose elements are such numbers
abbrev pub is_array_type_of : NumberType → (codes : List ℕ) → VarType → Bool
is_array_type_of number codes NullReference = true
is_array_type_of number codes (ReferenceTo (OfNumbers a)) = list_any (λ c. c == a) codes && same_number (element_type a) number
is_array_type_of number codes t = false

-- what an array of references is loaded as; of null, null
abbrev pub component_type : VarType → Option VarType
component_type NullReference = Some NullReference
component_type (ReferenceTo (OfReferences k)) = Some (ReferenceTo k)
component_type t = None

abbrev pub is_there : {A : Type 0} → Option A → Bool
is_there None = false
is_there (Some x) = true

abbrev pub is_class : Option ℕ → ℕ → Bool
is_class None d = false
is_class (Some c) d = c == d

-- the current class or a superclass of it
abbrev pub is_own_class : Program → Method → ℕ → Bool
is_own_class P m named = named == m.owner || (P.extends m.owner named && not (P.is_interface named))

-- One method's instruction at pc, before which the frame f stands; `frames` has the frames of branch targets.
module _ (P : Program) (n : ℕ) (m : Method) (b : Body) (frames : ℕ → Option TypeFrame) (pc : ℕ) (f : TypeFrame) where
  abbrev pub with_types : (locals stack : List VarType) → TypeFrame
  with_types ls st = record f { locals = ls; stack = st }

  -- the other rules hold
  abbrev pub goes : (locals stack : List VarType) → Checked
  goes ls st = Leaves (Some (with_types ls st)) true true true

  -- the frame at a branch target
  abbrev pub frame_at : Option ℕ → Option TypeFrame
  frame_at None = None
  frame_at (Some place) = frames place

  -- a branch to the offset is taken (targetIsTypeSafe)
  abbrev pub reaches : (stack : List VarType) → (offset : ℤ) → Bool
  reaches st offset = flows_to P (with_types f.locals st) (frame_at (natural (pos pc +ℤ offset)))

  abbrev pub seen_here : VarType → VarType
  seen_here t = seen P n m t

  abbrev pub is_seen_as : Kind → VarType → Bool
  is_seen_as k t = is_assignable P (seen_here t) (ReferenceTo k)

  -- a value for a field, a static or a result
  abbrev pub is_seen_for : Declared → VarType → Bool
  is_seen_for d t = is_assignable_item P (seen_here t) (type_of d)

  -- a guarded member is used on objects of the current class alone (passesProtectedCheck, 4.10.1.8)
  abbrev pub may_access : VarType → Bool
  may_access t = if P.guarded n pc then is_seen_as (OfClass m.owner) t else true

  -- a field may be written in `this` before it is initialised, where the current class declares it
  abbrev pub may_be_written : (owner : ℕ) → VarType → Bool
  may_be_written owner UninitializedThis = owner == m.owner
  may_be_written owner t = is_initialized t

  -- an `<init>` of the class may begin what has this type: of the class that `new` names, or of the current class or its superclass for `this`
  abbrev pub may_begin : (class : ℕ) → VarType → Bool
  may_begin c UninitializedThis = c == m.owner || is_class (P.superclass m.owner) c
  may_begin c (Uninitialized place) = is_class (made_at P n place) c
  may_begin c t = false

  -- the frame once what has the type t is begun: each copy of it is a reference to its class
  abbrev pub begun : (t : VarType) → (rest : List VarType) → TypeFrame
  begun t rest = record {
    locals = map (substituted t (seen_here t)) f.locals;
    stack = map (substituted t (seen_here t)) rest;
    flag = f.flag && not (is_this t);
  }

  -- `<init>` (4.10.1.9.invokespecial)
  abbrev pub init_check : (named : ℕ) → (t : VarType) → (taken rest : List VarType) → Checked
  init_check named t taken rest =
      need (is_reference_type t) rule.Stack (Leaves (Some (begun t rest)) true (list_all is_initialized taken && may_begin named t) true)

  -- another method of the current class or of a superclass
  abbrev pub super_check : (named : ℕ) → Method → (t : VarType) → (taken rest : List VarType) → Checked
  super_check named k t taken rest =
      need (is_own_class P m named && is_seen_as (OfClass m.owner) t) rule.Stack
      (Leaves (Some (with_types f.locals (result_types k.result ++ rest))) (may_access t) (is_initialized t && list_all is_initialized taken) true)

  -- a method that the receiver's class selects
  abbrev pub virtual_check : (named method : ℕ) → Checked
  virtual_check named c =
      found (slice_get P.methods c) rule.Operand (λ k. on_argument_types P seen_here (reverse k.parameters) f.stack (λ taken rest. on_type rest (λ t rest2.
      need (is_seen_as (OfClass named) t) rule.Stack
      (Leaves (Some (with_types f.locals (result_types k.result ++ rest2))) (may_access t) (is_initialized t && list_all is_initialized taken) true))))

  -- whether a return may come now: an `<init>` returns once `this` is initialised
  abbrev pub may_return : Bool
  may_return = not (m.is_init && f.flag)

  -- the return instruction of the method's descriptor
  abbrev pub return_check : (result : Option Declared) → (given : Option Moved) → Checked
  return_check None None = Leaves None true may_return true
  return_check (Some d) (Some sort) =
      on_type f.stack (λ t rest. need (moves sort t && is_seen_for d t) rule.Stack (Leaves None true (is_initialized t && may_return) true))
  return_check result given = Fails rule.Stack

  -- the instruction of a row
  abbrev pub row_check : Row → Checked
  -- nop, and constants (4.10.1.9: nop, aconst_null, iconst, lconst, bipush, sipush, ldc, ldc2_w)
  row_check rows.Nothing = goes f.locals f.stack
  row_check (rows.Push v) = goes f.locals (constant_type P v ∷ f.stack)
  -- arithmetic, conversions and lcmp (iadd, ladd, ineg, ishl, i2l, l2i, lcmp and those like them)
  row_check (rows.Compute taken given compute) = on_number_types taken f.stack (λ rest. goes f.locals (number_type given ∷ rest))
  -- conditional branches, goto and switches (if, if_icmp, if_acmp, ifnull, goto, tableswitch, lookupswitch)
  row_check (rows.Branch taken test offset) =
      on_number_types taken f.stack (λ rest. Leaves (Some (with_types f.locals rest)) true true (reaches rest offset))
  row_check (rows.BranchSame wanted offset) =
      on_reference f.stack (λ t rest. on_reference rest (λ u rest2.
      Leaves (Some (with_types f.locals rest2)) true (is_initialized t && is_initialized u) (reaches rest2 offset)))
  row_check (rows.BranchNull wanted offset) =
      on_reference f.stack (λ t rest. Leaves (Some (with_types f.locals rest)) true (is_initialized t) (reaches rest offset))
  row_check (rows.Jump offset) = Leaves None true true (reaches f.stack offset)
  row_check (rows.Switch default cases) =
      on_number_types (IntType ∷ []) f.stack (λ rest. Leaves None true true (reaches rest default && list_all (λ c. reaches rest c.offset) cases))
  -- local variables (iload, lload, aload, istore, lstore, astore, iinc)
  row_check (rows.Load sort k) =
      need (nat_le (k + moved_words sort) b.max_locals) rule.Operand (found (slice_get f.locals k) rule.Operand (λ t.
      need (moves sort t) rule.Stack (goes f.locals (t ∷ f.stack))))
  row_check (rows.Store sort k) =
      need (nat_le (k + moved_words sort) b.max_locals) rule.Operand (on_type f.stack (λ t rest.
      need (moves sort t) rule.Stack (found (stored is_long_type Top f.locals k t) rule.Operand (λ ls. goes ls rest))))
  row_check (rows.Increment k n) =
      need (nat_le (k + 1) b.max_locals) rule.Operand (found (slice_get f.locals k) rule.Operand (λ t.
      need (moves (Numbers IntType) t) rule.Stack (goes f.locals f.stack)))
  -- the operand stack (pop, pop2, dup, dup_x1, dup_x2, dup2, dup2_x1, dup2_x2, swap)
  row_check (rows.Shuffle form upper lower) = found (shuffle is_long_type form upper lower f.stack) rule.Stack (λ st. goes f.locals st)
  -- fields (getstatic, putstatic, getfield, putfield)
  row_check (rows.GetStatic k) = found (slice_get P.statics k) rule.Operand (λ d. goes f.locals (type_of d ∷ f.stack))
  row_check (rows.PutStatic k) =
      found (slice_get P.statics k) rule.Operand (λ d. on_type f.stack (λ t rest.
      need (is_seen_for d t) rule.Stack (Leaves (Some (with_types f.locals rest)) true (is_initialized t) true)))
  row_check (rows.GetField named owner k) =
      found (slice_get (P.fields owner) k) rule.Operand (λ d. on_type f.stack (λ t rest.
      need (is_seen_as (OfClass named) t) rule.Stack
      (Leaves (Some (with_types f.locals (type_of d ∷ rest))) (may_access t) (is_initialized t) true)))
  row_check (rows.PutField named owner k) =
      found (slice_get (P.fields owner) k) rule.Operand (λ d. on_type f.stack (λ t rest. on_type rest (λ u rest2.
      need (is_seen_for d t && is_seen_as (OfClass named) u) rule.Stack
      (Leaves (Some (with_types f.locals rest2)) (may_access u) (is_initialized t && may_be_written owner u) true))))
  -- objects that are made (new, newarray, anewarray)
  row_check (rows.New c) =
      need (not (holds_made pc f.stack)) rule.Stack (goes (map (substituted (Uninitialized pc) Top) f.locals) (Uninitialized pc ∷ f.stack))
  row_check (rows.NewNumbers code) = on_number_types (IntType ∷ []) f.stack (λ rest. goes f.locals (ReferenceTo (OfNumbers code) ∷ rest))
  row_check (rows.NewReferences k) = on_number_types (IntType ∷ []) f.stack (λ rest. goes f.locals (ReferenceTo (OfReferences k) ∷ rest))
  -- arrays (arraylength, iaload, laload, baload, caload, saload, iastore, lastore, bastore, castore, sastore, aaload, aastore)
  row_check rows.Length = on_type f.stack (λ t rest. need (is_array_type t) rule.Stack (goes f.locals (Integer ∷ rest)))
  row_check (rows.LoadNumber number codes) =
      on_number_types (IntType ∷ []) f.stack (λ rest. on_type rest (λ t rest2.
      need (is_array_type_of number codes t) rule.Stack (goes f.locals (number_type number ∷ rest2))))
  row_check (rows.StoreNumber number codes kept) =
      on_number_types (number ∷ IntType ∷ []) f.stack (λ rest. on_type rest (λ t rest2.
      need (is_array_type_of number codes t) rule.Stack (goes f.locals rest2)))
  row_check rows.LoadReference =
      on_number_types (IntType ∷ []) f.stack (λ rest. on_type rest (λ t rest2. found (component_type t) rule.Stack (λ u. goes f.locals (u ∷ rest2))))
  row_check rows.StoreReference =
      on_reference f.stack (λ t rest. on_number_types (IntType ∷ []) rest (λ rest2. on_type rest2 (λ u rest3.
      need (is_there (component_type u)) rule.Stack (Leaves (Some (with_types f.locals rest3)) true (is_initialized t) true))))
  -- references (checkcast, instanceof, monitorenter, monitorexit, athrow)
  row_check (rows.Cast k) =
      on_reference f.stack (λ t rest. Leaves (Some (with_types f.locals (ReferenceTo k ∷ rest))) true (is_initialized t) true)
  row_check (rows.Test k) = on_reference f.stack (λ t rest. Leaves (Some (with_types f.locals (Integer ∷ rest))) true (is_initialized t) true)
  row_check rows.Monitor = on_reference f.stack (λ t rest. Leaves (Some (with_types f.locals rest)) true (is_initialized t) true)
  row_check rows.Throw =
      on_type f.stack (λ t rest. need (is_seen_as (OfClass throwable_class) t) rule.Stack (Leaves None true (is_initialized t) true))
  -- methods (invokestatic, invokespecial, invokevirtual, invokeinterface, and the returns)
  row_check (rows.CallStatic c) =
      found (slice_get P.methods c) rule.Operand (λ k. on_argument_types P seen_here (reverse k.parameters) f.stack (λ taken rest.
      Leaves (Some (with_types f.locals (result_types k.result ++ rest))) true (list_all is_initialized taken) true))
  row_check (rows.CallSpecial named c) =
      found (slice_get P.methods c) rule.Operand (λ k. on_argument_types P seen_here (reverse k.parameters) f.stack (λ taken rest. on_type rest (λ t rest2.
      if k.is_init then init_check named t taken rest2 else super_check named k t taken rest2)))
  row_check (rows.CallVirtual named c) = virtual_check named c
  row_check (rows.CallInterface named c) = virtual_check named c
  row_check (rows.Return given) = return_check m.result given
  -- input and output (6.2)
  row_check rows.Read = goes f.locals (Integer ∷ f.stack)
  row_check rows.Write = on_number_types (IntType ∷ []) f.stack (λ rest. goes f.locals rest)
