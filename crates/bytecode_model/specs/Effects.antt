-- What each row does to the top frame and to the rest (JVM Specification SE 8, 6.5).
use Rattle.std.specs.Prelude.{ℕ, ◌+◌, ℤ, pos, ◌+ℤ◌, Bool, true, false, not, ◌==◌, nat_le, if◌then◌else◌, List, [], ◌∷◌, length, map, reverse, replicate, Option}
use Rattle.std.specs.Prelude.{Some, None, slice_get}
use Rattle.std.specs.List.{list_any}
use Rattle.std.specs.Int.{w8, w32, w64, int_wrap}
use Rattle.opcodes.specs.declared.instruction.Case.{Case}
use Rattle.bytecode_model.specs.declared.Value.{Value}
use Rattle.bytecode_model.specs.declared.Value.TheVariants.{Int, Long, Ref, Null, Unset}
use Rattle.bytecode_model.specs.Lists.{onto, replaced, natural}
use Rattle.bytecode_model.specs.Types.{NumberType, IntType, LongType, References, Kind, OfClass, OfNumbers, OfReferences, Declared, is_moved, suits, is_long}
use Rattle.bytecode_model.specs.Types.{zero_of, default, element_type}
use Rattle.bytecode_model.specs.State.{Object, Frame, State}
use Rattle.bytecode_model.specs.Program.{Program, Limits, Method, kind_of, type_number, is_of}
use Rattle.bytecode_model.specs.Sizes.{object_words, made_words}
use Rattle.bytecode_model.specs.Numbers.{is_equal, low_bits}
use Rattle.bytecode_model.specs.Rows as rows
use Rattle.bytecode_model.specs.Rows.{Row, FunctionOf, Width, StackForm}
use Rattle.bytecode_model.specs.Slots as slots

-- The place goes on to pc, and these are the local variables and the operands then. A new object, one that is read or the byte that the input gives is pushed.
pub data Effect : Type 0 where
  -- no typed program comes to this
  Stuck : Effect
  Go : (pc : ℕ) (locals operands : List Value) → Effect
  Make : Object → (pc : ℕ) (locals operands : List Value) → Effect
  WritePart : (object part : ℕ) (value : Value) (pc : ℕ) (locals operands : List Value) → Effect
  WriteStatic : (field : ℕ) (value : Value) (pc : ℕ) (locals operands : List Value) → Effect
  Take : (pc : ℕ) (locals operands : List Value) → Effect
  Give : (byte pc : ℕ) (locals operands : List Value) → Effect
  Call : (method : ℕ) (arguments operands : List Value) → Effect
  Leave : (result : Option Value) → Effect
  Raise : (object : ℕ) → Effect

-- what instructions raise (2.10); the program's first objects are one of each class, in this order
pub data Fault : Type 0 where
  ArithmeticException : Fault
  ArrayIndexOutOfBoundsException : Fault
  ArrayStoreException : Fault
  ClassCastException : Fault
  IncompatibleClassChangeError : Fault
  NegativeArraySizeException : Fault
  NullPointerException : Fault
  OutOfMemoryError : Fault
  StackOverflowError : Fault

abbrev pub fault_object : Fault → ℕ
fault_object ArithmeticException = 0
fault_object ArrayIndexOutOfBoundsException = 1
fault_object ArrayStoreException = 2
fault_object ClassCastException = 3
fault_object IncompatibleClassChangeError = 4
fault_object NegativeArraySizeException = 5
fault_object NullPointerException = 6
fault_object OutOfMemoryError = 7
fault_object StackOverflowError = 8

abbrev pub fault : Fault → Effect
fault f = Raise (fault_object f)

-- ---- what an instruction takes, one thing after another

abbrev pub on : {A : Type 0} → Option A → (A → Effect) → Effect
on None go = Stuck
on (Some x) go = go x

abbrev pub or_fault : {A : Type 0} → Fault → Option A → (A → Effect) → Effect
or_fault f None go = fault f
or_fault f (Some x) go = go x

abbrev pub only_if : Bool → Effect → Effect
only_if b e = if b then e else Stuck

-- the topmost value
abbrev pub on_top : List Value → (Value → List Value → Effect) → Effect
on_top [] go = Stuck
on_top (v ∷ rest) go = go v rest

-- a number of this type
abbrev pub on_number : NumberType → List Value → (ℤ → List Value → Effect) → Effect
on_number IntType (Int n ∷ rest) go = go n rest
on_number LongType (Long n ∷ rest) go = go n rest
on_number t ops go = Stuck

-- what a function gives for the numbers on top, the topmost first
abbrev pub on_numbers : (R : Type 0) (taken : List NumberType) → FunctionOf taken R → List Value → (R → List Value → Effect) → Effect
on_numbers R [] r ops go = go r ops
on_numbers R (t ∷ ts) f ops go = on_number t ops (λ n rest. on_numbers R ts (f n) rest go)

-- an object; null raises a NullPointerException
abbrev pub on_object : List Object → List Value → (ℕ → Object → List Value → Effect) → Effect
on_object objects (Ref p ∷ rest) go = on (slice_get objects p) (λ o. go p o rest)
on_object objects (Null ∷ rest) go = fault NullPointerException
on_object objects ops go = Stuck

-- values of these types, the first of which is on top; they come out in the opposite order, before those that were taken already
abbrev pub on_values : List Declared → List Value → (taken : List Value) → (List Value → List Value → Effect) → Effect
on_values [] ops taken go = go taken ops
on_values (d ∷ ds) [] taken go = Stuck
on_values (d ∷ ds) (v ∷ ops) taken go = only_if (suits d v) (on_values ds ops (v ∷ taken) go)

-- ---- numbers and references

-- the value of a number, which wraps at the width of its type (2.11.3)
abbrev pub number : NumberType → ℤ → Value
number IntType n = Int (int_wrap w32 n)
number LongType n = Long (int_wrap w64 n)

-- whether two references are the same (6.5.if_acmp<cond>)
abbrev pub same : Value → Value → Option Bool
same (Ref p) (Ref q) = Some (p == q)
same Null Null = Some true
same (Ref p) Null = Some false
same Null (Ref p) = Some false
same v w = None

abbrev pub same_bool : Bool → Bool → Bool
same_bool true b = b
same_bool false b = not b

-- the object is an instance of the class or of a subclass, or its class implements the interface; an array isn't any
abbrev pub has_class : Program → Option Kind → (class : ℕ) → Bool
has_class P (Some (OfClass c)) d = P.extends c d
has_class P k d = false

-- the answer for null, or whether the object that is referred to is of the kind
abbrev pub is_instance : Program → List Object → (null : Bool) → Kind → Value → Option Bool
is_instance P objects null k Null = Some null
is_instance P objects null k (Ref p) = onto (slice_get objects p) (λ o. onto (kind_of P o) (λ l. Some (is_of P l k)))
is_instance P objects null k v = None

-- ---- branches

-- to the offset from the instruction's place
abbrev pub at_offset : Frame → (offset : ℤ) → (operands : List Value) → Effect
at_offset f offset ops = on (natural (pos f.pc +ℤ offset)) (λ pc. Go pc f.locals ops)

abbrev pub branch : Frame → (next : ℕ) → (taken : Bool) → (offset : ℤ) → (operands : List Value) → Effect
branch f next taken offset ops = if taken then at_offset f offset ops else Go next f.locals ops

-- the offset of the first case with the key, or the default one
abbrev pub offset_of_key : (default : ℤ) → List Case → (key : ℤ) → ℤ
offset_of_key default [] key = default
offset_of_key default (c ∷ cs) key = if is_equal c.key key then c.offset else offset_of_key default cs key

-- ---- local variables and the operand stack (2.6.1 and 2.6.2)

abbrev pub stored : List Value → ℕ → Value → Option (List Value)
stored vs k v = slots.stored is_long Unset vs k v

abbrev pub incremented : Value → ℤ → Option Value
incremented (Int x) n = Some (number IntType (x +ℤ n))
incremented v n = None

abbrev pub shuffle : StackForm → (upper lower : Width) → List Value → Option (List Value)
shuffle form upper lower ops = slots.shuffle is_long form upper lower ops

-- ---- objects and arrays

-- an object is made where the heap has room for it
abbrev pub allocate : Program → Limits → State → Kind → (parts : List Value) → (pc : ℕ) → (locals operands : List Value) → Effect
allocate P limits s k parts pc ls ops =
    on (type_number P k) (λ t.
    let o : Object = record { kind = t; parts = parts } in
    if nat_le (made_words P s + object_words P o) limits.heap then Make o pc ls ops else fault OutOfMemoryError)

-- the length of an array that is made
abbrev pub on_size : List Value → (ℕ → List Value → Effect) → Effect
on_size ops go = on_number IntType ops (λ n rest. or_fault NegativeArraySizeException (natural n) (λ size. go size rest))

abbrev pub is_array_of : (codes : List ℕ) → Option Kind → Bool
is_array_of codes (Some (OfNumbers a)) = list_any (λ c. c == a) codes
is_array_of codes k = false

abbrev pub is_array : Option Kind → Bool
is_array (Some (OfNumbers a)) = true
is_array (Some (OfReferences k)) = true
is_array k = false

abbrev pub component_of : Option Kind → Option Kind
component_of (Some (OfReferences k)) = Some k
component_of k = None

-- the index of an element; one outside raises an ArrayIndexOutOfBoundsException
abbrev pub on_element : Object → ℤ → (ℕ → Value → Effect) → Effect
on_element o n go = or_fault ArrayIndexOutOfBoundsException (natural n) (λ k. or_fault ArrayIndexOutOfBoundsException (slice_get o.parts k) (λ v. go k v))

-- ---- methods

-- the receiver and the arguments of an instance method; a receiver that is null raises a NullPointerException
abbrev pub on_receiver : Program → State → Frame → (method : ℕ) → (Method → Object → (arguments rest : List Value) → Effect) → Effect
on_receiver P s f m go =
    on (slice_get P.methods m) (λ k. only_if k.has_this (on_values (reverse k.parameters) f.operands [] (λ args rest.
    on_object s.objects rest (λ p o rest2. go k o (Ref p ∷ args) rest2))))

-- the method that is selected for the receiver (6.5.invokevirtual, 6.5.invokeinterface)
abbrev pub selected : Program → Option Kind → (method : ℕ) → Option ℕ
selected P (Some (OfClass c)) m = P.select c m
selected P k m = None

-- ---- the rows

-- the effect of a row in a frame, where the next instruction is at next
abbrev pub effect : Program → Limits → State → Frame → (next : ℕ) → Row → Effect
effect P limits s f next rows.Nothing = Go next f.locals f.operands
effect P limits s f next (rows.Push v) = Go next f.locals (v ∷ f.operands)
effect P limits s f next (rows.Compute taken given compute) =
    on_numbers (Option ℤ) taken compute f.operands (λ r rest. or_fault ArithmeticException r (λ n. Go next f.locals (number given n ∷ rest)))
effect P limits s f next (rows.Branch taken test offset) = on_numbers Bool taken test f.operands (λ b rest. branch f next b offset rest)
effect P limits s f next (rows.BranchSame wanted offset) =
    on_top f.operands (λ v rest. on_top rest (λ w rest2. on (same v w) (λ b. branch f next (same_bool b wanted) offset rest2)))
effect P limits s f next (rows.BranchNull wanted offset) = on_top f.operands (λ v rest. on (same v Null) (λ b. branch f next (same_bool b wanted) offset rest))
effect P limits s f next (rows.Jump offset) = at_offset f offset f.operands
effect P limits s f next (rows.Switch default cases) = on_number IntType f.operands (λ key rest. at_offset f (offset_of_key default cases key) rest)
effect P limits s f next (rows.Load sort k) = on (slice_get f.locals k) (λ v. only_if (is_moved sort v) (Go next f.locals (v ∷ f.operands)))
effect P limits s f next (rows.Store sort k) =
    on_top f.operands (λ v rest. only_if (is_moved sort v) (on (stored f.locals k v) (λ ls. Go next ls rest)))
effect P limits s f next (rows.Increment k n) =
    on (slice_get f.locals k) (λ v. on (incremented v n) (λ u. on (replaced f.locals k u) (λ ls. Go next ls f.operands)))
effect P limits s f next (rows.Shuffle form upper lower) = on (shuffle form upper lower f.operands) (λ ops. Go next f.locals ops)
effect P limits s f next (rows.GetStatic k) = on (slice_get s.statics k) (λ v. Go next f.locals (v ∷ f.operands))
effect P limits s f next (rows.PutStatic k) =
    on_top f.operands (λ v rest. on (slice_get P.statics k) (λ d. only_if (suits d v) (WriteStatic k v next f.locals rest)))
effect P limits s f next (rows.GetField named owner k) =
    on_object s.objects f.operands (λ p o rest. only_if (has_class P (kind_of P o) owner) (on (slice_get o.parts k) (λ v. Go next f.locals (v ∷ rest))))
-- The value has the field's width before the object below it is looked at: only so is it known which word is the object's (6.5.putfield, 6.5.aastore).
effect P limits s f next (rows.PutField named owner k) =
    on_top f.operands (λ v rest. on (slice_get (P.fields owner) k) (λ d. only_if (suits d v) (on_object s.objects rest (λ p o rest2.
    only_if (has_class P (kind_of P o) owner) (WritePart p k v next f.locals rest2)))))
-- of a class that isn't abstract (6.5.new)
effect P limits s f next (rows.New c) = only_if (P.is_concrete c) (allocate P limits s (OfClass c) (map default (P.fields c)) next f.locals f.operands)
effect P limits s f next (rows.NewNumbers code) =
    on_size f.operands (λ size rest. allocate P limits s (OfNumbers code) (replicate size (zero_of (element_type code))) next f.locals rest)
effect P limits s f next (rows.NewReferences k) = on_size f.operands
    (λ size rest. allocate P limits s (OfReferences k) (replicate size Null) next f.locals rest)
-- of an array alone (6.5.arraylength)
effect P limits s f next rows.Length =
    on_object s.objects f.operands (λ p o rest. only_if (is_array (kind_of P o)) (Go next f.locals (Int (pos (length o.parts)) ∷ rest)))
effect P limits s f next (rows.LoadNumber t codes) =
    on_number IntType f.operands (λ n rest. on_object s.objects rest (λ p o rest2.
    only_if (is_array_of codes (kind_of P o)) (on_element o n (λ i v. Go next f.locals (v ∷ rest2)))))
effect P limits s f next (rows.StoreNumber t codes kept) =
    on_number t f.operands (λ x rest. on_number IntType rest (λ n rest2. on_object s.objects rest2 (λ p o rest3.
    only_if (is_array_of codes (kind_of P o)) (on_element o n (λ i old. WritePart p i (number t (kept x)) next f.locals rest3)))))
effect P limits s f next rows.LoadReference =
    on_number IntType f.operands (λ n rest. on_object s.objects rest (λ p o rest2.
    on (component_of (kind_of P o)) (λ k. on_element o n (λ i v. Go next f.locals (v ∷ rest2)))))
effect P limits s f next rows.StoreReference =
    on_top f.operands (λ v rest. only_if (is_moved References v) (on_number IntType rest (λ n rest2. on_object s.objects rest2 (λ p o rest3.
    on (component_of (kind_of P o)) (λ k. on_element o n (λ i old. on (is_instance P s.objects true k v) (λ b.
    if b then WritePart p i v next f.locals rest3 else fault ArrayStoreException)))))))
effect P limits s f next (rows.Cast k) =
    on_top f.operands (λ v rest. on (is_instance P s.objects true k v) (λ b. if b then Go next f.locals (v ∷ rest) else fault ClassCastException))
effect P limits s f next (rows.Test k) =
    on_top f.operands (λ v rest. on (is_instance P s.objects false k v) (λ b. Go next f.locals (Int (if b then pos 1 else pos 0) ∷ rest)))
effect P limits s f next rows.Monitor = on_object s.objects f.operands (λ p o rest. Go next f.locals rest)
effect P limits s f next rows.Throw = on_object s.objects f.operands (λ p o rest. Raise p)
effect P limits s f next (rows.CallStatic m) =
    on (slice_get P.methods m) (λ k. on_values (reverse k.parameters) f.operands [] (λ args rest. Call m args rest))
effect P limits s f next (rows.CallSpecial named m) = on_receiver P s f m (λ k o args rest. Call m args rest)
effect P limits s f next (rows.CallVirtual named m) =
    on_receiver P s f m (λ k o args rest. only_if (has_class P (kind_of P o) named) (on (selected P (kind_of P o) m) (λ t. Call t args rest)))
effect P limits s f next (rows.CallInterface named m) =
    on_receiver P s f m (λ k o args rest.
    if has_class P (kind_of P o) k.owner then on (selected P (kind_of P o) m) (λ t. Call t args rest) else fault IncompatibleClassChangeError)
effect P limits s f next (rows.Return None) = Leave None
effect P limits s f next (rows.Return (Some sort)) = on_top f.operands (λ v rest. only_if (is_moved sort v) (Leave (Some v)))
effect P limits s f next rows.Read = Take next f.locals f.operands
effect P limits s f next rows.Write = on_number IntType f.operands (λ n rest. Give (low_bits w8 n) next f.locals rest)
