-- What the effect of a row does to local variables, operands and objects.
use Rattle.std.proofs.Common.{◌≡◌, ◌⊎◌, ℕ, ◌+◌, Bool, true, false, List, [], ◌∷◌, ◌++◌, Contains, Option, Some, None, ℤ, pos, negsuc, ◌+ℤ◌, length, slice_get, suc, nat_le, map, reverse, replicate, refl, sym, ap, ◌∙◌, subst, inl, inr, IsSomeAnd, IfSome}
use Rattle.std.specs.Prelude.{if◌then◌else◌}
use Rattle.std.specs.Int.{w32, int_wrap}
use Rattle.std.proofs.lemmas.Bool.{false≢true}
use Rattle.std.proofs.lemmas.List.{length-replicate}
use Rattle.lists.proofs.Lemmas.{none≢some, some_same}
use Rattle.lists.specs.Members.{at_head, in_tail}
use Rattle.bytecode_model.specs.declared.Value.{Value}
use Rattle.bytecode_model.specs.declared.Value.TheVariants.{Int, Long, Ref, Null, Unset}
use Rattle.bytecode_model.specs.Lists.{onto, replaced, natural}
use Rattle.bytecode_model.specs.Slots.{split, shuffled}
use Rattle.bytecode_model.specs.Types.{NumberType, IntType, LongType, Kind, OfClass, OfNumbers, OfReferences, Declared, Numbers, References, Moved, is_moved, is_long, suits, zero_of, default, element_type}
use Rattle.bytecode_model.specs.State.{Object, Frame, State}
use Rattle.bytecode_model.specs.Program.{Program, Limits, Method, kind_of, type_number}
use Rattle.bytecode_model.specs.Sizes.{object_words, made_words}
use Rattle.bytecode_model.specs.Rows as rows
use Rattle.bytecode_model.specs.Rows.{Row, FunctionOf}
use Rattle.bytecode_model.specs.Effects.{Effect, Stuck, Go, Make, WritePart, WriteStatic, Take, Give, Call, Leave, Raise, Fault, ArithmeticException, NegativeArraySizeException, ArrayIndexOutOfBoundsException, OutOfMemoryError, ArrayStoreException, ClassCastException, IncompatibleClassChangeError, effect, on, or_fault, fault, only_if, on_top, on_number, on_numbers, on_object, on_values, on_receiver, on_size, on_element, allocate, number, selected, same, same_bool, is_instance, has_class, is_array, is_array_of, component_of, at_offset, branch, offset_of_key, stored, incremented, shuffle}
use Rattle.bytecode_model.specs.Steps.{class_of}
use Rattle.bytecode_model.specs.WellFormed.{AreSpaced, is_call}
use Rattle.method_flow.specs.Nodes.{At, RaiseAt, IsAtOffset}
use Rattle.code_lines.specs.Lines.{written_by}
use Rattle.loop_rules.specs.Further.Known.{Known}
use Rattle.counted_laws.specs.Visits.{Visit, visit_of, lengths_of, HoldsValue, HoldsInt, IsArrayOf, Pushed, HasArray, Branched, DidRow}
use Rattle.counted_laws.specs.Paths.{HoldKnown}
use Rattle.counted_laws.proofs.Storing.{replaced_same, replaced_other, stored_same, stored_keeps}
use Rattle.counted_laws.proofs.Lengths.{length_at, last_length}

-- values, but for longs, that aren't written stay
abbrev pub KeepsValues : Row → (old new : List Value) → Type 0
KeepsValues r old new = (k : ℕ) (y : Value) → is_long y ≡ false → HoldsValue old k y → (Contains (written_by r) k → ⊥) → HoldsValue new k y

-- an object that is made begins with the first values of its class's fields, or is an array
abbrev pub MadeBy : Program → Object → Type 0
MadeBy P o = (k : Kind) × (type_number P k ≡ Some o.kind) × IfSome (class_of k) (λ c. o.parts ≡ map default (P.fields c))

-- the field with this index of the object is put, and the value lies on top
abbrev pub IsPut : Program → Frame → Row → Object → (index : ℕ) → Value → Type 0
IsPut P f r o k v = (named owner : ℕ) × (rest : List Value) × (r ≡ rows.PutField named owner k) × (has_class P (kind_of P o) owner ≡ true) × (f.operands ≡ v ∷ rest)

-- an element of an array is written, or a field
abbrev pub WrittenBy : Program → State → Frame → Row → (object part : ℕ) → Value → Type 0
WrittenBy P s f r p k v = (o : Object) × (slice_get s.objects p ≡ Some o) × ((is_array (kind_of P o) ≡ true) ⊎ IsPut P f r o k v)

-- what an effect of the row r does to local variables, which objects it makes, and what it writes
abbrev pub Tame : Program → State → Frame → Row → Effect → Type 0
Tame P s f r Stuck = Unit {0}
Tame P s f r (Go pc ls ops) = KeepsValues r f.locals ls
Tame P s f r (Make o pc ls ops) = KeepsValues r f.locals ls × MadeBy P o
Tame P s f r (WritePart p k v pc ls ops) = KeepsValues r f.locals ls × WrittenBy P s f r p k v
Tame P s f r (WriteStatic k v pc ls ops) = KeepsValues r f.locals ls × (r ≡ rows.PutStatic k) × ((rest : List Value) × (f.operands ≡ v ∷ rest))
Tame P s f r (Take pc ls ops) = KeepsValues r f.locals ls
Tame P s f r (Give byte pc ls ops) = KeepsValues r f.locals ls
Tame P s f r (Call m args ops) = Unit {0}
Tame P s f r (Leave result) = Unit {0}
Tame P s f r (Raise p) = Unit {0}

codes_array : (codes : List ℕ) (k : Option Kind) → is_array_of codes k ≡ true → is_array k ≡ true
codes_array codes None h = h
codes_array codes (Some (OfClass c)) h = h
codes_array codes (Some (OfNumbers a)) h = refl
codes_array codes (Some (OfReferences k)) h = refl

component_array : (o : Option Kind) (k : Kind) → component_of o ≡ Some k → is_array o ≡ true
component_array None k h = absurd (none≢some k h)
component_array (Some (OfClass c)) k h = absurd (none≢some k h)
component_array (Some (OfNumbers a)) k h = absurd (none≢some k h)
component_array (Some (OfReferences l)) k h = refl

-- what holds of an effect that a combinator makes, where it holds of what it goes on with, of Stuck and of every Raise
module _ (K : Effect → Type 0) (stuck : K Stuck) (raised : (p : ℕ) → K (Raise p)) where
  on_holds : {A : Type 0} (o : Option A) (go : A → Effect) → ((x : A) → o ≡ Some x → K (go x)) → K (on o go)
  on_holds None go h = stuck
  on_holds (Some x) go h = h x refl

  or_fault_holds : {A : Type 0} (f : Fault) (o : Option A) (go : A → Effect) → ((x : A) → K (go x)) → K (or_fault f o go)
  or_fault_holds f None go h = raised _
  or_fault_holds f (Some x) go h = h x

  only_if_holds : (b : Bool) (e : Effect) → (b ≡ true → K e) → K (only_if b e)
  only_if_holds true e h = h refl
  only_if_holds false e h = stuck

  if_holds : (b : Bool) (e : Effect) (f : Fault) → (b ≡ true → K e) → K (if b then e else fault f)
  if_holds true e f h = h refl
  if_holds false e f h = raised _

  on_top_holds : (ops : List Value) (go : Value → List Value → Effect) → ((v : Value) (rest : List Value) → K (go v rest)) → K (on_top ops go)
  on_top_holds [] go h = stuck
  on_top_holds (v ∷ rest) go h = h v rest

  -- the same, of the operands that there were
  on_top_is : (ops : List Value) (go : Value → List Value → Effect) → ((v : Value) (rest : List Value) → ops ≡ v ∷ rest → K (go v rest)) → K (on_top ops go)
  on_top_is [] go h = stuck
  on_top_is (v ∷ rest) go h = h v rest refl

  on_number_holds : (t : NumberType) (ops : List Value) (go : ℤ → List Value → Effect) → ((n : ℤ) (rest : List Value) → K (go n rest)) → K (on_number t ops go)
  on_number_holds IntType [] go h = stuck
  on_number_holds IntType (Int n ∷ rest) go h = h n rest
  on_number_holds IntType (Long n ∷ rest) go h = stuck
  on_number_holds IntType (Ref p ∷ rest) go h = stuck
  on_number_holds IntType (Null ∷ rest) go h = stuck
  on_number_holds IntType (Unset ∷ rest) go h = stuck
  on_number_holds LongType [] go h = stuck
  on_number_holds LongType (Int n ∷ rest) go h = stuck
  on_number_holds LongType (Long n ∷ rest) go h = h n rest
  on_number_holds LongType (Ref p ∷ rest) go h = stuck
  on_number_holds LongType (Null ∷ rest) go h = stuck
  on_number_holds LongType (Unset ∷ rest) go h = stuck

  on_numbers_holds : (R : Type 0) (ts : List NumberType) (f : FunctionOf ts R) (ops : List Value) (go : R → List Value → Effect)
      → ((r : R) (rest : List Value) → K (go r rest)) → K (on_numbers R ts f ops go)
  on_numbers_holds R [] r ops go h = h r ops
  on_numbers_holds R (t ∷ ts) f ops go h = on_number_holds t ops (λ n rest. on_numbers R ts (f n) rest go) (λ n rest. on_numbers_holds R ts (f n) rest go h)

  on_object_holds : (os : List Object) (ops : List Value) (go : ℕ → Object → List Value → Effect)
      → ((p : ℕ) (o : Object) (rest : List Value) → slice_get os p ≡ Some o → K (go p o rest)) → K (on_object os ops go)
  on_object_holds os [] go h = stuck
  on_object_holds os (Int n ∷ rest) go h = stuck
  on_object_holds os (Long n ∷ rest) go h = stuck
  on_object_holds os (Ref p ∷ rest) go h = on_holds (slice_get os p) (λ o. go p o rest) (λ o is. h p o rest is)
  on_object_holds os (Null ∷ rest) go h = raised _
  on_object_holds os (Unset ∷ rest) go h = stuck

  on_values_holds : (ds : List Declared) (ops taken : List Value) (go : List Value → List Value → Effect)
      → ((args rest : List Value) → K (go args rest)) → K (on_values ds ops taken go)
  on_values_holds [] ops taken go h = h taken ops
  on_values_holds (d ∷ ds) [] taken go h = stuck
  on_values_holds (d ∷ ds) (v ∷ ops) taken go h = only_if_holds (suits d v) (on_values ds ops (v ∷ taken) go) (λ is. on_values_holds ds ops (v ∷ taken) go h)

  on_size_holds : (ops : List Value) (go : ℕ → List Value → Effect) → ((n : ℕ) (rest : List Value) → K (go n rest)) → K (on_size ops go)
  on_size_holds ops go h = on_number_holds IntType ops _ (λ n rest. or_fault_holds NegativeArraySizeException (natural n) _ (λ size. h size rest))

  on_element_holds : (o : Object) (n : ℤ) (go : ℕ → Value → Effect) → ((k : ℕ) (v : Value) → K (go k v)) → K (on_element o n go)
  on_element_holds o n go h = or_fault_holds ArrayIndexOutOfBoundsException (natural n) _ (λ k. or_fault_holds ArrayIndexOutOfBoundsException (slice_get o.parts k) _ (λ v. h k v))

  on_receiver_holds : (P : Program) (s : State) (f : Frame) (m : ℕ) (go : Method → Object → (args rest : List Value) → Effect)
      → ((k : Method) (p : ℕ) (o : Object) (args rest : List Value) → slice_get P.methods m ≡ Some k → slice_get s.objects p ≡ Some o → K (go k o args rest)) → K (on_receiver P s f m go)
  on_receiver_holds P s f m go h =
      on_holds (slice_get P.methods m) _ (λ k has. only_if_holds k.has_this _ (λ is. on_values_holds (reverse k.parameters) f.operands [] _ (λ args rest.
      on_object_holds s.objects rest _ (λ p o rest2 there. h k p o (Ref p ∷ args) rest2 has there))))

  allocate_holds : (P : Program) (limits : Limits) (s : State) (k : Kind) (parts : List Value) (pc : ℕ) (ls ops : List Value)
      → ((o : Object) → type_number P k ≡ Some o.kind → o.parts ≡ parts → K (Make o pc ls ops)) → K (allocate P limits s k parts pc ls ops)
  allocate_holds P limits s k parts pc ls ops h =
      on_holds (type_number P k) _ (λ t is. let o : Object = record { kind = t; parts = parts } in if_holds (nat_le (made_words P s + object_words P o) limits.heap) (Make o pc ls ops) OutOfMemoryError (λ small. h o is refl))

-- ---- rows

int_short : (v : Value) → is_moved (Numbers IntType) v ≡ true → is_long v ≡ true → ⊥
int_short (Int n) m long = false≢true long
int_short (Long n) m long = false≢true m
int_short (Ref p) m long = false≢true m
int_short Null m long = false≢true m
int_short Unset m long = false≢true m

reference_short : (v : Value) → is_moved References v ≡ true → is_long v ≡ true → ⊥
reference_short (Int n) m long = false≢true m
reference_short (Long n) m long = false≢true m
reference_short (Ref p) m long = false≢true long
reference_short Null m long = false≢true long
reference_short Unset m long = false≢true m

module _ (P : Program) (limits : Limits) (s : State) (f : Frame) (next : ℕ) (spaced : AreSpaced f.locals) where
  abbrev K : Row → Effect → Type 0
  K r e = Tame P s f r e

  at_offset_tame : (r : Row) (offset : ℤ) (ops : List Value) → K r (at_offset f offset ops)
  at_offset_tame r offset ops = on_holds (K r) tt (λ p. tt) (natural (pos f.pc +ℤ offset)) _ (λ pc is. (λ j y short holds none. holds))

  branch_tame : (r : Row) (taken : Bool) (offset : ℤ) (ops : List Value) → K r (branch f next taken offset ops)
  branch_tame r true offset ops = at_offset_tame r offset ops
  branch_tame r false offset ops = λ j y short holds none. holds

  returns_tame : (sort : Option Moved) → K (rows.Return sort) (effect P limits s f next (rows.Return sort))
  returns_tame None = tt
  returns_tame (Some sort) = on_top_holds (K (rows.Return (Some sort))) tt (λ p. tt) f.operands _ (λ v rest. only_if_holds (K (rows.Return (Some sort))) tt (λ p. tt) (is_moved sort v) _ (λ is. tt))

  -- a value that is moved as an int or a reference isn't long
  store_keeps : (sort : Moved) (k : ℕ) (v : Value) (ls : List Value) → is_moved sort v ≡ true → stored f.locals k v ≡ Some ls → KeepsValues (rows.Store sort k) f.locals ls
  store_keeps (Numbers LongType) k v ls m is j y short holds none =
      stored_keeps f.locals spaced k v ls is j y short holds (λ e. none (subst (λ (i : ℕ). Contains (k ∷ suc k ∷ []) i) (sym e) (at_head k (suc k ∷ [])))) (λ long e. none (subst (λ (i : ℕ). Contains (k ∷ suc k ∷ []) i) (sym e) (in_tail k (suc k) (suc k ∷ []) (at_head (suc k) []))))
  store_keeps (Numbers IntType) k v ls m is j y short holds none =
      stored_keeps f.locals spaced k v ls is j y short holds (λ e. none (subst (λ (i : ℕ). Contains (k ∷ []) i) (sym e) (at_head k []))) (λ long e. int_short v m long)
  store_keeps References k v ls m is j y short holds none =
      stored_keeps f.locals spaced k v ls is j y short holds (λ e. none (subst (λ (i : ℕ). Contains (k ∷ []) i) (sym e) (at_head k []))) (λ long e. reference_short v m long)

  increment_keeps : (k : ℕ) (n : ℤ) (u : Value) (ls : List Value) → replaced f.locals k u ≡ Some ls → KeepsValues (rows.Increment k n) f.locals ls
  increment_keeps k n u ls is j y short holds none = replaced_other f.locals k u ls is j (λ e. none (subst (λ (i : ℕ). Contains (k ∷ []) i) (sym e) (at_head k []))) ∙ holds

  pub tame : (r : Row) → K r (effect P limits s f next r)
  tame rows.Nothing = (λ j y short holds none. holds)
  tame (rows.Push v) = (λ j y short holds none. holds)
  tame (rows.Compute taken given compute) =
      let r = rows.Compute taken given compute in
      on_numbers_holds (K r) tt (λ p. tt) (Option ℤ) taken compute f.operands _ (λ o rest. or_fault_holds (K r) tt (λ p. tt) ArithmeticException o _ (λ n. (λ j y short holds none. holds)))
  tame (rows.Branch taken test offset) =
      let r = rows.Branch taken test offset in
      on_numbers_holds (K r) tt (λ p. tt) Bool taken test f.operands _ (λ b rest. branch_tame r b offset rest)
  tame (rows.BranchSame wanted offset) =
      let r = rows.BranchSame wanted offset in
      on_top_holds (K r) tt (λ p. tt) f.operands _ (λ v rest. on_top_holds (K r) tt (λ p. tt) rest _ (λ w rest2. on_holds (K r) tt (λ p. tt) (same v w) _ (λ b is. branch_tame r (same_bool b wanted) offset rest2)))
  tame (rows.BranchNull wanted offset) =
      let r = rows.BranchNull wanted offset in
      on_top_holds (K r) tt (λ p. tt) f.operands _ (λ v rest. on_holds (K r) tt (λ p. tt) (same v Null) _ (λ b is. branch_tame r (same_bool b wanted) offset rest))
  tame (rows.Jump offset) = at_offset_tame (rows.Jump offset) offset f.operands
  tame (rows.Switch otherwise cases) =
      let r = rows.Switch otherwise cases in
      on_number_holds (K r) tt (λ p. tt) IntType f.operands _ (λ key rest. at_offset_tame r (offset_of_key otherwise cases key) rest)
  tame (rows.Load sort k) = let r = rows.Load sort k in on_holds (K r) tt (λ p. tt) (slice_get f.locals k) _ (λ v is. only_if_holds (K r) tt (λ p. tt) (is_moved sort v) _ (λ m. (λ j y short holds none. holds)))
  tame (rows.Store sort k) =
      let r = rows.Store sort k in
      on_top_holds (K r) tt (λ p. tt) f.operands _ (λ v rest. only_if_holds (K r) tt (λ p. tt) (is_moved sort v) _ (λ m. on_holds (K r) tt (λ p. tt) (stored f.locals k v) _ (λ ls is. store_keeps sort k v ls m is)))
  tame (rows.Increment k n) =
      let r = rows.Increment k n in
      on_holds (K r) tt (λ p. tt) (slice_get f.locals k) _ (λ v is. on_holds (K r) tt (λ p. tt) (incremented v n) _ (λ u is2. on_holds (K r) tt (λ p. tt) (replaced f.locals k u) _ (λ ls is3. increment_keeps k n u ls is3)))
  tame (rows.Shuffle form upper lower) = let r = rows.Shuffle form upper lower in on_holds (K r) tt (λ p. tt) (shuffle form upper lower f.operands) _ (λ ops is. (λ j y short holds none. holds))
  tame (rows.GetStatic k) = let r = rows.GetStatic k in on_holds (K r) tt (λ p. tt) (slice_get s.statics k) _ (λ v is. (λ j y short holds none. holds))
  tame (rows.PutStatic k) =
      let r = rows.PutStatic k in
      on_top_is (K r) tt (λ p. tt) f.operands _ (λ v rest top. on_holds (K r) tt (λ p. tt) (slice_get P.statics k) _ (λ d is. only_if_holds (K r) tt (λ p. tt) (suits d v) _ (λ m. ((λ j y short holds none. holds), refl, (rest, top)))))
  tame (rows.GetField named owner k) =
      let r = rows.GetField named owner k in
      on_object_holds (K r) tt (λ p. tt) s.objects f.operands _ (λ p o rest there. only_if_holds (K r) tt (λ q. tt) (has_class P (kind_of P o) owner) _ (λ m. on_holds (K r) tt (λ q. tt) (slice_get o.parts k) _ (λ v is. (λ j y short holds none. holds))))
  tame (rows.PutField named owner k) =
      let r = rows.PutField named owner k in
      on_top_is (K r) tt (λ p. tt) f.operands _ (λ v rest top. on_holds (K r) tt (λ p. tt) (slice_get (P.fields owner) k) _ (λ d is. only_if_holds (K r) tt (λ p. tt) (suits d v) _ (λ m.
      on_object_holds (K r) tt (λ p. tt) s.objects rest _ (λ p o rest2 there. only_if_holds (K r) tt (λ q. tt) (has_class P (kind_of P o) owner) _ (λ m2. ((λ j y short holds none. holds), (o, there, inr (named, owner, rest, refl, m2, top))))))))
  tame (rows.New c) = let r = rows.New c in only_if_holds (K r) tt (λ p. tt) (P.is_concrete c) _ (λ is. allocate_holds (K r) tt (λ p. tt) P limits s (OfClass c) (map default (P.fields c)) next f.locals f.operands (λ o t ps. ((λ j y short holds none. holds), (OfClass c, t, ps))))
  tame (rows.NewNumbers code) =
      let r = rows.NewNumbers code in
      on_size_holds (K r) tt (λ p. tt) f.operands _ (λ size rest. allocate_holds (K r) tt (λ p. tt) P limits s (OfNumbers code) (replicate size (zero_of (element_type code))) next f.locals rest (λ o t ps. ((λ j y short holds none. holds), (OfNumbers code, t, tt))))
  tame (rows.NewReferences k) =
      let r = rows.NewReferences k in
      on_size_holds (K r) tt (λ p. tt) f.operands _ (λ size rest. allocate_holds (K r) tt (λ p. tt) P limits s (OfReferences k) (replicate size Null) next f.locals rest (λ o t ps. ((λ j y short holds none. holds), (OfReferences k, t, tt))))
  tame rows.Length = on_object_holds (K rows.Length) tt (λ p. tt) s.objects f.operands _ (λ p o rest there. only_if_holds (K rows.Length) tt (λ q. tt) (is_array (kind_of P o)) _ (λ m. (λ j y short holds none. holds)))
  tame (rows.LoadNumber t codes) =
      let r = rows.LoadNumber t codes in
      on_number_holds (K r) tt (λ p. tt) IntType f.operands _ (λ n rest. on_object_holds (K r) tt (λ p. tt) s.objects rest _ (λ p o rest2 there. only_if_holds (K r) tt (λ q. tt) (is_array_of codes (kind_of P o)) _ (λ m.
      on_element_holds (K r) tt (λ q. tt) o n _ (λ i v. (λ j y short holds none. holds)))))
  tame (rows.StoreNumber t codes kept) =
      let r = rows.StoreNumber t codes kept in
      on_number_holds (K r) tt (λ p. tt) t f.operands _ (λ x rest. on_number_holds (K r) tt (λ p. tt) IntType rest _ (λ n rest2. on_object_holds (K r) tt (λ p. tt) s.objects rest2 _ (λ p o rest3 there.
      only_if_holds (K r) tt (λ q. tt) (is_array_of codes (kind_of P o)) _ (λ m. on_element_holds (K r) tt (λ q. tt) o n _ (λ i v. ((λ j y short holds none. holds), (o, there, inl (codes_array codes (kind_of P o) m))))))))
  tame rows.LoadReference =
      let r = rows.LoadReference in
      on_number_holds (K r) tt (λ p. tt) IntType f.operands _ (λ n rest. on_object_holds (K r) tt (λ p. tt) s.objects rest _ (λ p o rest2 there. on_holds (K r) tt (λ q. tt) (component_of (kind_of P o)) _ (λ k is.
      on_element_holds (K r) tt (λ q. tt) o n _ (λ i v. (λ j y short holds none. holds)))))
  tame rows.StoreReference =
      let r = rows.StoreReference in
      on_top_holds (K r) tt (λ p. tt) f.operands _ (λ v rest. only_if_holds (K r) tt (λ p. tt) (is_moved References v) _ (λ m. on_number_holds (K r) tt (λ p. tt) IntType rest _ (λ n rest2.
      on_object_holds (K r) tt (λ p. tt) s.objects rest2 _ (λ p o rest3 there. on_holds (K r) tt (λ q. tt) (component_of (kind_of P o)) _ (λ k is. on_element_holds (K r) tt (λ q. tt) o n _ (λ i old.
      on_holds (K r) tt (λ q. tt) (is_instance P s.objects true k v) _ (λ b is2. if_holds (K r) tt (λ q. tt) b (WritePart p i v next f.locals rest3) ArrayStoreException (λ yes. ((λ j y short holds none. holds), (o, there, inl (component_array (kind_of P o) k is)))))))))))
  tame (rows.Cast k) =
      let r = rows.Cast k in
      on_top_holds (K r) tt (λ p. tt) f.operands _ (λ v rest. on_holds (K r) tt (λ p. tt) (is_instance P s.objects true k v) _ (λ b is. if_holds (K r) tt (λ q. tt) b (Go next f.locals (v ∷ rest)) ClassCastException (λ yes. (λ j y short holds none. holds))))
  tame (rows.Test k) = let r = rows.Test k in on_top_holds (K r) tt (λ p. tt) f.operands _ (λ v rest. on_holds (K r) tt (λ p. tt) (is_instance P s.objects false k v) _ (λ b is. (λ j y short holds none. holds)))
  tame rows.Monitor = on_object_holds (K rows.Monitor) tt (λ p. tt) s.objects f.operands _ (λ p o rest there. (λ j y short holds none. holds))
  tame rows.Throw = on_object_holds (K rows.Throw) tt (λ p. tt) s.objects f.operands _ (λ p o rest there. tt)
  tame (rows.CallStatic m) =
      let r = rows.CallStatic m in
      on_holds (K r) tt (λ p. tt) (slice_get P.methods m) _ (λ k is. on_values_holds (K r) tt (λ p. tt) (reverse k.parameters) f.operands [] (λ args rest. Call m args rest) (λ args rest. tt))
  tame (rows.CallSpecial named m) = let r = rows.CallSpecial named m in on_receiver_holds (K r) tt (λ p. tt) P s f m (λ k o args rest. Call m args rest) (λ k p o args rest has there. tt)
  tame (rows.CallVirtual named m) =
      let r = rows.CallVirtual named m in
      on_receiver_holds (K r) tt (λ p. tt) P s f m _ (λ k p o args rest has there. only_if_holds (K r) tt (λ q. tt) (has_class P (kind_of P o) named) (on (selected P (kind_of P o) m) (λ t. Call t args rest)) (λ below.
      on_holds (K r) tt (λ q. tt) (selected P (kind_of P o) m) (λ t. Call t args rest) (λ t is. tt)))
  tame (rows.CallInterface named m) =
      let r = rows.CallInterface named m in
      on_receiver_holds (K r) tt (λ p. tt) P s f m _ (λ k p o args rest has there. if_holds (K r) tt (λ q. tt) (has_class P (kind_of P o) k.owner) (on (selected P (kind_of P o) m) (λ t. Call t args rest)) IncompatibleClassChangeError (λ below.
      on_holds (K r) tt (λ q. tt) (selected P (kind_of P o) m) (λ t. Call t args rest) (λ t is. tt)))
  tame (rows.Return sort) = returns_tame sort
  tame rows.Read = (λ j y short holds none. holds)
  tame rows.Write = on_number_holds (K rows.Write) tt (λ p. tt) IntType f.operands _ (λ n rest. (λ j y short holds none. holds))

-- ---- what rows do

-- the visit behind an effect of the instruction at the place q, where there are these objects
abbrev pub Comes : (objects : List Object) → (q : ℕ) → Effect → Visit → Type 0
Comes os q Stuck b = ⊥
Comes os q (Go pc ls ops) b = b ≡ record { node = At pc; locals = ls; operands = ops; lengths = lengths_of os }
Comes os q (Make o pc ls ops) b = b ≡ record { node = At pc; locals = ls; operands = Ref (length os) ∷ ops; lengths = lengths_of (os ++ o ∷ []) }
Comes os q (WritePart p k v pc ls ops) b = b.operands ≡ ops
Comes os q (Raise p) b = b.node ≡ RaiseAt q
Comes os q e b = Unit {0}

raise_or_at : (p q : ℕ) → RaiseAt p ≡ At q → ⊥
raise_or_at p q e = absurd (cc)

-- what came of a combinator came of what it goes on with, where control went on to the place behind
module _ (os : List Object) (q next : ℕ) (b : Visit) where
  abbrev C : Effect → Type 0
  C e = Comes os q e b

  on_in : {A : Type 0} (o : Option A) (go : A → Effect) → C (on o go) → (x : A) × (o ≡ Some x) × C (go x)
  on_in None go e = absurd e
  on_in (Some x) go e = (x, refl, e)

  only_if_in : (t : Bool) (x : Effect) → C (only_if t x) → (t ≡ true) × C x
  only_if_in true x e = (refl, e)
  only_if_in false x e = absurd e

  if_in : (t : Bool) (x : Effect) (f : Fault) → b.node ≡ At next → C (if t then x else fault f) → C x
  if_in true x f at e = e
  if_in false x f at e = absurd (raise_or_at q next (sym e ∙ at))

  or_fault_in : {A : Type 0} (f : Fault) (o : Option A) (go : A → Effect) → b.node ≡ At next → C (or_fault f o go) → (x : A) × (o ≡ Some x) × C (go x)
  or_fault_in f None go at e = absurd (raise_or_at q next (sym e ∙ at))
  or_fault_in f (Some x) go at e = (x, refl, e)

  number_in : (t : NumberType) (v : Value) (ops : List Value) (go : ℤ → List Value → Effect) → C (on_number t (v ∷ ops) go) → (n : ℤ) × C (go n ops)
  number_in IntType (Int n) ops go e = (n, e)
  number_in IntType (Long n) ops go e = absurd e
  number_in IntType (Ref p) ops go e = absurd e
  number_in IntType Null ops go e = absurd e
  number_in IntType Unset ops go e = absurd e
  number_in LongType (Int n) ops go e = absurd e
  number_in LongType (Long n) ops go e = (n, e)
  number_in LongType (Ref p) ops go e = absurd e
  number_in LongType Null ops go e = absurd e
  number_in LongType Unset ops go e = absurd e

  object_in : (v : Value) (ops : List Value) (go : ℕ → Object → List Value → Effect) → b.node ≡ At next → C (on_object os (v ∷ ops) go)
      → (p : ℕ) × (o : Object) × (v ≡ Ref p) × (slice_get os p ≡ Some o) × C (go p o ops)
  object_in (Int n) ops go at e = absurd e
  object_in (Long n) ops go at e = absurd e
  object_in (Ref p) ops go at e = let x = on_in (slice_get os p) (λ o. go p o ops) e in (p, x.0, refl, x.1, x.2)
  object_in Null ops go at e = absurd (raise_or_at q next (sym e ∙ at))
  object_in Unset ops go at e = absurd e

module _ (P : Program) (limits : Limits) (known : Known) (s : State) (f : Frame) (next : ℕ) (hold : HoldKnown P known s) (b : Visit) where
  abbrev a : Visit
  a = visit_of (At f.pc) s.objects f

  abbrev D : Effect → Type 0
  D e = Comes s.objects f.pc e b

  -- the effect is of these operands
  of_top : (ops : List Value) (go : List Value → Effect) → f.operands ≡ ops → D (go f.operands) → D (go ops)
  of_top ops go top e = subst (λ (xs : List Value). D (go xs)) top e

  pushes : (v : Value) → D (Go next f.locals (v ∷ f.operands)) → Pushed next v a b
  pushes v e = (ap (λ (x : Visit). x.node) e, ap (λ (x : Visit). x.operands) e)

  loads : (k : ℕ) (o : Option Value) → slice_get f.locals k ≡ o → D (on o (λ v. only_if (is_moved (Numbers IntType) v) (Go next f.locals (v ∷ f.operands)))) → (x : ℤ) × HoldsInt f.locals k x × Pushed next (Int x) a b
  loads k None is e = absurd e
  loads k (Some (Int x)) is e = (x, is, pushes (Int x) e)
  loads k (Some (Long x)) is e = absurd e
  loads k (Some (Ref p)) is e = absurd e
  loads k (Some Null) is e = absurd e
  loads k (Some Unset) is e = absurd e

  loads_reference : (k : ℕ) → D (on (slice_get f.locals k) (λ v. only_if (is_moved References v) (Go next f.locals (v ∷ f.operands)))) → (v : Value) × (is_moved References v ≡ true) × HoldsValue f.locals k v × Pushed next v a b
  loads_reference k e =
      let v = on_in s.objects f.pc next b (slice_get f.locals k) _ e in
      let m = only_if_in s.objects f.pc next b (is_moved References v.0) (Go next f.locals (v.0 ∷ f.operands)) v.2 in
      (v.0, m.0, v.1, pushes v.0 m.1)

  stores : (sort : Moved) (k : ℕ) (v : Value) (rest : List Value) → D (only_if (is_moved sort v) (on (stored f.locals k v) (λ ls. Go next ls rest))) → HoldsValue b.locals k v
  stores sort k v rest e =
      let m = only_if_in s.objects f.pc next b (is_moved sort v) (on (stored f.locals k v) (λ ls. Go next ls rest)) e in
      let ls = on_in s.objects f.pc next b (stored f.locals k v) (λ ls. Go next ls rest) m.1 in
      subst (λ (x : Visit). HoldsValue x.locals k v) (sym ls.2) (stored_same f.locals k v ls.0 ls.1)

  counts : (k : ℕ) (x : ℤ) → D (on (replaced f.locals k (Int x)) (λ ls. Go next ls f.operands)) → HoldsInt b.locals k x
  counts k x e =
      let ls = on_in s.objects f.pc next b (replaced f.locals k (Int x)) (λ ls. Go next ls f.operands) e in
      subst (λ (v : Visit). HoldsInt v.locals k x) (sym ls.2) (replaced_same f.locals k (Int x) ls.0 ls.1)

  to_offset : (offset : ℤ) (rest : List Value) (z : ℤ) → pos f.pc +ℤ offset ≡ z → D (on (natural z) (λ pc. Go pc f.locals rest)) → (q : ℕ) × IsAtOffset f.pc offset q × (b.node ≡ At q)
  to_offset offset rest (pos q) is e = (q, is, ap (λ (v : Visit). v.node) e)
  to_offset offset rest (negsuc q) is e = absurd e

  branches : (t : Bool) (offset : ℤ) (rest : List Value) → D (branch f next t offset rest) → Branched f.pc next offset t b
  branches true offset rest e = to_offset offset rest (pos f.pc +ℤ offset) refl e
  branches false offset rest e = ap (λ (v : Visit). v.node) e

  -- a value that a field holds is pushed on these operands
  reads : (n : ℕ) (under : List Value) (o : Option Value) → IsSomeAnd o (IsArrayOf (lengths_of s.objects) n) → D (on o (λ v. Go next f.locals (v ∷ under))) → HasArray n under b
  reads n under None h e = absurd h
  reads n under (Some v) h e = (v, ap (λ (x : Visit). x.operands) e, subst (λ (x : Visit). IsArrayOf x.lengths n v) (sym e) h)

  gets : (owner k n : ℕ) (v : Value) (rest : List Value) → known.fields owner k ≡ Some n → b.node ≡ At next
      → D (on_object s.objects (v ∷ rest) (λ p o under. only_if (has_class P (kind_of P o) owner) (on (slice_get o.parts k) (λ v. Go next f.locals (v ∷ under))))) → HasArray n rest b
  gets owner k n v rest is at e =
      let o = object_in s.objects f.pc next b v rest _ at e in
      let m = only_if_in s.objects f.pc next b (has_class P (kind_of P o.1) owner) (on (slice_get o.1.parts k) (λ v. Go next f.locals (v ∷ rest))) o.4 in
      reads n rest (slice_get o.1.parts k) (hold.arrays.fields owner k n o.0 o.1 is o.3 m.0) m.1

  counts_elements : (n : ℕ) (v : Value) (rest : List Value) → IsArrayOf (lengths_of s.objects) n v → b.node ≡ At next
      → D (on_object s.objects (v ∷ rest) (λ p o under. only_if (is_array (kind_of P o)) (Go next f.locals (Int (pos (length o.parts)) ∷ under)))) → b.operands ≡ Int (pos n) ∷ rest
  counts_elements n v rest array at e =
      let o = object_in s.objects f.pc next b v rest _ at e in
      let m = only_if_in s.objects f.pc next b (is_array (kind_of P o.1)) (Go next f.locals (Int (pos (length o.1.parts)) ∷ rest)) o.4 in
      let here : slice_get (lengths_of s.objects) o.0 ≡ Some n = subst (λ (x : Value). IsArrayOf (lengths_of s.objects) n x) o.2 array in
      let long : length o.1.parts ≡ n = some_same (length o.1.parts) n (sym (length_at s.objects o.0 o.1 o.3) ∙ here) in
      ap (λ (x : Visit). x.operands) m.1 ∙ ap (λ (x : ℕ). Int (pos x) ∷ rest) long

  makes : (n : ℕ) (k : Kind) (parts rest : List Value) → length parts ≡ n → b.node ≡ At next → D (allocate P limits s k parts next f.locals rest) → HasArray n rest b
  makes n k parts rest long at e =
      let t = on_in s.objects f.pc next b (type_number P k) _ e in
      let o : Object = record { kind = t.0; parts = parts } in
      let is = if_in s.objects f.pc next b (nat_le (made_words P s + object_words P o) limits.heap) (Make o next f.locals rest) OutOfMemoryError at t.2 in (
        Ref (length s.objects),
        ap (λ (x : Visit). x.operands) is,
        subst (λ (x : Visit). slice_get x.lengths (length s.objects) ≡ Some n) (sym is) (last_length s.objects o ∙ ap Some long),
      )

  copies : (v : Value) (rest : List Value) (long : Bool) → D (on (onto {A = List Value × List Value} (if long then None else Some (v ∷ [], rest)) (λ x. onto (split is_long rows.Zero x.1) (λ y. Some (shuffled rows.Copy x.0 y.0 y.1)))) (λ ops. Go next f.locals ops)) → b.operands ≡ v ∷ v ∷ rest
  copies v rest true e = absurd e
  copies v rest false e = ap (λ (x : Visit). x.operands) e

  computes : (o : Option ℤ) (z : ℤ) (rest : List Value) → o ≡ Some z → D (or_fault ArithmeticException o (λ n. Go next f.locals (Int (int_wrap w32 n) ∷ rest))) → b.operands ≡ Int (int_wrap w32 z) ∷ rest
  computes None z rest is e = absurd (none≢some z is)
  computes (Some y) z rest is e = ap (λ (x : Visit). x.operands) e ∙ ap (λ (n : ℤ). Int (int_wrap w32 n) ∷ rest) (some_same y z is)

  writes : (t : NumberType) (codes : List ℕ) (kept : ℤ → ℤ) (x i v : Value) (rest : List Value) → b.node ≡ At next
      → D (on_number t (x ∷ i ∷ v ∷ rest) (λ x rest. on_number IntType rest (λ n rest2. on_object s.objects rest2 (λ p o rest3.
      only_if (is_array_of codes (kind_of P o)) (on_element o n (λ i old. WritePart p i (number t (kept x)) next f.locals rest3))))))
      → b.operands ≡ rest
  writes t codes kept x i v rest at e =
      let one = number_in s.objects f.pc next b t x (i ∷ v ∷ rest) _ e in
      let two = number_in s.objects f.pc next b IntType i (v ∷ rest) _ one.1 in
      let o = object_in s.objects f.pc next b v rest _ at two.1 in
      let m = only_if_in s.objects f.pc next b (is_array_of codes (kind_of P o.1)) _ o.4 in
      let k = or_fault_in s.objects f.pc next b ArrayIndexOutOfBoundsException (natural two.0) _ at m.1 in
      let old = or_fault_in s.objects f.pc next b ArrayIndexOutOfBoundsException (slice_get o.1.parts k.0) _ at k.2 in
      old.2

  pub does : (r : Row) → D (effect P limits s f next r) → DidRow P known r f.pc next a b
  does (rows.Push v) e = pushes v e
  does (rows.GetStatic k) e = (
    λ x constant never. pushes (Int x) (subst (λ (o : Option Value). D (on o (λ v. Go next f.locals (v ∷ f.operands)))) (hold.constants k x constant never) e),
    λ n is. reads n f.operands (slice_get s.statics k) (hold.arrays.statics k n is) e,
  )
  does (rows.GetField named owner k) e = λ v rest n top is at. gets owner k n v rest is at
      (of_top (v ∷ rest) (λ ops. on_object s.objects ops (λ p o under. only_if (has_class P (kind_of P o) owner) (on (slice_get o.parts k) (λ v. Go next f.locals (v ∷ under))))) top e)
  does (rows.Load (Numbers IntType) k) e = loads k (slice_get f.locals k) refl e
  does (rows.Load References k) e = loads_reference k e
  does (rows.Store (Numbers IntType) k) e = λ x rest top. stores (Numbers IntType) k (Int x) rest
      (of_top (Int x ∷ rest) (λ ops. on_top ops (λ v under. only_if (is_moved (Numbers IntType) v) (on (stored f.locals k v) (λ ls. Go next ls under)))) top e)
  does (rows.Store References k) e = λ v rest top. stores References k v rest
      (of_top (v ∷ rest) (λ ops. on_top ops (λ v under. only_if (is_moved References v) (on (stored f.locals k v) (λ ls. Go next ls under)))) top e)
  does (rows.Increment k n) e = λ x holds.
      counts k (int_wrap w32 (x +ℤ n)) (subst (λ (o : Option Value). D (on o (λ v. on (incremented v n) (λ u. on (replaced f.locals k u) (λ ls. Go next ls f.operands))))) holds e)
  does (rows.Compute (IntType ∷ IntType ∷ []) IntType compute) e = λ y x z rest top is. computes (compute y x) z rest is
      (of_top (Int y ∷ Int x ∷ rest) (λ ops. on_numbers (Option ℤ) (IntType ∷ IntType ∷ []) compute ops (λ r under. or_fault ArithmeticException r (λ n. Go next f.locals (Int (int_wrap w32 n) ∷ under)))) top e)
  does (rows.Branch (IntType ∷ []) test offset) e = λ x rest top. branches (test x) offset rest
      (of_top (Int x ∷ rest) (λ ops. on_numbers Bool (IntType ∷ []) test ops (λ t under. branch f next t offset under)) top e)
  does (rows.Branch (IntType ∷ IntType ∷ []) test offset) e = λ y x rest top. branches (test y x) offset rest
      (of_top (Int y ∷ Int x ∷ rest) (λ ops. on_numbers Bool (IntType ∷ IntType ∷ []) test ops (λ t under. branch f next t offset under)) top e)
  does (rows.Shuffle rows.Copy rows.One rows.Zero) e = λ v rest top. copies v rest (is_long v)
      (of_top (v ∷ rest) (λ ops. on (shuffle rows.Copy rows.One rows.Zero ops) (λ xs. Go next f.locals xs)) top e)
  does (rows.NewNumbers code) e = λ n rest top at. makes n (OfNumbers code) (replicate n (zero_of (element_type code))) rest (length-replicate n (zero_of (element_type code))) at
      (of_top (Int (pos n) ∷ rest) (λ ops. on_size ops (λ size under. allocate P limits s (OfNumbers code) (replicate size (zero_of (element_type code))) next f.locals under)) top e)
  does (rows.NewReferences kind) e = λ n rest top at. makes n (OfReferences kind) (replicate n Null) rest (length-replicate n Null) at
      (of_top (Int (pos n) ∷ rest) (λ ops. on_size ops (λ size under. allocate P limits s (OfReferences kind) (replicate size Null) next f.locals under)) top e)
  does rows.Length e = λ v rest n top array at. counts_elements n v rest array at
      (of_top (v ∷ rest) (λ ops. on_object s.objects ops (λ p o under. only_if (is_array (kind_of P o)) (Go next f.locals (Int (pos (length o.parts)) ∷ under)))) top e)
  does (rows.StoreNumber t codes kept) e = λ x i v rest top at. writes t codes kept x i v rest at
      (of_top (x ∷ i ∷ v ∷ rest) (λ ops. on_number t ops (λ x rest. on_number IntType rest (λ n rest2. on_object s.objects rest2 (λ p o rest3.
      only_if (is_array_of codes (kind_of P o)) (on_element o n (λ i old. WritePart p i (number t (kept x)) next f.locals rest3)))))) top e)
  does r e = tt

-- an invoke does nothing of these
pub call_does : (P : Program) (known : Known) (r : Row) (p next : ℕ) (a b : Visit) → is_call r ≡ true → DidRow P known r p next a b
call_does P known (rows.CallStatic m) p next a b call = tt
call_does P known (rows.CallSpecial named m) p next a b call = tt
call_does P known (rows.CallVirtual named m) p next a b call = tt
call_does P known (rows.CallInterface named m) p next a b call = tt
call_does P known r p next a b call = absurd (false≢true call)
