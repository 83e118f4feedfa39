-- What the effect of a row says of where control goes.
use Rattle.std.proofs.Common.{◌≡◌, ◌⊎◌, ℕ, ◌+◌, Bool, true, false, List, [], ◌∷◌, Contains, Option, Some, None, ℤ, pos, negsuc, ◌+ℤ◌, slice_get, zero, suc, nat_le, map, reverse, replicate, refl, sym, ap, ◌∙◌, subst, inl, inr}
use Rattle.std.specs.List.{filter_map, cons_option}
use Rattle.opcodes.specs.declared.instruction.Case.{Case}
use Rattle.bytecode_model.specs.declared.Value.{Value}
use Rattle.bytecode_model.specs.declared.Value.TheVariants.{Int, Long, Ref, Null, Unset}
use Rattle.bytecode_model.specs.Lists.{replaced, natural}
use Rattle.bytecode_model.specs.Types.{NumberType, IntType, LongType, Kind, OfClass, OfNumbers, OfReferences, Declared, References, Moved, is_moved, suits, zero_of, default, element_type}
use Rattle.bytecode_model.specs.State.{Object, Frame, State}
use Rattle.bytecode_model.specs.Program.{Program, Limits, Method, kind_of, type_number}
use Rattle.bytecode_model.specs.Sizes.{object_words, made_words}
use Rattle.bytecode_model.specs.Rows as rows
use Rattle.bytecode_model.specs.Rows.{Row, FunctionOf}
use Rattle.bytecode_model.specs.Numbers.{is_equal}
use Rattle.bytecode_model.specs.Effects.{Effect, Stuck, Go, Make, WritePart, WriteStatic, Take, Give, Call, Leave, Raise, Fault, ArithmeticException, NegativeArraySizeException, ArrayIndexOutOfBoundsException, OutOfMemoryError, ArrayStoreException, ClassCastException, IncompatibleClassChangeError, effect, on, or_fault, fault, only_if, on_top, on_number, on_numbers, on_object, on_values, on_receiver, on_size, on_element, allocate, selected, same, same_bool, is_instance, has_class, is_array, is_array_of, component_of, at_offset, branch, offset_of_key, stored, incremented, shuffle}
use Rattle.bytecode_model.specs.Steps.{class_of}
use Rattle.bytecode_model.specs.WellFormed.{is_call}
use Rattle.lists.specs.Members.{at_head, in_tail}
use Rattle.method_flow.specs.Nodes.{IsAtOffset, LeadsTo, IsReturn}
use Rattle.method_flow.specs.Calls.{classes_of, selected_in, selected_for, targets_of_row}
use Rattle.method_flow.specs.Shapes.{AreConcrete}
use Rattle.std.specs.Prelude.{IfSome, if◌then◌else◌}
use Rattle.std.specs.Option.{option_map_or}
use Rattle.std.proofs.lemmas.Option.{slice_get-get_or}

-- what an effect says of the row r at place p
abbrev pub Leads : Program → (p next : ℕ) → Row → Effect → Type 0
Leads P p next r Stuck = Unit {0}
Leads P p next r (Go pc ls ops) = LeadsTo p next r pc × (is_call r ≡ false)
Leads P p next r (Make o pc ls ops) = LeadsTo p next r pc × (is_call r ≡ false)
Leads P p next r (WritePart q k v pc ls ops) = LeadsTo p next r pc × (is_call r ≡ false)
Leads P p next r (WriteStatic k v pc ls ops) = LeadsTo p next r pc × (is_call r ≡ false)
Leads P p next r (Take pc ls ops) = LeadsTo p next r pc × (is_call r ≡ false)
Leads P p next r (Give byte pc ls ops) = LeadsTo p next r pc × (is_call r ≡ false)
Leads P p next r (Call m args ops) = (is_call r ≡ true) × Contains (targets_of_row P r) m
Leads P p next r (Leave result) = IsReturn r
Leads P p next r (Raise q) = Unit {0}

-- what holds of an effect that a combinator makes, where it holds of what it goes on with, of Stuck and of every Raise
module _ (K : Effect → Type 0) (stuck : K Stuck) (raised : (p : ℕ) → K (Raise p)) where
  pub on_holds : {A : Type 0} (o : Option A) (go : A → Effect) → ((x : A) → o ≡ Some x → K (go x)) → K (on o go)
  on_holds None go h = stuck
  on_holds (Some x) go h = h x refl

  pub or_fault_holds : {A : Type 0} (f : Fault) (o : Option A) (go : A → Effect) → ((x : A) → K (go x)) → K (or_fault f o go)
  or_fault_holds f None go h = raised _
  or_fault_holds f (Some x) go h = h x

  pub only_if_holds : (b : Bool) (e : Effect) → (b ≡ true → K e) → K (only_if b e)
  only_if_holds true e h = h refl
  only_if_holds false e h = stuck

  pub if_holds : (b : Bool) (e : Effect) (f : Fault) → (b ≡ true → K e) → K (if b then e else fault f)
  if_holds true e f h = h refl
  if_holds false e f h = raised _

  pub on_top_holds : (ops : List Value) (go : Value → List Value → Effect) → ((v : Value) (rest : List Value) → K (go v rest)) → K (on_top ops go)
  on_top_holds [] go h = stuck
  on_top_holds (v ∷ rest) go h = h v rest

  pub on_number_holds : (t : NumberType) (ops : List Value) (go : ℤ → List Value → Effect) → ((n : ℤ) (rest : List Value) → K (go n rest)) → K (on_number t ops go)
  on_number_holds IntType [] go h = stuck
  on_number_holds IntType (Int n ∷ rest) go h = h n rest
  on_number_holds IntType (Long n ∷ rest) go h = stuck
  on_number_holds IntType (Ref p ∷ rest) go h = stuck
  on_number_holds IntType (Null ∷ rest) go h = stuck
  on_number_holds IntType (Unset ∷ rest) go h = stuck
  on_number_holds LongType [] go h = stuck
  on_number_holds LongType (Int n ∷ rest) go h = stuck
  on_number_holds LongType (Long n ∷ rest) go h = h n rest
  on_number_holds LongType (Ref p ∷ rest) go h = stuck
  on_number_holds LongType (Null ∷ rest) go h = stuck
  on_number_holds LongType (Unset ∷ rest) go h = stuck

  pub on_numbers_holds : (R : Type 0) (ts : List NumberType) (f : FunctionOf ts R) (ops : List Value) (go : R → List Value → Effect)
      → ((r : R) (rest : List Value) → K (go r rest)) → K (on_numbers R ts f ops go)
  on_numbers_holds R [] r ops go h = h r ops
  on_numbers_holds R (t ∷ ts) f ops go h = on_number_holds t ops (λ n rest. on_numbers R ts (f n) rest go) (λ n rest. on_numbers_holds R ts (f n) rest go h)

  pub on_object_holds : (os : List Object) (ops : List Value) (go : ℕ → Object → List Value → Effect)
      → ((p : ℕ) (o : Object) (rest : List Value) → slice_get os p ≡ Some o → K (go p o rest)) → K (on_object os ops go)
  on_object_holds os [] go h = stuck
  on_object_holds os (Int n ∷ rest) go h = stuck
  on_object_holds os (Long n ∷ rest) go h = stuck
  on_object_holds os (Ref p ∷ rest) go h = on_holds (slice_get os p) (λ o. go p o rest) (λ o is. h p o rest is)
  on_object_holds os (Null ∷ rest) go h = raised _
  on_object_holds os (Unset ∷ rest) go h = stuck

  pub on_values_holds : (ds : List Declared) (ops taken : List Value) (go : List Value → List Value → Effect)
      → ((args rest : List Value) → K (go args rest)) → K (on_values ds ops taken go)
  on_values_holds [] ops taken go h = h taken ops
  on_values_holds (d ∷ ds) [] taken go h = stuck
  on_values_holds (d ∷ ds) (v ∷ ops) taken go h = only_if_holds (suits d v) (on_values ds ops (v ∷ taken) go) (λ is. on_values_holds ds ops (v ∷ taken) go h)

  pub on_size_holds : (ops : List Value) (go : ℕ → List Value → Effect) → ((n : ℕ) (rest : List Value) → K (go n rest)) → K (on_size ops go)
  on_size_holds ops go h = on_number_holds IntType ops _ (λ n rest. or_fault_holds NegativeArraySizeException (natural n) _ (λ size. h size rest))

  pub on_element_holds : (o : Object) (n : ℤ) (go : ℕ → Value → Effect) → ((k : ℕ) (v : Value) → K (go k v)) → K (on_element o n go)
  on_element_holds o n go h = or_fault_holds ArrayIndexOutOfBoundsException (natural n) _ (λ k. or_fault_holds ArrayIndexOutOfBoundsException (slice_get o.parts k) _ (λ v. h k v))

  pub on_receiver_holds : (P : Program) (s : State) (f : Frame) (m : ℕ) (go : Method → Object → (args rest : List Value) → Effect)
      → ((k : Method) (p : ℕ) (o : Object) (args rest : List Value) → slice_get P.methods m ≡ Some k → slice_get s.objects p ≡ Some o → K (go k o args rest)) → K (on_receiver P s f m go)
  on_receiver_holds P s f m go h =
      on_holds (slice_get P.methods m) _ (λ k has. only_if_holds k.has_this _ (λ is. on_values_holds (reverse k.parameters) f.operands [] _ (λ args rest.
      on_object_holds s.objects rest _ (λ p o rest2 there. h k p o (Ref p ∷ args) rest2 has there))))

  pub allocate_holds : (P : Program) (limits : Limits) (s : State) (k : Kind) (parts : List Value) (pc : ℕ) (ls ops : List Value) → ((o : Object) → K (Make o pc ls ops)) → K (allocate P limits s k parts pc ls ops)
  allocate_holds P limits s k parts pc ls ops h =
      on_holds (type_number P k) _ (λ t is. let o : Object = record { kind = t; parts = parts } in if_holds (nat_le (made_words P s + object_words P o) limits.heap) (Make o pc ls ops) OutOfMemoryError (λ small. h o))

-- ---- targets

pub filtered : {X Y : Type 0} (h : X → Option Y) (xs : List X) (i : ℕ) (x : X) (y : Y) → slice_get xs i ≡ Some x → h x ≡ Some y → Contains (filter_map h xs) y
filtered h [] i x y at is = absurd (cc)
filtered h (z ∷ zs) zero x y at is =
    let same : z ≡ x = cc in
    let now : h z ≡ Some y = ap h same ∙ is in
    subst (λ (o : Option _). Contains (cons_option o (filter_map h zs)) y) (sym now) (at_head y (filter_map h zs))
filtered h (z ∷ zs) (suc i) x y at is = more (h z) (filtered h zs i x y at is)
  where
    more : (o : Option _) → Contains (filter_map h zs) y → Contains (cons_option o (filter_map h zs)) y
    more None later = later
    more (Some w) later = in_tail w y (filter_map h zs) later

selected_is : (P : Program) (m owner c : ℕ) → P.is_concrete c ≡ true → P.extends c owner ≡ true → selected_in P m owner c ≡ P.select c m
selected_is P m owner c concrete above = rw concrete (rw above refl)

raised_class : (P : Program) (named owner : ℕ) → ((c : ℕ) → P.extends c named ≡ true → P.extends c owner ≡ true) → (kind : Option Kind) → has_class P kind named ≡ true → has_class P kind owner ≡ true
raised_class P named owner h None below = below
raised_class P named owner h (Some (OfClass c)) below = h c below
raised_class P named owner h (Some (OfNumbers code)) below = below
raised_class P named owner h (Some (OfReferences k)) below = below

-- what is selected for an object is among the targets
module _ (P : Program) (os : List Object) (concrete : AreConcrete P os) (m : ℕ) (k : Method) (has : slice_get P.methods m ≡ Some k) where
  pub chosen : (p : ℕ) (o : Object) (t : ℕ) → slice_get os p ≡ Some o → has_class P (kind_of P o) k.owner ≡ true → selected P (kind_of P o) m ≡ Some t → Contains (selected_for P m) t
  chosen p o t there above is = by_kind (kind_of P o) refl above is
    where
      by_kind : (kind : Option Kind) → kind_of P o ≡ kind → has_class P kind k.owner ≡ true → selected P kind m ≡ Some t → Contains (selected_for P m) t
      by_kind None at above' is' = absurd (cc)
      by_kind (Some (OfNumbers code)) at above' is' = absurd (cc)
      by_kind (Some (OfReferences l)) at above' is' = absurd (cc)
      by_kind (Some (OfClass c)) at above' is' =
          let c1 : IfSome (Some o) (λ x. IfSome (kind_of P x) (λ kk. IfSome (class_of kk) (λ d. P.is_concrete d ≡ true))) = subst (λ (z : Option Object). IfSome z (λ x. IfSome (kind_of P x) (λ kk. IfSome (class_of kk) (λ d. P.is_concrete d ≡ true)))) there (concrete p) in
          let c2 : P.is_concrete c ≡ true = subst (λ (z : Option Kind). IfSome z (λ kk. IfSome (class_of kk) (λ d. P.is_concrete d ≡ true))) at c1 in
          let sel : selected_in P m k.owner c ≡ Some t = selected_is P m k.owner c c2 above' ∙ is' in
          let placed = filtered class_of P.types o.kind (OfClass c) c at refl in
          let at_class = slice_get-get_or (classes_of P) placed.0 c placed.1 in
          let got : slice_get (classes_of P) placed.0 ≡ Some c = at_class ∙ ap (λ (x : ℕ). Some x) placed.2 in
          let found = filtered (selected_in P m k.owner) (classes_of P) placed.0 c t got sel in
          subst (λ (z : Option Method). Contains (option_map_or (λ kk. filter_map (selected_in P m kk.owner) (classes_of P)) z []) t) (sym has) found

-- ---- the rows

natural_offset : (p : ℕ) (offset : ℤ) (q : ℕ) → natural (pos p +ℤ offset) ≡ Some q → IsAtOffset p offset q
natural_offset p offset q is = by (pos p +ℤ offset) refl is
  where
    by : (z : ℤ) → pos p +ℤ offset ≡ z → natural z ≡ Some q → pos p +ℤ offset ≡ pos q
    by (pos n) at is' = let same : n ≡ q = cc in at ∙ ap pos same
    by (negsuc n) at is' = absurd (cc)

offset_among : (otherwise : ℤ) (cs : List Case) (key : ℤ) → (offset_of_key otherwise cs key ≡ otherwise) ⊎ ((c : Case) × Contains cs c × (offset_of_key otherwise cs key ≡ c.offset))
offset_among otherwise [] key = inl refl
offset_among otherwise (c ∷ cs) key = by (is_equal c.key key) (offset_among otherwise cs key)
  where
    by : (b : Bool) → (offset_of_key otherwise cs key ≡ otherwise) ⊎ ((d : Case) × Contains cs d × (offset_of_key otherwise cs key ≡ d.offset))
        → ((if b then c.offset else offset_of_key otherwise cs key) ≡ otherwise) ⊎ ((d : Case) × Contains (c ∷ cs) d × ((if b then c.offset else offset_of_key otherwise cs key) ≡ d.offset))
    by true later = inr (c, at_head c cs, refl)
    by false (inl none) = inl none
    by false (inr found) = inr (found.0, in_tail c found.0 cs found.1, found.2)

-- of a virtual call: a class that the named one is above has the method's owner above it
abbrev pub above_named : Program → Row → Type 0
above_named P (rows.CallVirtual named m) = (k : Method) → slice_get P.methods m ≡ Some k → (c : ℕ) → P.extends c named ≡ true → P.extends c k.owner ≡ true
above_named P r = Unit {0}

module _ (P : Program) (limits : Limits) (s : State) (f : Frame) (next : ℕ) (concrete : AreConcrete P s.objects) where
  abbrev K : Row → Effect → Type 0
  K r e = Leads P f.pc next r e

  at_offset_leads : (r : Row) (offset : ℤ) (ops : List Value) → is_call r ≡ false → ((q : ℕ) → IsAtOffset f.pc offset q → LeadsTo f.pc next r q) → K r (at_offset f offset ops)
  at_offset_leads r offset ops plain h = on_holds (K r) tt (λ p. tt) (natural (pos f.pc +ℤ offset)) _ (λ pc is. (h pc (natural_offset f.pc offset pc is), plain))

  branch_leads : (r : Row) (taken : Bool) (offset : ℤ) (ops : List Value) → is_call r ≡ false → ((q : ℕ) → IsAtOffset f.pc offset q → LeadsTo f.pc next r q) → LeadsTo f.pc next r next → K r (branch f next taken offset ops)
  branch_leads r true offset ops plain h further = at_offset_leads r offset ops plain h
  branch_leads r false offset ops plain h further = (further, plain)

  returns_leads : (sort : Option Moved) → K (rows.Return sort) (effect P limits s f next (rows.Return sort))
  returns_leads None = tt
  returns_leads (Some sort) = on_top_holds (K (rows.Return (Some sort))) tt (λ p. tt) f.operands _ (λ v rest. only_if_holds (K (rows.Return (Some sort))) tt (λ p. tt) (is_moved sort v) _ (λ is. tt))

  pub effect_leads : (r : Row) → above_named P r → K r (effect P limits s f next r)
  effect_leads rows.Nothing h = (refl, refl)
  effect_leads (rows.Push v) h = (refl, refl)
  effect_leads (rows.Compute taken given compute) h =
      let r = rows.Compute taken given compute in
      on_numbers_holds (K r) tt (λ p. tt) (Option ℤ) taken compute f.operands _ (λ o rest. or_fault_holds (K r) tt (λ p. tt) ArithmeticException o _ (λ n. (refl, refl)))
  effect_leads (rows.Branch taken test offset) h =
      let r = rows.Branch taken test offset in
      on_numbers_holds (K r) tt (λ p. tt) Bool taken test f.operands _ (λ b rest. branch_leads r b offset rest refl (λ q at. inl at) (inr refl))
  effect_leads (rows.BranchSame wanted offset) h =
      let r = rows.BranchSame wanted offset in
      on_top_holds (K r) tt (λ p. tt) f.operands _ (λ v rest. on_top_holds (K r) tt (λ p. tt) rest _ (λ w rest2. on_holds (K r) tt (λ p. tt) (same v w) _ (λ b is. branch_leads r (same_bool b wanted) offset rest2 refl (λ q at. inl at) (inr refl))))
  effect_leads (rows.BranchNull wanted offset) h =
      let r = rows.BranchNull wanted offset in
      on_top_holds (K r) tt (λ p. tt) f.operands _ (λ v rest. on_holds (K r) tt (λ p. tt) (same v Null) _ (λ b is. branch_leads r (same_bool b wanted) offset rest refl (λ q at. inl at) (inr refl)))
  effect_leads (rows.Jump offset) h = at_offset_leads (rows.Jump offset) offset f.operands refl (λ q at. at)
  effect_leads (rows.Switch otherwise cases) h =
      let r = rows.Switch otherwise cases in
      on_number_holds (K r) tt (λ p. tt) IntType f.operands _ (λ key rest. at_offset_leads r (offset_of_key otherwise cases key) rest refl (λ q at. elim (offset_among otherwise cases key) [
        | inl is ↦ inl (subst (λ (o : ℤ). IsAtOffset f.pc o q) is at)
        | inr found ↦ inr (found.0, found.1, subst (λ (o : ℤ). IsAtOffset f.pc o q) found.2 at)
      ]))
  effect_leads (rows.Load sort k) h = let r = rows.Load sort k in on_holds (K r) tt (λ p. tt) (slice_get f.locals k) _ (λ v is. only_if_holds (K r) tt (λ p. tt) (is_moved sort v) _ (λ m. (refl, refl)))
  effect_leads (rows.Store sort k) h =
      let r = rows.Store sort k in
      on_top_holds (K r) tt (λ p. tt) f.operands _ (λ v rest. only_if_holds (K r) tt (λ p. tt) (is_moved sort v) _ (λ m. on_holds (K r) tt (λ p. tt) (stored f.locals k v) _ (λ ls is. (refl, refl))))
  effect_leads (rows.Increment k n) h =
      let r = rows.Increment k n in
      on_holds (K r) tt (λ p. tt) (slice_get f.locals k) _ (λ v is. on_holds (K r) tt (λ p. tt) (incremented v n) _ (λ u is2. on_holds (K r) tt (λ p. tt) (replaced f.locals k u) _ (λ ls is3. (refl, refl))))
  effect_leads (rows.Shuffle form upper lower) h = let r = rows.Shuffle form upper lower in on_holds (K r) tt (λ p. tt) (shuffle form upper lower f.operands) _ (λ ops is. (refl, refl))
  effect_leads (rows.GetStatic k) h = let r = rows.GetStatic k in on_holds (K r) tt (λ p. tt) (slice_get s.statics k) _ (λ v is. (refl, refl))
  effect_leads (rows.PutStatic k) h =
      let r = rows.PutStatic k in
      on_top_holds (K r) tt (λ p. tt) f.operands _ (λ v rest. on_holds (K r) tt (λ p. tt) (slice_get P.statics k) _ (λ d is. only_if_holds (K r) tt (λ p. tt) (suits d v) _ (λ m. (refl, refl))))
  effect_leads (rows.GetField named owner k) h =
      let r = rows.GetField named owner k in
      on_object_holds (K r) tt (λ p. tt) s.objects f.operands _ (λ p o rest there. only_if_holds (K r) tt (λ q. tt) (has_class P (kind_of P o) owner) _ (λ m. on_holds (K r) tt (λ q. tt) (slice_get o.parts k) _ (λ v is. (refl, refl))))
  effect_leads (rows.PutField named owner k) h =
      let r = rows.PutField named owner k in
      on_top_holds (K r) tt (λ p. tt) f.operands _ (λ v rest. on_holds (K r) tt (λ p. tt) (slice_get (P.fields owner) k) _ (λ d is. only_if_holds (K r) tt (λ p. tt) (suits d v) _ (λ m.
      on_object_holds (K r) tt (λ p. tt) s.objects rest _ (λ p o rest2 there. only_if_holds (K r) tt (λ q. tt) (has_class P (kind_of P o) owner) _ (λ m2. (refl, refl))))))
  effect_leads (rows.New c) h = let r = rows.New c in only_if_holds (K r) tt (λ p. tt) (P.is_concrete c) _ (λ is. allocate_holds (K r) tt (λ p. tt) P limits s (OfClass c) (map default (P.fields c)) next f.locals f.operands (λ o. (refl, refl)))
  effect_leads (rows.NewNumbers code) h =
      let r = rows.NewNumbers code in
      on_size_holds (K r) tt (λ p. tt) f.operands _ (λ size rest. allocate_holds (K r) tt (λ p. tt) P limits s (OfNumbers code) (replicate size (zero_of (element_type code))) next f.locals rest (λ o. (refl, refl)))
  effect_leads (rows.NewReferences k) h =
      let r = rows.NewReferences k in
      on_size_holds (K r) tt (λ p. tt) f.operands _ (λ size rest. allocate_holds (K r) tt (λ p. tt) P limits s (OfReferences k) (replicate size Null) next f.locals rest (λ o. (refl, refl)))
  effect_leads rows.Length h = on_object_holds (K rows.Length) tt (λ p. tt) s.objects f.operands _ (λ p o rest there. only_if_holds (K rows.Length) tt (λ q. tt) (is_array (kind_of P o)) _ (λ m. (refl, refl)))
  effect_leads (rows.LoadNumber t codes) h =
      let r = rows.LoadNumber t codes in
      on_number_holds (K r) tt (λ p. tt) IntType f.operands _ (λ n rest. on_object_holds (K r) tt (λ p. tt) s.objects rest _ (λ p o rest2 there. only_if_holds (K r) tt (λ q. tt) (is_array_of codes (kind_of P o)) _ (λ m.
      on_element_holds (K r) tt (λ q. tt) o n _ (λ i v. (refl, refl)))))
  effect_leads (rows.StoreNumber t codes kept) h =
      let r = rows.StoreNumber t codes kept in
      on_number_holds (K r) tt (λ p. tt) t f.operands _ (λ x rest. on_number_holds (K r) tt (λ p. tt) IntType rest _ (λ n rest2. on_object_holds (K r) tt (λ p. tt) s.objects rest2 _ (λ p o rest3 there.
      only_if_holds (K r) tt (λ q. tt) (is_array_of codes (kind_of P o)) _ (λ m. on_element_holds (K r) tt (λ q. tt) o n _ (λ i v. (refl, refl))))))
  effect_leads rows.LoadReference h =
      let r = rows.LoadReference in
      on_number_holds (K r) tt (λ p. tt) IntType f.operands _ (λ n rest. on_object_holds (K r) tt (λ p. tt) s.objects rest _ (λ p o rest2 there. on_holds (K r) tt (λ q. tt) (component_of (kind_of P o)) _ (λ k is.
      on_element_holds (K r) tt (λ q. tt) o n _ (λ i v. (refl, refl)))))
  effect_leads rows.StoreReference h =
      let r = rows.StoreReference in
      on_top_holds (K r) tt (λ p. tt) f.operands _ (λ v rest. only_if_holds (K r) tt (λ p. tt) (is_moved References v) _ (λ m. on_number_holds (K r) tt (λ p. tt) IntType rest _ (λ n rest2.
      on_object_holds (K r) tt (λ p. tt) s.objects rest2 _ (λ p o rest3 there. on_holds (K r) tt (λ q. tt) (component_of (kind_of P o)) _ (λ k is. on_element_holds (K r) tt (λ q. tt) o n _ (λ i old.
      on_holds (K r) tt (λ q. tt) (is_instance P s.objects true k v) _ (λ b is2. if_holds (K r) tt (λ q. tt) b (WritePart p i v next f.locals rest3) ArrayStoreException (λ yes. (refl, refl)))))))))
  effect_leads (rows.Cast k) h =
      let r = rows.Cast k in
      on_top_holds (K r) tt (λ p. tt) f.operands _ (λ v rest. on_holds (K r) tt (λ p. tt) (is_instance P s.objects true k v) _ (λ b is. if_holds (K r) tt (λ q. tt) b (Go next f.locals (v ∷ rest)) ClassCastException (λ yes. (refl, refl))))
  effect_leads (rows.Test k) h = let r = rows.Test k in on_top_holds (K r) tt (λ p. tt) f.operands _ (λ v rest. on_holds (K r) tt (λ p. tt) (is_instance P s.objects false k v) _ (λ b is. (refl, refl)))
  effect_leads rows.Monitor h = on_object_holds (K rows.Monitor) tt (λ p. tt) s.objects f.operands _ (λ p o rest there. (refl, refl))
  effect_leads rows.Throw h = on_object_holds (K rows.Throw) tt (λ p. tt) s.objects f.operands _ (λ p o rest there. tt)
  effect_leads (rows.CallStatic m) h =
      let r = rows.CallStatic m in
      on_holds (K r) tt (λ p. tt) (slice_get P.methods m) _ (λ k is. on_values_holds (K r) tt (λ p. tt) (reverse k.parameters) f.operands [] (λ args rest. Call m args rest) (λ args rest. (refl, at_head m [])))
  effect_leads (rows.CallSpecial named m) h = let r = rows.CallSpecial named m in on_receiver_holds (K r) tt (λ p. tt) P s f m (λ k o args rest. Call m args rest) (λ k p o args rest has there. (refl, at_head m []))
  effect_leads (rows.CallVirtual named m) h =
      let r = rows.CallVirtual named m in
      on_receiver_holds (K r) tt (λ p. tt) P s f m _ (λ k p o args rest has there. only_if_holds (K r) tt (λ q. tt) (has_class P (kind_of P o) named) (on (selected P (kind_of P o) m) (λ t. Call t args rest)) (λ below.
      on_holds (K r) tt (λ q. tt) (selected P (kind_of P o) m) (λ t. Call t args rest) (λ t is. (refl, chosen P s.objects concrete m k has p o t there (raised_class P named k.owner (h k has) (kind_of P o) below) is))))
  effect_leads (rows.CallInterface named m) h =
      let r = rows.CallInterface named m in
      on_receiver_holds (K r) tt (λ p. tt) P s f m _ (λ k p o args rest has there. if_holds (K r) tt (λ q. tt) (has_class P (kind_of P o) k.owner) (on (selected P (kind_of P o) m) (λ t. Call t args rest)) IncompatibleClassChangeError (λ below.
      on_holds (K r) tt (λ q. tt) (selected P (kind_of P o) m) (λ t. Call t args rest) (λ t is. (refl, chosen P s.objects concrete m k has p o t there below is))))
  effect_leads (rows.Return sort) h = returns_leads sort
  effect_leads rows.Read h = (refl, refl)
  effect_leads rows.Write h = on_number_holds (K rows.Write) tt (λ p. tt) IntType f.operands _ (λ n rest. (refl, refl))
