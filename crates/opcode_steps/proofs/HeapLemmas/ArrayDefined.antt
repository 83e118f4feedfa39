-- What follows where an effect gives a next state.
use Rattle.std.proofs.Common.{◌≡◌, ℕ, zero, suc, ◌<◌, ◌≤◌, ◌==◌, ◌||◌, Bool, true, false, ℤ, pos, negsuc, List, [], ◌∷◌, Option, Some, None, length, refl, sym, ap, ◌∙◌, subst, arith}
use Rattle.std.specs.Prelude.{slice_get}
use Rattle.std.specs.List.{list_any}
use Rattle.std.proofs.lemmas.Option.{none-some}
use Rattle.std.proofs.lemmas.Bool.Decides.{nat_tests}
use Rattle.lists.proofs.Lemmas.{some_same}
use Rattle.bytecode_model.specs.declared.Value.{Value}
use Rattle.bytecode_model.specs.declared.Value.TheVariants.{Int, Long, Ref, Null, Unset}
use Rattle.bytecode_model.specs.Types.{Kind, OfClass, OfNumbers, OfReferences, IntType, LongType}
use Rattle.bytecode_model.specs.State.{Object, Frame, State}
use Rattle.bytecode_model.specs.Program.{Program, Limits, kind_of}
use Rattle.bytecode_model.specs.Effects.{Effect, ArrayIndexOutOfBoundsException, NullPointerException, fault, on, or_fault, only_if, on_top, on_number, on_object, on_element, is_array, is_array_of, component_of}
use Rattle.bytecode_model.specs.Steps.{applied}
use Rattle.opcode_steps.specs.Heap.Widths.{has_longs}

-- ---- indexes

abbrev pub IsOutside : ℤ → (count : ℕ) → Type 0
IsOutside (pos k) count = count ≤ k
IsOutside (negsuc k) count = Unit {0}

none_past : {X : Type 0} (xs : List X) (k : ℕ) → slice_get xs k ≡ None → length xs ≤ k
none_past [] k h = omega arith
none_past (x ∷ xs) zero h = absurd (none-some x (sym h))
none_past (x ∷ xs) (suc k) h = omega (arith, none_past xs k h)

pub some_before : {X : Type 0} (xs : List X) (k : ℕ) (x : X) → slice_get xs k ≡ Some x → k < length xs
some_before [] k x h = absurd (none-some x h)
some_before (y ∷ xs) zero x h = omega arith
some_before (y ∷ xs) (suc k) x h = omega (arith, some_before xs k x h)

-- ---- effects

module _ (P : Program) (limits : Limits) (answer : Option ℕ) (s : State) (f : Frame) (callers : List Frame) (s' : State) where
  -- the effect leads to the next state
  abbrev pub Leads : Effect → Type 0
  Leads e = applied P limits answer s f callers e ≡ Some s'

  pub on_defined : {A : Type 0} (o : Option A) (go : A → Effect) → Leads (on o go) → (x : A) × (o ≡ Some x) × (on o go ≡ go x) × Leads (go x)
  on_defined None go h = absurd (none-some s' h)
  on_defined (Some x) go h = (x, refl, refl, h)

  pub only_if_defined : (b : Bool) (e : Effect) → Leads (only_if b e) → (b ≡ true) × (only_if b e ≡ e) × Leads e
  only_if_defined true e h = (refl, refl, h)
  only_if_defined false e h = absurd (none-some s' h)

  pub on_top_defined : (ops : List Value) (go : Value → List Value → Effect) → Leads (on_top ops go) → (v : Value) × (rest : List Value) × (ops ≡ v ∷ rest) × (on_top ops go ≡ go v rest) × Leads (go v rest)
  on_top_defined [] go h = absurd (none-some s' h)
  on_top_defined (v ∷ rest) go h = (v, rest, refl, refl, h)

  pub on_int_defined : (ops : List Value) (go : ℤ → List Value → Effect) → Leads (on_number IntType ops go) → (n : ℤ) × (rest : List Value) × (ops ≡ Int n ∷ rest) × (on_number IntType ops go ≡ go n rest) × Leads (go n rest)
  on_int_defined [] go h = absurd (none-some s' h)
  on_int_defined (Int n ∷ rest) go h = (n, rest, refl, refl, h)
  on_int_defined (Long n ∷ rest) go h = absurd (none-some s' h)
  on_int_defined (Ref p ∷ rest) go h = absurd (none-some s' h)
  on_int_defined (Null ∷ rest) go h = absurd (none-some s' h)
  on_int_defined (Unset ∷ rest) go h = absurd (none-some s' h)

  pub on_long_defined : (ops : List Value) (go : ℤ → List Value → Effect) → Leads (on_number LongType ops go) → (n : ℤ) × (rest : List Value) × (ops ≡ Long n ∷ rest) × (on_number LongType ops go ≡ go n rest) × Leads (go n rest)
  on_long_defined [] go h = absurd (none-some s' h)
  on_long_defined (Int n ∷ rest) go h = absurd (none-some s' h)
  on_long_defined (Long n ∷ rest) go h = (n, rest, refl, refl, h)
  on_long_defined (Ref p ∷ rest) go h = absurd (none-some s' h)
  on_long_defined (Null ∷ rest) go h = absurd (none-some s' h)
  on_long_defined (Unset ∷ rest) go h = absurd (none-some s' h)

  -- an index outside, or an element that is there
  pub on_element_defined : (o : Object) (n : ℤ) (go : ℕ → Value → Effect) (C : Type 0) → Leads (on_element o n go) → (IsOutside n (length o.parts) → on_element o n go ≡ fault ArrayIndexOutOfBoundsException → C)
      → ((k : ℕ) (v : Value) → n ≡ pos k → slice_get o.parts k ≡ Some v → on_element o n go ≡ go k v → Leads (go k v) → C) → C
  on_element_defined o (negsuc k) go C h outside inside = outside tt refl
  on_element_defined o (pos k) go C h outside inside = by (slice_get o.parts k) refl
    where
      by : (q : Option Value) → slice_get o.parts k ≡ q → C
      by None e = outside (none_past o.parts k e) (ap (λ (r : Option Value). or_fault ArrayIndexOutOfBoundsException r (λ v. go k v)) e)
      by (Some v) e =
          let is = ap (λ (r : Option Value). or_fault ArrayIndexOutOfBoundsException r (λ v. go k v)) e in
          inside k v refl e is (subst Leads is h)

  -- null, or an object that is there
  pub on_object_defined : (objects : List Object) (ops : List Value) (go : ℕ → Object → List Value → Effect) (C : Type 0) → Leads (on_object objects ops go)
      → ((rest : List Value) → ops ≡ Null ∷ rest → on_object objects ops go ≡ fault NullPointerException → C)
      → ((p : ℕ) (o : Object) (rest : List Value) → ops ≡ Ref p ∷ rest → slice_get objects p ≡ Some o → on_object objects ops go ≡ go p o rest → Leads (go p o rest) → C) → C
  on_object_defined objects [] go C h null there = absurd (none-some s' h)
  on_object_defined objects (Ref p ∷ rest) go C h null there =
      let o = on_defined (slice_get objects p) (λ o. go p o rest) h in
      there p o.0 rest refl o.1 o.2 o.3
  on_object_defined objects (Null ∷ rest) go C h null there = null rest refl refl
  on_object_defined objects (Int n ∷ rest) go C h null there = absurd (none-some s' h)
  on_object_defined objects (Long n ∷ rest) go C h null there = absurd (none-some s' h)
  on_object_defined objects (Unset ∷ rest) go C h null there = absurd (none-some s' h)

-- ---- arrays of numbers and of references

-- the object is an array, whose elements are longs or aren't
pub record IsArray (P : Program) (o : Object) (wide : Bool) : Type 0 where
  pub kind : Kind
  pub kind_is : kind_of P o ≡ Some kind
  pub array : (c : ℕ) → kind ≡ OfClass c → ⊥
  pub length_stands : is_array (kind_of P o) ≡ true
  pub longs : has_longs kind ≡ wide

-- each of the array type codes has elements of the width
abbrev pub HaveWidth : Bool → List ℕ → Type 0
HaveWidth wide [] = Unit {0}
HaveWidth wide (c ∷ cs) = (has_longs (OfNumbers c) ≡ wide) × HaveWidth wide cs

among_width : (wide : Bool) (codes : List ℕ) (a : ℕ) → list_any (λ c. c == a) codes ≡ true → HaveWidth wide codes → has_longs (OfNumbers a) ≡ wide
among_width wide [] a h each = absurd (cc)
among_width wide (c ∷ cs) a h each = by (c == a) refl h (λ g. among_width wide cs a g each.1)
  where
    by : (b : Bool) → (c == a) ≡ b → (b || list_any (λ c. c == a) cs) ≡ true → (list_any (λ c. c == a) cs ≡ true → has_longs (OfNumbers a) ≡ wide) → has_longs (OfNumbers a) ≡ wide
    by true e g later = let same : c ≡ a = grind (arith, nat_tests, e) in ap (λ (k : ℕ). has_longs (OfNumbers k)) (sym same) ∙ each.0
    by false e g later = later g

numbers_in : (P : Program) (o : Object) (wide : Bool) (codes : List ℕ) (q : Option Kind) → kind_of P o ≡ q → is_array_of codes q ≡ true → HaveWidth wide codes → IsArray P o wide
numbers_in P o wide codes None is h each = absurd (cc)
numbers_in P o wide codes (Some (OfClass c)) is h each = absurd (cc)
numbers_in P o wide codes (Some (OfReferences k)) is h each = absurd (cc)
numbers_in P o wide codes (Some (OfNumbers a)) is h each = record { kind = OfNumbers a; kind_is = is; array = λ c e. no_class a c e; length_stands = ap is_array is; longs = among_width wide codes a h each }
  where
    no_class : (a c : ℕ) → OfNumbers a ≡ OfClass c → ⊥
    no_class a c e = cc

pub numbers : (P : Program) (o : Object) (wide : Bool) (codes : List ℕ) → is_array_of codes (kind_of P o) ≡ true → HaveWidth wide codes → IsArray P o wide
numbers P o wide codes h each = numbers_in P o wide codes (kind_of P o) refl h each

pub references_are : (q : Option Kind) (k : Kind) → component_of q ≡ Some k → q ≡ Some (OfReferences k)
references_are None k h = absurd (none-some k h)
references_are (Some (OfClass c)) k h = absurd (none-some k h)
references_are (Some (OfNumbers a)) k h = absurd (none-some k h)
references_are (Some (OfReferences l)) k h = ap (λ (j : Kind). Some (OfReferences j)) (some_same l k h)

pub references : (P : Program) (o : Object) (k : Kind) → component_of (kind_of P o) ≡ Some k → IsArray P o false
references P o k h = let is = references_are (kind_of P o) k h in record { kind = OfReferences k; kind_is = is; array = λ c e. no_class k c e; length_stands = ap is_array is; longs = refl }
  where
    no_class : (k : Kind) (c : ℕ) → OfReferences k ≡ OfClass c → ⊥
    no_class k c e = cc
