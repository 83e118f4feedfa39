-- What invokes and instructions that make objects raise by themselves.
use Rattle.std.proofs.Common.{◌≡◌, ℕ, Bool, true, false, List, [], ◌∷◌, reverse, Option, Some, None, slice_get}
use Rattle.std.specs.Prelude.{if◌then◌else◌}
use Rattle.bytecode_model.specs.declared.Value.{Value}
use Rattle.bytecode_model.specs.declared.Value.TheVariants.{Int, Long, Ref, Null, Unset}
use Rattle.bytecode_model.specs.Types.{Declared, suits}
use Rattle.bytecode_model.specs.State.{Object, Frame, State}
use Rattle.bytecode_model.specs.Program.{Program, Limits, Method, kind_of}
use Rattle.bytecode_model.specs.Effects.{Effect, Stuck, Call, Raise, fault, on, only_if, on_values, on_object, on_receiver, has_class, selected, effect}
use Rattle.bytecode_model.specs.Effects.{NullPointerException, IncompatibleClassChangeError}
use Rattle.bytecode_model.specs.Rows as rows
use Rattle.bytecode_model.specs.Rows.{Row}
use Rattle.bytecode_model.specs.WellFormed.{is_call}

-- the instruction calls, or raises another object than this
abbrev pub CallsOrRaisesNot : (object : ℕ) → Effect → Type 0
CallsOrRaisesNot x (Call m args ops) = Unit {0}
CallsOrRaisesNot x (Raise p) = p ≡ x → ⊥
CallsOrRaisesNot x Stuck = Unit {0}
CallsOrRaisesNot x e = ⊥

module _ (x : ℕ) where
  abbrev K : Effect → Type 0
  K e = CallsOrRaisesNot x e

  on_is : {A : Type 0} (o : Option A) (go : A → Effect) → ((y : A) → K (go y)) → K (on o go)
  on_is None go h = tt
  on_is (Some y) go h = h y

  only_is : (b : Bool) (e : Effect) → K e → K (only_if b e)
  only_is true e h = h
  only_is false e h = tt

  values_is : (ds : List Declared) (ops taken : List Value) (go : List Value → List Value → Effect) → ((args rest : List Value) → K (go args rest)) → K (on_values ds ops taken go)
  values_is [] ops taken go h = h taken ops
  values_is (d ∷ ds) [] taken go h = tt
  values_is (d ∷ ds) (v ∷ ops) taken go h = only_is (suits d v) (on_values ds ops (v ∷ taken) go) (values_is ds ops (v ∷ taken) go h)

  object_is : (objects : List Object) (ops : List Value) (go : ℕ → Object → List Value → Effect) → K (fault NullPointerException) → ((p : ℕ) (o : Object) (rest : List Value) → K (go p o rest)) → K (on_object objects ops go)
  object_is objects [] go null h = tt
  object_is objects (Ref p ∷ rest) go null h = on_is (slice_get objects p) (λ o. go p o rest) (λ o. h p o rest)
  object_is objects (Null ∷ rest) go null h = null
  object_is objects (Int n ∷ rest) go null h = tt
  object_is objects (Long n ∷ rest) go null h = tt
  object_is objects (Unset ∷ rest) go null h = tt

  module _ (P : Program) (limits : Limits) (s : State) (f : Frame) (next : ℕ) (null : K (fault NullPointerException)) (change : K (fault IncompatibleClassChangeError)) where
    receiver_is : (m : ℕ) (go : Method → Object → List Value → List Value → Effect) → ((k : Method) (o : Object) (args rest : List Value) → K (go k o args rest)) → K (on_receiver P s f m go)
    receiver_is m go h =
        on_is (slice_get P.methods m) _ (λ k. only_is k.has_this _ (values_is (reverse k.parameters) f.operands [] _ (λ args rest. object_is s.objects rest _ null (λ p o rest2. h k o (Ref p ∷ args) rest2))))

    of_class : (b : Bool) (e : Effect) → K e → K (if b then e else fault IncompatibleClassChangeError)
    of_class true e h = h
    of_class false e h = change

    pub call_is : (r : Row) → is_call r ≡ true → K (effect P limits s f next r)
    call_is (rows.CallStatic m) c = on_is (slice_get P.methods m) _ (λ k. values_is (reverse k.parameters) f.operands [] _ (λ args rest. tt))
    call_is (rows.CallSpecial named m) c = receiver_is m (λ k o args rest. Call m args rest) (λ k o args rest. tt)
    call_is (rows.CallVirtual named m) c = receiver_is m _ (λ k o args rest. only_is (has_class P (kind_of P o) named) _ (on_is (selected P (kind_of P o) m) (λ t. Call t args rest) (λ t. tt)))
    call_is (rows.CallInterface named m) c = receiver_is m _ (λ k o args rest. of_class (has_class P (kind_of P o) k.owner) _ (on_is (selected P (kind_of P o) m) (λ t. Call t args rest) (λ t. tt)))
    call_is r c = absurd (cc)
