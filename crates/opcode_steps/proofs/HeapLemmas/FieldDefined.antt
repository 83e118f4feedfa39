-- What follows where an effect gives a next state.
use Rattle.std.proofs.Common.{◌≡◌, ℕ, Bool, true, false, List, [], ◌∷◌, Option, Some, None, refl, sym, ap, ◌∙◌}
use Rattle.std.specs.Prelude.{slice_get}
use Rattle.std.proofs.lemmas.Option.{none-some}
use Rattle.bytecode_model.specs.declared.Value.{Value}
use Rattle.bytecode_model.specs.declared.Value.TheVariants.{Int, Long, Ref, Null, Unset}
use Rattle.bytecode_model.specs.Types.{IntType, LongType, Declared, Numeric, Reference, is_long, default, suits}
use Rattle.bytecode_model.specs.State.{Object, Frame, State}
use Rattle.bytecode_model.specs.Program.{Program, Limits}
use Rattle.bytecode_model.specs.Effects.{Effect, NullPointerException, fault, on, only_if, on_top, on_object}
use Rattle.bytecode_model.specs.Steps.{applied}
use Rattle.image_facts.specs.Words.{is_long_type}

module _ (P : Program) (limits : Limits) (answer : Option ℕ) (s : State) (f : Frame) (callers : List Frame) (s' : State) where
  -- the effect leads to the next state
  abbrev pub Leads : Effect → Type 0
  Leads e = applied P limits answer s f callers e ≡ Some s'

  pub on_defined : {A : Type 0} (o : Option A) (go : A → Effect) → Leads (on o go) → (x : A) × (o ≡ Some x) × (on o go ≡ go x) × Leads (go x)
  on_defined None go h = absurd (none-some s' h)
  on_defined (Some x) go h = (x, refl, refl, h)

  pub only_if_defined : (b : Bool) (e : Effect) → Leads (only_if b e) → (b ≡ true) × (only_if b e ≡ e) × Leads e
  only_if_defined true e h = (refl, refl, h)
  only_if_defined false e h = absurd (none-some s' h)

  pub on_top_defined : (ops : List Value) (go : Value → List Value → Effect) → Leads (on_top ops go) → (v : Value) × (rest : List Value) × (ops ≡ v ∷ rest) × (on_top ops go ≡ go v rest) × Leads (go v rest)
  on_top_defined [] go h = absurd (none-some s' h)
  on_top_defined (v ∷ rest) go h = (v, rest, refl, refl, h)

  -- null, or an object that is there
  pub on_object_defined : (objects : List Object) (ops : List Value) (go : ℕ → Object → List Value → Effect) (C : Type 0) → Leads (on_object objects ops go)
      → ((rest : List Value) → ops ≡ Null ∷ rest → on_object objects ops go ≡ fault NullPointerException → C)
      → ((p : ℕ) (o : Object) (rest : List Value) → ops ≡ Ref p ∷ rest → slice_get objects p ≡ Some o → on_object objects ops go ≡ go p o rest → Leads (go p o rest) → C) → C
  on_object_defined objects [] go C h null there = absurd (none-some s' h)
  on_object_defined objects (Ref p ∷ rest) go C h null there =
      let o = on_defined (slice_get objects p) (λ o. go p o rest) h in
      there p o.0 rest refl o.1 o.2 o.3
  on_object_defined objects (Null ∷ rest) go C h null there = null rest refl refl
  on_object_defined objects (Int n ∷ rest) go C h null there = absurd (none-some s' h)
  on_object_defined objects (Long n ∷ rest) go C h null there = absurd (none-some s' h)
  on_object_defined objects (Unset ∷ rest) go C h null there = absurd (none-some s' h)

-- ---- values and types

-- a value that suits a type has its width, and is set
pub suits_wide : (d : Declared) (v : Value) → suits d v ≡ true → is_long v ≡ is_long_type d
suits_wide (Numeric IntType) (Int n) h = refl
suits_wide (Numeric LongType) (Long n) h = refl
suits_wide (Reference k) (Ref p) h = refl
suits_wide (Reference k) Null h = refl
suits_wide (Numeric IntType) (Long n) h = absurd (cc)
suits_wide (Numeric IntType) (Ref p) h = absurd (cc)
suits_wide (Numeric IntType) Null h = absurd (cc)
suits_wide (Numeric IntType) Unset h = absurd (cc)
suits_wide (Numeric LongType) (Int n) h = absurd (cc)
suits_wide (Numeric LongType) (Ref p) h = absurd (cc)
suits_wide (Numeric LongType) Null h = absurd (cc)
suits_wide (Numeric LongType) Unset h = absurd (cc)
suits_wide (Reference k) (Int n) h = absurd (cc)
suits_wide (Reference k) (Long n) h = absurd (cc)
suits_wide (Reference k) Unset h = absurd (cc)

pub suits_set : (d : Declared) (v : Value) → suits d v ≡ true → v ≡ Unset → ⊥
suits_set (Numeric IntType) v h unset = let none : false ≡ true = ap (λ u. suits (Numeric IntType) u) (sym unset) ∙ h in cc
suits_set (Numeric LongType) v h unset = let none : false ≡ true = ap (λ u. suits (Numeric LongType) u) (sym unset) ∙ h in cc
suits_set (Reference k) v h unset = let none : false ≡ true = ap (λ u. suits (Reference k) u) (sym unset) ∙ h in cc

pub declared_wide : (d : Declared) → is_long (default d) ≡ is_long_type d
declared_wide (Numeric IntType) = refl
declared_wide (Numeric LongType) = refl
declared_wide (Reference k) = refl
