-- What follows where an effect gives a next state.
use Rattle.std.proofs.Common.{◌≡◌, ℕ, Bool, true, false, List, [], ◌∷◌, Option, Some, None, refl, subst}
use Rattle.std.specs.Prelude.{IsSomeAnd}
use Rattle.std.proofs.lemmas.Option.{none-some}
use Rattle.bytecode_model.specs.declared.Value.{Value}
use Rattle.bytecode_model.specs.State.{Frame, State}
use Rattle.bytecode_model.specs.Program.{Program, Limits}
use Rattle.bytecode_model.specs.Effects.{Effect, on, only_if, on_top}
use Rattle.bytecode_model.specs.Lists.{onto}
use Rattle.bytecode_model.specs.Steps.{applied}

-- the effect of what is taken, where there is some
pub on_defined : (P : Program) (limits : Limits) (answer : Option ℕ) (s : State) (f : Frame) (callers : List Frame) (s' : State) {A : Type 0} (o : Option A) (go : A → Effect)
    → applied P limits answer s f callers (on o go) ≡ Some s' → (x : A) × (o ≡ Some x) × (on o go ≡ go x) × (applied P limits answer s f callers (go x) ≡ Some s')
on_defined P limits answer s f callers s' None go h = absurd (none-some s' h)
on_defined P limits answer s f callers s' (Some x) go h = (x, refl, refl, h)

pub only_if_defined : (P : Program) (limits : Limits) (answer : Option ℕ) (s : State) (f : Frame) (callers : List Frame) (s' : State) (b : Bool) (e : Effect)
    → applied P limits answer s f callers (only_if b e) ≡ Some s' → (b ≡ true) × (only_if b e ≡ e) × (applied P limits answer s f callers e ≡ Some s')
only_if_defined P limits answer s f callers s' true e h = (refl, refl, h)
only_if_defined P limits answer s f callers s' false e h = absurd (none-some s' h)

pub on_top_defined : (P : Program) (limits : Limits) (answer : Option ℕ) (s : State) (f : Frame) (callers : List Frame) (s' : State) (ops : List Value) (go : Value → List Value → Effect)
    → applied P limits answer s f callers (on_top ops go) ≡ Some s' → (v : Value) × (rest : List Value) × (ops ≡ v ∷ rest) × (on_top ops go ≡ go v rest) × (applied P limits answer s f callers (go v rest) ≡ Some s')
on_top_defined P limits answer s f callers s' [] go h = absurd (none-some s' h)
on_top_defined P limits answer s f callers s' (v ∷ rest) go h = (v, rest, refl, refl, h)
