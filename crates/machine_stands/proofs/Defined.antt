-- What follows where a step is defined.
use Rattle.std.proofs.Common.{◌≡◌, ℕ, zero, suc, ℤ, Bool, true, false, List, [], ◌∷◌, Option, Some, None, map, refl, sym, ◌∙◌, ap, subst}
use Rattle.std.specs.Prelude.{slice_get, IsSomeAnd}
use Rattle.std.proofs.lemmas.Option.{none-some}
use Rattle.lists.proofs.Lemmas.{onto_some, some_same}
use Rattle.bytecode_model.specs.declared.Value.{Value}
use Rattle.bytecode_model.specs.declared.Value.TheVariants.{Int, Long, Ref, Null, Unset}
use Rattle.bytecode_model.specs.declared.Ending.TheVariants.{Running}
use Rattle.bytecode_model.specs.Lists.{onto, replaced}
use Rattle.bytecode_model.specs.Types.{IntType, LongType, Kind, OfClass, OfNumbers, OfReferences, Declared, Numeric, Reference, is_long, default, suits}
use Rattle.bytecode_model.specs.Rows.{Row}
use Rattle.bytecode_model.specs.State.{Object, Frame, State}
use Rattle.bytecode_model.specs.Program.{Program, Limits}
use Rattle.bytecode_model.specs.Effects.{Effect, on, only_if, effect, has_class}
use Rattle.bytecode_model.specs.Steps.{applied, step, step_in, row_at, written}
use Rattle.bytecode_model.specs.WellFormed.{IsObject, AreObjects, AreAlike}

-- ---- options

-- ---- the step

pub step_is : (P : Program) (limits : Limits) (answer : Option ℕ) (s : State) (f : Frame) (callers : List Frame) (x : ℕ × Row) → s.mode ≡ Running → s.frames ≡ f ∷ callers → row_at P f ≡ Some x
    → step P limits answer s ≡ applied P limits answer s f callers (effect P limits s f x.0 x.1)
step_is P limits answer s f callers x mode frames row =
    ap (λ mode. step_in P limits answer s s.frames mode) mode ∙ ap (λ fs. step_in P limits answer s fs Running) frames
    ∙ ap (λ o. onto o (λ (y : ℕ × Row). applied P limits answer s f callers (effect P limits s f y.0 y.1))) row

pub on_defined : (P : Program) (limits : Limits) (answer : Option ℕ) (s : State) (f : Frame) (callers : List Frame) (s' : State) {A : Type 0} (o : Option A) (go : A → Effect)
    → applied P limits answer s f callers (on o go) ≡ Some s' → (x : A) × (o ≡ Some x) × (applied P limits answer s f callers (go x) ≡ Some s')
on_defined P limits answer s f callers s' None go h = absurd (none-some s' h)
on_defined P limits answer s f callers s' (Some x) go h = (x, refl, h)

pub only_if_defined : (P : Program) (limits : Limits) (answer : Option ℕ) (s : State) (f : Frame) (callers : List Frame) (s' : State) (b : Bool) (e : Effect)
    → applied P limits answer s f callers (only_if b e) ≡ Some s' → (b ≡ true) × (applied P limits answer s f callers e ≡ Some s')
only_if_defined P limits answer s f callers s' true e h = (refl, h)
only_if_defined P limits answer s f callers s' false e h = absurd (none-some s' h)

-- ---- objects and their values

pub class_is : (P : Program) (k : Option Kind) (owner : ℕ) → has_class P k owner ≡ true → (c : ℕ) × (k ≡ Some (OfClass c)) × (P.extends c owner ≡ true)
class_is P (Some (OfClass c)) owner h = (c, refl, h)
class_is P (Some (OfNumbers a)) owner h = absurd (cc)
class_is P (Some (OfReferences k)) owner h = absurd (cc)
class_is P None owner h = absurd (cc)

pub object_at : (P : Program) (n : ℕ) (os : List Object) (p : ℕ) (o : Object) → AreObjects P n os → slice_get os p ≡ Some o → IsObject P n o
object_at P n [] p o h e = absurd (none-some o e)
object_at P n (u ∷ os) zero o h e = subst (λ x. IsObject P n x) (some_same u o e) h.0
object_at P n (u ∷ os) (suc p) o h e = object_at P n os p o h.1 e

pub item_at : {X : Type 0} (xs ys : List X) (k : ℕ) (y : X) → replaced xs k y ≡ Some ys → (x : X) × (slice_get xs k ≡ Some x)
item_at [] ys k y h = absurd (none-some ys h)
item_at (x ∷ xs) ys zero y h = (x, refl)
item_at (x ∷ xs) ys (suc k) y h = let r = onto_some (replaced xs k y) (λ zs. Some (x ∷ zs)) ys h in item_at xs r.0 k y r.1

pub alike_at : (vs : List Value) (ds : List Declared) (k : ℕ) (v : Value) (d : Declared) → AreAlike vs (map default ds) → slice_get vs k ≡ Some v → slice_get ds k ≡ Some d → is_long v ≡ is_long (default d)
alike_at [] ds k v d h e g = absurd (none-some v e)
alike_at (u ∷ vs) [] k v d h e g = absurd h
alike_at (u ∷ vs) (t ∷ ds) zero v d h e g = ap is_long (sym (some_same u v e)) ∙ h.0 ∙ ap (λ x. is_long (default x)) (some_same t d g)
alike_at (u ∷ vs) (t ∷ ds) (suc k) v d h e g = alike_at vs ds k v d h.2 e g

pub long_is : (v : Value) → is_long v ≡ true → (n : ℤ) × (v ≡ Long n)
long_is (Int n) h = absurd (cc)
long_is (Long n) h = (n, refl)
long_is (Ref p) h = absurd (cc)
long_is Null h = absurd (cc)
long_is Unset h = absurd (cc)

pub long_suits : (d : Declared) (n : ℤ) → suits d (Long n) ≡ true → d ≡ Numeric LongType
long_suits (Numeric IntType) n h = absurd (cc)
long_suits (Numeric LongType) n h = refl
long_suits (Reference k) n h = absurd (cc)

-- a value is written where there is one
pub part_at : (objects changed : List Object) (p k : ℕ) (o : Object) (w : Value) → slice_get objects p ≡ Some o → written objects p k w ≡ Some changed → (v : Value) × (slice_get o.parts k ≡ Some v)
part_at objects changed p k o w e h =
    let r = onto_some (replaced o.parts k w) (λ vs. replaced objects p (record o { parts = vs })) changed
    (sym (ap (λ x. onto x (λ (u : Object). onto (replaced u.parts k w) (λ vs. replaced objects p (record u { parts = vs })))) e) ∙ h) in
    item_at o.parts r.0 k w r.1
