-- The shape of a step from a state that fits.
use Rattle.std.proofs.Common.{◌≡◌, ℕ, Bool, true, false, List, [], ◌∷◌, length, Option, Some, None, slice_get, refl, subst, IsSomeAnd, IfSome}
use Rattle.opcodes.specs.Start.{IsStart}
use Rattle.bytecode_model.specs.declared.Value.{Value}
use Rattle.bytecode_model.specs.declared.Ending.{Ending}
use Rattle.bytecode_model.specs.declared.Ending.TheVariants.{Running, Raising, Ended, Uncaught}
use Rattle.bytecode_model.specs.Lists.{onto}
use Rattle.bytecode_model.specs.Types.{Kind, OfClass, OfNumbers, OfReferences}
use Rattle.bytecode_model.specs.State.{Object, Frame, State}
use Rattle.bytecode_model.specs.Program.{Program, Limits, Method, Body, body_of, kind_of}
use Rattle.bytecode_model.specs.Rows.{Row, CallVirtual}
use Rattle.bytecode_model.specs.Steps.{class_of, row_at, step, step_in}
use Rattle.bytecode_model.specs.WellFormed.{AreFrames}
use Rattle.bytecode_typing.specs.Tests.{Holds}
use Rattle.bytecode_typing.specs.Typed.{Typing, Typed}
use Rattle.bytecode_typing.specs.Lawful.{Lawful, IsVirtualCall, IsResolvedRow}
use Rattle.bytecode_typing.specs.Fits.{ObjectFits, PartsFit, numbers_of, IsGoing, Fits}
use Rattle.bytecode_typing.specs.Laws.{FittingStatesAreWellFormed}
use Rattle.method_flow.specs.Shapes.{AreConcrete, NamesAbove, FramesStep, StepsHaveShapes}

-- a state with a next one goes on
pub goes_on : (P : Program) (limits : Limits) (answer : Option ℕ) (s t : State) (fs : List Frame) (mode : Ending) → step_in P limits answer s fs mode ≡ Some t → IsGoing mode
goes_on P limits answer s t fs Running e = tt
goes_on P limits answer s t fs (Raising p) e = tt
goes_on P limits answer s t [] Ended e = absurd (cc)
goes_on P limits answer s t (f ∷ fs) Ended e = absurd (cc)
goes_on P limits answer s t [] (Uncaught c) e = absurd (cc)
goes_on P limits answer s t (f ∷ fs) (Uncaught c) e = absurd (cc)

on_some : {A : Type 0} (K L : A → Type 0) (o : Option A) → ((x : A) → K x → L x) → IsSomeAnd o K → IsSomeAnd o L
on_some K L None h k = absurd k
on_some K L (Some x) h k = h x k

holds_true : (b : Bool) → b ≡ true → Holds b
holds_true true e = tt
holds_true false e = absurd (cc)

true_holds : (b : Bool) → Holds b → b ≡ true
true_holds true h = refl
true_holds false h = absurd h

-- ---- objects

concrete_in : (P : Program) (ks : List ℕ) (k : Kind) (vs : List Value) → PartsFit P ks k vs → IfSome (class_of k) (λ c. P.is_concrete c ≡ true)
concrete_in P ks (OfClass c) vs h = h.0
concrete_in P ks (OfNumbers code) vs h = tt
concrete_in P ks (OfReferences k) vs h = tt

concrete_of : (P : Program) (ks : List ℕ) (o : Object) → ObjectFits P ks o → IfSome (kind_of P o) (λ k. IfSome (class_of k) (λ c. P.is_concrete c ≡ true))
concrete_of P ks o h = by (kind_of P o) h
  where
    by : (z : Option Kind) → IsSomeAnd z (λ k. PartsFit P ks k o.parts) → IfSome z (λ k. IfSome (class_of k) (λ c. P.is_concrete c ≡ true))
    by None h' = tt
    by (Some k) h' = concrete_in P ks k o.parts h'

all_concrete : (P : Program) (s : State) → ((p : ℕ) → IfSome (slice_get s.objects p) (ObjectFits P (numbers_of s.objects))) → AreConcrete P s.objects
all_concrete P s h p = by (slice_get s.objects p) (h p)
  where
    by : (z : Option Object) → IfSome z (ObjectFits P (numbers_of s.objects)) → IfSome z (λ o. IfSome (kind_of P o) (λ k. IfSome (class_of k) (λ c. P.is_concrete c ≡ true)))
    by None h' = tt
    by (Some o) h' = concrete_of P (numbers_of s.objects) o h'

-- ---- the top frame

start_of : (P : Program) (objects : ℕ) (f : Frame) (fs : List Frame) → AreFrames P objects (f ∷ fs) → IsSomeAnd (body_of P f.method) (λ b. IsStart b.code f.pc)
start_of P objects f fs h = on_some _ _ (body_of P f.method) (λ b k. k.start) h.0

names_above : (P : Program) → Lawful P → (f : Frame) → IsSomeAnd (body_of P f.method) (λ b. IsStart b.code f.pc) → NamesAbove P f
names_above P lawful f start next named m k row has c below =
    by_method (slice_get P.methods f.method) refl
  where
    resolved : (n : Method) (b : Body) → slice_get P.methods f.method ≡ Some n → n.body ≡ Some b → IsStart b.code f.pc → P.extends c k.owner ≡ true
    resolved n b is is_b at =
        let r : IfSome (row_at P f) (λ x. IsResolvedRow P n x.1) = lawful.rows f.method n b is is_b f.pc at in
        let r2 : IsResolvedRow P n (CallVirtual named m) = subst (λ (z : Option (ℕ × Row)). IfSome z (λ x. IsResolvedRow P n x.1)) row r in
        let r3 : IsVirtualCall P named k = subst (λ (z : Option Method). IsSomeAnd z (IsVirtualCall P named)) has r2 in
        true_holds (P.extends c k.owner) (lawful.through c named k.owner (holds_true (P.extends c named) below) r3.inherited)

    by_body : (n : Method) → slice_get P.methods f.method ≡ Some n → (o : Option Body) → n.body ≡ o → IsSomeAnd o (λ b. IsStart b.code f.pc) → P.extends c k.owner ≡ true
    by_body n is None is_b at = absurd at
    by_body n is (Some b) is_b at = resolved n b is is_b at

    by_method : (o : Option Method) → slice_get P.methods f.method ≡ o → P.extends c k.owner ≡ true
    by_method None is = let bad : IsSomeAnd (onto {A = Method} {B = Body} None (λ x. x.body)) (λ b. IsStart b.code f.pc) = subst (λ (z : Option Method). IsSomeAnd (onto z (λ x. x.body)) (λ b. IsStart b.code f.pc)) is start in absurd bad
    by_method (Some n) is = by_body n is n.body refl (subst (λ (z : Option Method). IsSomeAnd (onto z (λ x. x.body)) (λ b. IsStart b.code f.pc)) is start)

pub shape_of : StepsHaveShapes → FittingStatesAreWellFormed → (P : Program) (types : Typing) (limits : Limits) (answer : Option ℕ) (s t : State) (f : Frame) (callers : List Frame) → Lawful P → Typed P types
    → Fits P types limits s → s.frames ≡ f ∷ callers → step P limits answer s ≡ Some t → FramesStep P s.mode f callers t
shape_of shapes fitting P types limits answer s t f callers lawful typed fits frames next =
    let wf = fitting P types limits typed s fits in
    let fr : AreFrames P (length s.objects) (f ∷ callers) = subst (λ (fs : List Frame). AreFrames P (length s.objects) fs) frames wf.frames in
    shapes P limits answer s t f callers frames (all_concrete P s fits.objects) (names_above P lawful f (start_of P (length s.objects) f callers fr)) next
