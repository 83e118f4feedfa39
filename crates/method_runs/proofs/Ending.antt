-- A program ends with the frame that it had.
use Rattle.std.proofs.Common.{◌≡◌, ◌⊎◌, ℕ, Bool, true, false, List, [], ◌∷◌, Option, Some, None, slice_get, refl, subst, inl, inr}
use Rattle.std.specs.Prelude.{if◌then◌else◌, nat_le}
use Rattle.bytecode_model.specs.declared.Value.{Value}
use Rattle.bytecode_model.specs.declared.Ending.{Ending}
use Rattle.bytecode_model.specs.declared.Ending.TheVariants.{Running, Raising, Ended, Uncaught}
use Rattle.bytecode_model.specs.Lists.{replaced}
use Rattle.bytecode_model.specs.Types.{Kind}
use Rattle.bytecode_model.specs.Sizes.{frames_words}
use Rattle.bytecode_model.specs.State.{Frame, State}
use Rattle.bytecode_model.specs.Program.{Program, Limits, body_of, kind_of}
use Rattle.bytecode_model.specs.Effects.{Effect, Stuck, Go, Make, WritePart, WriteStatic, Take, Give, Call, Leave, Raise, StackOverflowError, fault_object, effect}
use Rattle.bytecode_model.specs.Steps.{first_frame, with_top, raising, called, resumed, left, written, applied, row_at, handler_for, class_of, unwound, step_in}
use Rattle.lists.proofs.Lemmas.{none≢some, onto_some, some_same}
use Rattle.method_flow.specs.Shapes.{IsGoingOn}
use Rattle.method_runs.specs.Standing.{last_node}

-- the program goes on, or it ended with the frame that it had
abbrev pub GoesOrEnds : (mode : Ending) → Frame → State → Type 0
GoesOrEnds mode f t = IsGoingOn t.mode ⊎ ((t.frames ≡ f ∷ []) × (last_node t.mode f ≡ last_node mode f))

goes : (mode : Ending) (f : Frame) (u t : State) → ◌≡◌ {A = Option State} (Some u) (Some t) → IsGoingOn u.mode → GoesOrEnds mode f t
goes mode f u t e h = inl (subst (λ (x : State). IsGoingOn x.mode) (some_same u t e) h)

module _ (P : Program) (limits : Limits) (answer : Option ℕ) (s t : State) (f : Frame) where
  leaves : (result : Option Value) (callers : List Frame) → left P s f result callers ≡ Some t → GoesOrEnds Running f t
  leaves None [] e =
      let u : State = record s { frames = f ∷ []; mode = Ended } in
      let same : u ≡ t = some_same u t e in
      inr (subst (λ (x : State). (x.frames ≡ f ∷ []) × (last_node x.mode f ≡ last_node Running f)) same (refl, refl))
  leaves (Some v) [] e = absurd (none≢some t e)
  leaves None (c ∷ callers) e = let x = onto_some (resumed P c None) (λ d. Some (with_top s callers d)) t e in goes Running f (with_top s callers x.0) t x.2 tt
  leaves (Some v) (c ∷ callers) e = let x = onto_some (resumed P c (Some v)) (λ d. Some (with_top s callers d)) t e in goes Running f (with_top s callers x.0) t x.2 tt

  entered : (callers : List Frame) (g h : Frame) (b : Bool) → ◌≡◌ {A = Option State} (Some (if b then with_top s (h ∷ callers) g else raising s h callers (fault_object StackOverflowError))) (Some t) → GoesOrEnds Running f t
  entered callers g h true e = goes Running f (with_top s (h ∷ callers) g) t e tt
  entered callers g h false e = goes Running f (raising s h callers (fault_object StackOverflowError)) t e tt

  by_effect : (callers : List Frame) (e : Effect) → applied P limits answer s f callers e ≡ Some t → GoesOrEnds Running f t
  by_effect callers Stuck h = absurd (none≢some t h)
  by_effect callers (Go pc ls ops) h = goes Running f _ t h tt
  by_effect callers (Make o pc ls ops) h = goes Running f _ t h tt
  by_effect callers (WritePart p k v pc ls ops) h = let x = onto_some (written s.objects p k v) _ t h in goes Running f _ t x.2 tt
  by_effect callers (WriteStatic k v pc ls ops) h = let x = onto_some (replaced s.statics k v) _ t h in goes Running f _ t x.2 tt
  by_effect callers (Take pc ls ops) h = goes Running f _ t h tt
  by_effect callers (Give byte pc ls ops) h = goes Running f _ t h tt
  by_effect callers (Call m args ops) h =
      let x = onto_some (first_frame P m args) (λ g. Some (called P limits s (record f { operands = ops }) callers g)) t h in
      entered callers x.0 (record f { operands = ops }) (nat_le (frames_words P (x.0 ∷ record f { operands = ops } ∷ callers)) limits.frames) x.2
  by_effect callers (Leave result) h = leaves result callers h
  by_effect callers (Raise p) h = goes Running f _ t h tt

  by_handler : (p : ℕ) (k : Kind) (callers : List Frame) (o : Option ℕ) → unwound s p k f callers o ≡ Some t → GoesOrEnds (Raising p) f t
  by_handler p k callers (Some target) h = goes (Raising p) f _ t h tt
  by_handler p k (c ∷ callers) None h = goes (Raising p) f _ t h tt
  by_handler p k [] None h =
      let x = onto_some (class_of k) (λ c. Some (record s { frames = f ∷ []; mode = Uncaught c })) t h in
      let u : State = record s { frames = f ∷ []; mode = Uncaught x.0 } in
      let same : u ≡ t = some_same u t x.2 in
      inr (subst (λ (y : State). (y.frames ≡ f ∷ []) × (last_node y.mode f ≡ last_node (Raising p) f)) same (refl, refl))

  pub ends_or_goes : (callers : List Frame) (mode : Ending) → step_in P limits answer s (f ∷ callers) mode ≡ Some t → GoesOrEnds mode f t
  ends_or_goes callers Running h = let x = onto_some (row_at P f) _ t h in by_effect callers (effect P limits s f x.0.0 x.0.1) x.2
  ends_or_goes callers (Raising p) h =
      let body = onto_some (body_of P f.method) _ t h in
      let object = onto_some (slice_get s.objects p) _ t body.2 in
      let kind = onto_some (kind_of P object.0) _ t object.2 in
      by_handler p kind.0 callers (handler_for P kind.0 f.pc body.0.handlers) kind.2
  ends_or_goes callers Ended h = absurd (none≢some t h)
  ends_or_goes callers (Uncaught c) h = absurd (none≢some t h)
