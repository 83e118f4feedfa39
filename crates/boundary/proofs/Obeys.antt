-- What a step takes of the input and puts out.
use Rattle.std.proofs.Common.{◌≡◌, ℕ, Bool, true, false, List, [], ◌∷◌, ◌++◌, length, Option, Some, None, refl, sym, ◌∙◌, ap, subst}
use Rattle.std.specs.Prelude.{if◌then◌else◌, nat_le, slice_get}
use Rattle.lists.proofs.Lemmas.{onto_some}
use Rattle.bytecode_model.specs.declared.Value.{Value}
use Rattle.bytecode_model.specs.declared.Value.TheVariants.{Ref}
use Rattle.bytecode_model.specs.declared.Ending.{Ending}
use Rattle.bytecode_model.specs.declared.Ending.TheVariants.{Running, Raising, Ended, Uncaught}
use Rattle.bytecode_model.specs.Lists.{onto, replaced}
use Rattle.bytecode_model.specs.Types.{Kind}
use Rattle.bytecode_model.specs.State.{Object, Frame, State}
use Rattle.bytecode_model.specs.Program.{Program, Limits, Handler, body_of, kind_of}
use Rattle.bytecode_model.specs.Rows.{Row}
use Rattle.bytecode_model.specs.Sizes.{frames_words}
use Rattle.bytecode_model.specs.Effects.{Effect, Stuck, Go, Make, WritePart, WriteStatic, Take, Give, Call, Leave, Raise, effect, fault_object, StackOverflowError}
use Rattle.bytecode_model.specs.Steps.{step, step_in, applied, written, first_frame, called, raising, with_top, resumed, left, row_at, unwound, handler_for, class_of}
use Rattle.bytecode_typing.specs.Fits.{IsGoing}

-- a step takes an answer, puts a byte out, or does neither
pub data Sort : Type 0 where
  Plain : Sort
  Takes : Sort
  Puts : (byte : ℕ) → Sort

abbrev pub Obeys : Sort → (answer : Option ℕ) → (s t : State) → Type 0
Obeys Plain answer s t = (t.answers ≡ s.answers) × (t.output ≡ s.output)
Obeys Takes answer s t = (t.answers ≡ s.answers ++ answer ∷ []) × (t.output ≡ s.output)
Obeys (Puts byte) answer s t = (t.answers ≡ s.answers) × (t.output ≡ s.output ++ byte ∷ [])

abbrev pub sort_of : Effect → Sort
sort_of (Take pc ls ops) = Takes
sort_of (Give byte pc ls ops) = Puts byte
sort_of e = Plain

-- no instruction comes to an uncaught state
abbrev pub IsCaught : Ending → Type 0
IsCaught (Uncaught c) = ⊥
IsCaught mode = Unit {0}

abbrev pub Obeyed : Effect → (answer : Option ℕ) → (s t : State) → Type 0
Obeyed e answer s t = Obeys (sort_of e) answer s t × IsCaught t.mode

some_state : (u t : State) → ◌≡◌ {A = Option State} (Some u) (Some t) → u ≡ t
some_state u t h = cc

plainly : (answer : Option ℕ) (s u t : State) → u.answers ≡ s.answers → u.output ≡ s.output → IsCaught u.mode → ◌≡◌ {A = Option State} (Some u) (Some t) → Obeys Plain answer s t × IsCaught t.mode
plainly answer s u t answers output caught h =
    let is = some_state u t h in
    let A : State → Type 0 = λ z. (z.answers ≡ s.answers) × (z.output ≡ s.output) in
    let M : State → Type 0 = λ z. IsCaught z.mode in
    (subst A is (answers, output), subst M is caught)

call_obeys : (P : Program) (limits : Limits) (answer : Option ℕ) (s : State) (f : Frame) (callers : List Frame) (g : Frame) (t : State) (b : Bool)
    → ◌≡◌ {A = Option State} (Some (if b then with_top s (f ∷ callers) g else raising s f callers (fault_object StackOverflowError))) (Some t) → Obeys Plain answer s t × IsCaught t.mode
call_obeys P limits answer s f callers g t true h = plainly answer s (with_top s (f ∷ callers) g) t refl refl tt h
call_obeys P limits answer s f callers g t false h = plainly answer s (raising s f callers (fault_object StackOverflowError)) t refl refl tt h

leave_obeys : (P : Program) (answer : Option ℕ) (s : State) (f : Frame) (result : Option Value) (callers : List Frame) (t : State) → left P s f result callers ≡ Some t → Obeys Plain answer s t × IsCaught t.mode
leave_obeys P answer s f None [] t h = plainly answer s (record s { frames = f ∷ []; mode = Ended }) t refl refl tt h
leave_obeys P answer s f (Some v) [] t h = absurd (cc)
leave_obeys P answer s f None (c ∷ callers) t h =
    let (d, is, gives) = onto_some (resumed P c None) (λ d. Some (with_top s callers d)) t h in
    plainly answer s (with_top s callers d) t refl refl tt gives
leave_obeys P answer s f (Some v) (c ∷ callers) t h =
    let (d, is, gives) = onto_some (resumed P c (Some v)) (λ d. Some (with_top s callers d)) t h in
    plainly answer s (with_top s callers d) t refl refl tt gives

pub applied_obeys : (P : Program) (limits : Limits) (answer : Option ℕ) (s : State) (f : Frame) (callers : List Frame) (e : Effect) (t : State) → applied P limits answer s f callers e ≡ Some t → Obeyed e answer s t
applied_obeys P limits answer s f callers Stuck t h = absurd (cc)
applied_obeys P limits answer s f callers (Go pc ls ops) t h = plainly answer s (with_top s callers (record f { pc = pc; locals = ls; operands = ops })) t refl refl tt h
applied_obeys P limits answer s f callers (Make o pc ls ops) t h =
    plainly answer s (with_top (record s { objects = s.objects ++ o ∷ [] }) callers (record f { pc = pc; locals = ls; operands = Ref (length s.objects) ∷ ops })) t refl refl tt h
applied_obeys P limits answer s f callers (WritePart p k v pc ls ops) t h =
    let make : List Object → State = λ os. with_top (record s { objects = os }) callers (record f { pc = pc; locals = ls; operands = ops }) in
    let (os, is, gives) = onto_some (written s.objects p k v) (λ os. Some (make os)) t h in
    plainly answer s (make os) t refl refl tt gives
applied_obeys P limits answer s f callers (WriteStatic k v pc ls ops) t h =
    let make : List Value → State = λ vs. with_top (record s { statics = vs }) callers (record f { pc = pc; locals = ls; operands = ops }) in
    let (vs, is, gives) = onto_some (replaced s.statics k v) (λ vs. Some (make vs)) t h in
    plainly answer s (make vs) t refl refl tt gives
applied_obeys P limits answer s f callers (Take pc ls ops) t h =
    let is = some_state _ t h in
    let A : State → Type 0 = λ z. (z.answers ≡ s.answers ++ answer ∷ []) × (z.output ≡ s.output) in
    let M : State → Type 0 = λ z. IsCaught z.mode in
    (subst A is (refl, refl), subst M is tt)
applied_obeys P limits answer s f callers (Give byte pc ls ops) t h =
    let is = some_state _ t h in
    let A : State → Type 0 = λ z. (z.answers ≡ s.answers) × (z.output ≡ s.output ++ byte ∷ []) in
    let M : State → Type 0 = λ z. IsCaught z.mode in
    (subst A is (refl, refl), subst M is tt)
applied_obeys P limits answer s f callers (Call m args ops) t h =
    let (g, is, gives) = onto_some (first_frame P m args) (λ g. Some (called P limits s (record f { operands = ops }) callers g)) t h in
    call_obeys P limits answer s (record f { operands = ops }) callers g t (nat_le (frames_words P (g ∷ record f { operands = ops } ∷ callers)) limits.frames) gives
applied_obeys P limits answer s f callers (Leave result) t h = leave_obeys P answer s f result callers t h
applied_obeys P limits answer s f callers (Raise p) t h = plainly answer s (raising s f callers p) t refl refl tt h

-- ---- raising

silent : (answer : Option ℕ) (s u t : State) → u.answers ≡ s.answers → u.output ≡ s.output → ◌≡◌ {A = Option State} (Some u) (Some t) → Obeys Plain answer s t
silent answer s u t answers output h = let A : State → Type 0 = λ z. (z.answers ≡ s.answers) × (z.output ≡ s.output) in subst A (some_state u t h) (answers, output)

unwound_obeys : (answer : Option ℕ) (s t : State) (p : ℕ) (k : Kind) (f : Frame) (callers : List Frame) (target : Option ℕ) → unwound s p k f callers target ≡ Some t → Obeys Plain answer s t
unwound_obeys answer s t p k f callers (Some target) h = silent answer s (with_top s callers (record f { pc = target; operands = Ref p ∷ [] })) t refl refl h
unwound_obeys answer s t p k f (c ∷ callers) None h = silent answer s (raising s c callers p) t refl refl h
unwound_obeys answer s t p k f [] None h =
    let (c, is, gives) = onto_some (class_of k) (λ c. Some (record s { frames = f ∷ []; mode = Uncaught c })) t h in
    silent answer s (record s { frames = f ∷ []; mode = Uncaught c }) t refl refl gives

raise_obeys : (P : Program) (limits : Limits) (s : State) (answer : Option ℕ) (t : State) (p : ℕ) (fs : List Frame) → step_in P limits answer s fs (Raising p) ≡ Some t → Obeys Plain answer s t
raise_obeys P limits s answer t p [] h = absurd (cc)
raise_obeys P limits s answer t p (f ∷ fs) h =
    let in_kind : List Handler → Object → Kind → Option State = λ hs o k. unwound s p k f fs (handler_for P k f.pc hs) in
    let in_object : List Handler → Option State = λ hs. onto (slice_get s.objects p) (λ o. onto (kind_of P o) (λ k. in_kind hs o k)) in
    let (b, is_body, with_body) = onto_some (body_of P f.method) (λ b. in_object b.handlers) t h in
    let (o, is_object, with_object) = onto_some (slice_get s.objects p) (λ o. onto (kind_of P o) (λ k. in_kind b.handlers o k)) t with_body in
    let (k, is_kind, goes) = onto_some (kind_of P o) (λ k. in_kind b.handlers o k) t with_object in
    unwound_obeys answer s t p k f fs (handler_for P k f.pc b.handlers) goes

-- The sort of a going state's step, whatever the input answers.
pub record StepSort (P : Program) (limits : Limits) (s : State) : Type 0 where
  pub sort : Sort
  pub obeys : (answer : Option ℕ) (t : State) → step P limits answer s ≡ Some t → Obeys sort answer s t

-- that of the row of the top frame
abbrev by_row : (P : Program) (limits : Limits) (s : State) → Frame → Option (ℕ × Row) → Sort
by_row P limits s f None = Plain
by_row P limits s f (Some x) = sort_of (effect P limits s f x.0 x.1)

abbrev sort_in : (P : Program) (limits : Limits) (s : State) → List Frame → Sort
sort_in P limits s [] = Plain
sort_in P limits s (f ∷ fs) = by_row P limits s f (row_at P f)

row_obeys : (P : Program) (limits : Limits) (s : State) (answer : Option ℕ) (t : State) (f : Frame) (fs : List Frame) (o : Option (ℕ × Row))
    → onto o (λ x. applied P limits answer s f fs (effect P limits s f x.0 x.1)) ≡ Some t → Obeys (by_row P limits s f o) answer s t × IsCaught t.mode
row_obeys P limits s answer t f fs None h = absurd (cc)
row_obeys P limits s answer t f fs (Some x) h = applied_obeys P limits answer s f fs (effect P limits s f x.0 x.1) t h

obeys_in : (P : Program) (limits : Limits) (s : State) (answer : Option ℕ) (t : State) (fs : List Frame) → step_in P limits answer s fs Running ≡ Some t → Obeys (sort_in P limits s fs) answer s t × IsCaught t.mode
obeys_in P limits s answer t [] h = absurd (cc)
obeys_in P limits s answer t (f ∷ fs) h = row_obeys P limits s answer t f fs (row_at P f) h

pub step_sort : (P : Program) (limits : Limits) (s : State) → IsGoing s.mode → StepSort P limits s
step_sort P limits s going = by_mode s.mode refl going
  where
    by_mode : (mode : Ending) → s.mode ≡ mode → IsGoing mode → StepSort P limits s
    by_mode Running e h = record {
      sort = sort_in P limits s s.frames;
      obeys = λ answer t h. (obeys_in P limits s answer t s.frames (ap (λ (md : Ending). step_in P limits answer s s.frames md) (sym e) ∙ h)).0;
    }
    by_mode (Raising p) e h = record {
      sort = Plain;
      obeys = λ answer t h. raise_obeys P limits s answer t p s.frames (ap (λ (md : Ending). step_in P limits answer s s.frames md) (sym e) ∙ h);
    }
    by_mode Ended e h = absurd h
    by_mode (Uncaught c) e h = absurd h
