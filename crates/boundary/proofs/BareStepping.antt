-- Steps of bare images.
use Rattle.std.proofs.Common.{◌≡◌, ℕ, zero, suc, Bool, true, false, ℤ, List, [], ◌∷◌, length, Option, Some, None, refl, sym, ◌∙◌, ap, subst, ◌⊎◌, inl, inr, ⊎_elim}
use Rattle.std.specs.Prelude.{slice_get}
use Rattle.lists.proofs.Lemmas.{onto_some}
use Rattle.image_file.specs.Bare.{BareContent}
use Rattle.opcodes.specs.Bytes.{u1}
use Rattle.opcodes.specs.Start.{IsStart}
use Rattle.bytecode_model.specs.declared.Value.{Value}
use Rattle.bytecode_model.specs.declared.Value.TheVariants.{Int, Long, Ref, Null, Unset}
use Rattle.bytecode_model.specs.declared.Ending.{Ending}
use Rattle.bytecode_model.specs.declared.Ending.TheVariants.{Running, Raising, Ended, Uncaught}
use Rattle.bytecode_model.specs.Lists.{onto}
use Rattle.bytecode_model.specs.Types.{NumberType, IntType, LongType, is_moved}
use Rattle.bytecode_model.specs.State.{Frame, State}
use Rattle.bytecode_model.specs.Program.{Program, Limits, Body, body_of}
use Rattle.bytecode_model.specs.Rows as rows
use Rattle.bytecode_model.specs.Rows.{Row, FunctionOf}
use Rattle.bytecode_model.specs.Effects.{Effect, Stuck, Go, Make, WritePart, WriteStatic, Take, Give, Call, Leave, Raise, Fault, ArithmeticException, fault_object, effect, on, or_fault, only_if, on_top, on_number, on_numbers, number, shuffle, stored}
use Rattle.bytecode_model.specs.Steps.{step, step_in, applied, row_at, row_in}
use Rattle.bytecode_model.specs.WellFormed as formed
use Rattle.bytecode_typing.specs.Typed.{RaisesNothing}
use Rattle.bytecode_typing.specs.Fits.{Fits, IsGoing, FramesFit, numbers_of}
use Rattle.bytecode_typing.specs.Laws.{TypedProgramsKeep, FittingStatesAreWellFormed}
use Rattle.machine_stands.specs.Bare as bare
use Rattle.machine_stands.specs.ShownFrames.Shows.{top_frame}
use Rattle.boundary.specs.BareLaws.{opcode_of, BareImagesStep}
use Rattle.boundary.specs.Laws.{BareImagesArePrograms}
use Rattle.boundary.specs.Setting.{limits, bare_setting}
use Rattle.boundary.proofs.Obeys.{Plain, Obeys, IsCaught, sort_of, applied_obeys}
use Rattle.boundary.proofs.BareRows.{IsSilent}
use Rattle.boundary.proofs.BareWalk.{bare_at}
use Rattle.boundary.proofs.Stages.{some_at, none_raised}

-- ---- effects of which something holds that holds where an instruction is stuck or raises

module _ (Q : Effect → Type 0) (stuck : Q Stuck) (raise : (p : ℕ) → Q (Raise p)) where
  on_keeps : {A : Type 0} (o : Option A) (go : A → Effect) → ((x : A) → Q (go x)) → Q (on o go)
  on_keeps None go h = stuck
  on_keeps (Some x) go h = h x

  or_fault_keeps : {A : Type 0} (f : Fault) (o : Option A) (go : A → Effect) → ((x : A) → Q (go x)) → Q (or_fault f o go)
  or_fault_keeps f None go h = raise (fault_object f)
  or_fault_keeps f (Some x) go h = h x

  only_if_keeps : (b : Bool) (e : Effect) → Q e → Q (only_if b e)
  only_if_keeps true e h = h
  only_if_keeps false e h = stuck

  on_top_keeps : (ops : List Value) (go : Value → List Value → Effect) → ((v : Value) (rest : List Value) → Q (go v rest)) → Q (on_top ops go)
  on_top_keeps [] go h = stuck
  on_top_keeps (v ∷ rest) go h = h v rest

  on_number_keeps : (t : NumberType) (ops : List Value) (go : ℤ → List Value → Effect) → ((n : ℤ) (rest : List Value) → Q (go n rest)) → Q (on_number t ops go)
  on_number_keeps IntType [] go h = stuck
  on_number_keeps IntType (Int n ∷ rest) go h = h n rest
  on_number_keeps IntType (Long n ∷ rest) go h = stuck
  on_number_keeps IntType (Ref p ∷ rest) go h = stuck
  on_number_keeps IntType (Null ∷ rest) go h = stuck
  on_number_keeps IntType (Unset ∷ rest) go h = stuck
  on_number_keeps LongType [] go h = stuck
  on_number_keeps LongType (Int n ∷ rest) go h = stuck
  on_number_keeps LongType (Long n ∷ rest) go h = h n rest
  on_number_keeps LongType (Ref p ∷ rest) go h = stuck
  on_number_keeps LongType (Null ∷ rest) go h = stuck
  on_number_keeps LongType (Unset ∷ rest) go h = stuck

  on_numbers_keeps : (R : Type 0) (ts : List NumberType) (f : FunctionOf ts R) (ops : List Value) (go : R → List Value → Effect) → ((r : R) (rest : List Value) → Q (go r rest)) → Q (on_numbers R ts f ops go)
  on_numbers_keeps R [] f ops go h = h f ops
  on_numbers_keeps R (t ∷ ts) f ops go h = on_number_keeps t ops (λ n rest. on_numbers R ts (f n) rest go) (λ n rest. on_numbers_keeps R ts (f n) rest go h)

-- neither asks nor puts anything out
abbrev IsStill : Effect → Type 0
IsStill (Take pc ls ops) = ⊥
IsStill (Give byte pc ls ops) = ⊥
IsStill e = Unit {0}

abbrev IsUnasked : Effect → Type 0
IsUnasked (Take pc ls ops) = ⊥
IsUnasked e = Unit {0}

still_row : (P : Program) (limits : Limits) (s : State) (f : Frame) (next : ℕ) (r : Row) → RaisesNothing r → IsSilent r → IsStill (effect P limits s f next r)
still_row P limits s f next rows.Nothing q h = tt
still_row P limits s f next (rows.Push v) q h = tt
still_row P limits s f next (rows.Compute taken given compute) q h =
    on_numbers_keeps IsStill tt (λ p. tt) (Option ℤ) taken compute f.operands _ (λ r rest. or_fault_keeps IsStill tt (λ p. tt) ArithmeticException r (λ n. Go next f.locals (number given n ∷ rest)) (λ n. tt))
still_row P limits s f next (rows.Load sort k) q h = on_keeps IsStill tt (λ p. tt) (slice_get f.locals k) _ (λ v. only_if_keeps IsStill tt (λ p. tt) (is_moved sort v) _ tt)
still_row P limits s f next (rows.Store sort k) q h =
    on_top_keeps IsStill tt (λ p. tt) f.operands _ (λ v rest. only_if_keeps IsStill tt (λ p. tt) (is_moved sort v) _ (on_keeps IsStill tt (λ p. tt) (stored f.locals k v) _ (λ ls. tt)))
still_row P limits s f next (rows.Shuffle form upper lower) q h = on_keeps IsStill tt (λ p. tt) (shuffle form upper lower f.operands) _ (λ ops. tt)
still_row P limits s f next (rows.Return None) q h = tt
still_row P limits s f next (rows.Return (Some sort)) q h = on_top_keeps IsStill tt (λ p. tt) f.operands _ (λ v rest. only_if_keeps IsStill tt (λ p. tt) (is_moved sort v) _ tt)
still_row P limits s f next rows.Write q h = absurd h
still_row P limits s f next r q h = absurd q

still_sort : (e : Effect) → IsStill e → sort_of e ≡ Plain
still_sort (Take pc ls ops) h = absurd h
still_sort (Give byte pc ls ops) h = absurd h
still_sort e h = refl

unasked_row : (P : Program) (limits : Limits) (s : State) (f : Frame) (next : ℕ) (r : Row) → RaisesNothing r → IsUnasked (effect P limits s f next r)
unasked_row P limits s f next rows.Nothing q = tt
unasked_row P limits s f next (rows.Push v) q = tt
unasked_row P limits s f next (rows.Compute taken given compute) q =
    on_numbers_keeps IsUnasked tt (λ p. tt) (Option ℤ) taken compute f.operands _ (λ r rest. or_fault_keeps IsUnasked tt (λ p. tt) ArithmeticException r (λ n. Go next f.locals (number given n ∷ rest)) (λ n. tt))
unasked_row P limits s f next (rows.Load sort k) q = on_keeps IsUnasked tt (λ p. tt) (slice_get f.locals k) _ (λ v. only_if_keeps IsUnasked tt (λ p. tt) (is_moved sort v) _ tt)
unasked_row P limits s f next (rows.Store sort k) q =
    on_top_keeps IsUnasked tt (λ p. tt) f.operands _ (λ v rest. only_if_keeps IsUnasked tt (λ p. tt) (is_moved sort v) _ (on_keeps IsUnasked tt (λ p. tt) (stored f.locals k v) _ (λ ls. tt)))
unasked_row P limits s f next (rows.Shuffle form upper lower) q = on_keeps IsUnasked tt (λ p. tt) (shuffle form upper lower f.operands) _ (λ ops. tt)
unasked_row P limits s f next (rows.Return None) q = tt
unasked_row P limits s f next (rows.Return (Some sort)) q = on_top_keeps IsUnasked tt (λ p. tt) f.operands _ (λ v rest. only_if_keeps IsUnasked tt (λ p. tt) (is_moved sort v) _ tt)
unasked_row P limits s f next rows.Write q = on_number_keeps IsUnasked tt (λ p. tt) IntType f.operands _ (λ n rest. tt)
unasked_row P limits s f next r q = absurd q

no_answer : (e : Effect) (answer : Option ℕ) (s t : State) → IsUnasked e → Obeys (sort_of e) answer s t → t.answers ≡ s.answers
no_answer Stuck answer s t h o = o.0
no_answer (Go pc ls ops) answer s t h o = o.0
no_answer (Make x pc ls ops) answer s t h o = o.0
no_answer (WritePart p k v pc ls ops) answer s t h o = o.0
no_answer (WriteStatic k v pc ls ops) answer s t h o = o.0
no_answer (Take pc ls ops) answer s t h o = absurd h
no_answer (Give byte pc ls ops) answer s t h o = o.0
no_answer (Call m args ops) answer s t h o = o.0
no_answer (Leave result) answer s t h o = o.0
no_answer (Raise p) answer s t h o = o.0

-- ---- states of bare images

-- no object is raised, since there is none
pub not_raising : (image : BareContent) (n size : ℕ) (s : State) (p : ℕ) → s.mode ≡ Raising p → Fits (bare_setting image n size).program (bare_setting image n size).types (limits (bare_setting image n size)) s → ⊥
not_raising image n size s p mode fits =
    let g = bare_setting image n size in
    none_raised image g.program refl g.types (numbers_of s.objects) p s.frames (subst (λ md. FramesFit g.program g.types (numbers_of s.objects) md s.frames) mode fits.frames)

pub method_zero : (image : BareContent) (k : ℕ) (b : Body) → body_of (bare.program_of image) k ≡ Some b → (k ≡ 0) × (b ≡ bare.body_of image)
method_zero image zero b h = (refl, cc)
method_zero image (suc k) b h = absurd (cc)

on_or_ended : (mode : Ending) → IsCaught mode → ((p : ℕ) → mode ≡ Raising p → ⊥) → (mode ≡ Running) ⊎ (mode ≡ Ended)
on_or_ended Running caught calm = inl refl
on_or_ended (Raising p) caught calm = absurd (calm p refl)
on_or_ended Ended caught calm = inr refl
on_or_ended (Uncaught c) caught calm = absurd caught

pub images_step : BareImagesArePrograms → TypedProgramsKeep → FittingStatesAreWellFormed → BareImagesStep
images_step programs keep well image n size m answer s t grammar stage mode byte is =
    let g = bare_setting image n size in
    let P = g.program in
    let st = stage.stands in
    let f = st.top in
    let setting = programs image n size grammar in
    let here = well P g.types (limits g) setting.typed s stage.fits in
    let going : IsGoing s.mode = subst IsGoing (sym mode) tt in
    let fits = some_at (step P (limits g) answer s) t (Fits P g.types (limits g)) is (keep P g.types (limits g) setting.lawful setting.typed s going stage.fits answer byte) in
    let frames = subst (λ fs. formed.AreFrames P (length s.objects) fs) st.frames here.frames in
    let frame = some_at (body_of P f.method) st.body (formed.IsFrame P (length s.objects) f) st.is_body frames.0 in
    let (zeroth, body) = method_zero image f.method st.body st.is_body in
    let start : IsStart image.code f.pc = subst (λ (b : Body). IsStart b.code f.pc) body frame.start in
    let at = bare_at image grammar.bytes grammar f.pc start in
    let steps : step_in P (limits g) answer s (f ∷ st.callers) Running ≡ Some t =
    ap (λ fs. step_in P (limits g) answer s fs Running) (sym st.frames) ∙ ap (λ (md : Ending). step_in P (limits g) answer s s.frames md) (sym mode) ∙ is in
    let (x, row, applies) = onto_some (row_at P f) (λ x. applied P (limits g) answer s f st.callers (effect P (limits g) s f x.0 x.1)) t steps in
    let is_row : row_in P 0 f.pc ≡ Some x = ap (λ k. row_in P k f.pc) (sym zeroth) ∙ row in
    let quiet = some_at (row_in P 0 f.pc) x (λ x. RaisesNothing x.1 × ((u1 image.code f.pc ≡ 255) ⊎ IsSilent x.1)) is_row at.1 in
    let e = effect P (limits g) s f x.0 x.1 in
    let obeys = applied_obeys P (limits g) answer s f st.callers e t applies in
    let opcode : opcode_of P s ≡ Some (u1 image.code f.pc) =
    ap (λ fs. onto (top_frame fs) (λ f. onto (body_of P f.method) (λ b. Some (u1 b.code f.pc)))) st.frames
    ∙ ap (λ o. onto o (λ (b : Body). Some (u1 b.code f.pc))) st.is_body ∙ ap (λ (b : Body). Some (u1 b.code f.pc)) body in
    record {
      answers = no_answer e answer s t (unasked_row P (limits g) s f x.0 x.1 quiet.0) obeys.0;
      mode = on_or_ended t.mode obeys.1 (λ p raising. not_raising image n size t p raising fits);
      output = ⊎_elim (λ op. inr (opcode ∙ ap Some op))
          (λ silent. inl (subst (λ sort. Obeys sort answer s t) (still_sort e (still_row P (limits g) s f x.0 x.1 quiet.0 silent)) obeys.0).1) quiet.1;
    }
