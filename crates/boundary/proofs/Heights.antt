-- How many words frames take on the stack, and how a step changes that.
use Rattle.std.proofs.Common.{◌≡◌, ℕ, suc, ◌+◌, ◌<◌, ◌≤◌, Bool, true, false, List, [], ◌∷◌, ◌++◌, length, reverse, Option, Some, None, refl, sym, ◌∙◌, ap, subst, arith, length-append}
use Rattle.std.specs.Prelude.{sum_by, slice_get, IsSomeAnd, if◌then◌else◌}
use Rattle.std.proofs.lemmas.List.{length-reverse}
use Rattle.lists.proofs.Lemmas.{onto_some, some_same}
use Rattle.jop_core.specs.declared.places.TheConstants.{STACK}
use Rattle.jop_core.specs.State as machine
use Rattle.bytecode_model.specs.declared.Value.{Value}
use Rattle.bytecode_model.specs.declared.Ending.{Ending}
use Rattle.bytecode_model.specs.declared.Ending.TheVariants.{Running, Raising, Ended, Uncaught}
use Rattle.bytecode_model.specs.Lists.{onto, replaced}
use Rattle.bytecode_model.specs.Types.{Kind}
use Rattle.bytecode_model.specs.State.{Frame, State}
use Rattle.bytecode_model.specs.Program.{Program, Limits, body_of, kind_of}
use Rattle.bytecode_model.specs.Sizes.{value_words}
use Rattle.bytecode_model.specs.Effects.{Effect, Stuck, Go, Make, WritePart, WriteStatic, Take, Give, Call, Leave, Raise, effect, fault_object, StackOverflowError}
use Rattle.bytecode_model.specs.Steps.{first_frame, with_top, raising, left, resumed, written, applied, row_at, handler_for, unwound, class_of, step_in, step}
use Rattle.image_facts.specs.Places.{Places}
use Rattle.machine_stands.specs.Frames.{FrameWords, AreWordsOfFrames, stacked}
use Rattle.machine_stands.specs.StandsFor.{StandsFor}
use Rattle.machine_stands.specs.Counted.{FiveAreSaved}
use Rattle.machine_stands.proofs.Counting.{locals_count, operands_count}
use Rattle.machine_stands.specs.ShownFrames.Shows.{top_frame}

abbrev pub frame_height : Frame → ℕ
frame_height f = length f.locals + 5 + sum_by value_words f.operands

abbrev pub height : List Frame → ℕ
height [] = 0
height (f ∷ fs) = frame_height f + height fs

-- of those below the top one
abbrev pub under : List Frame → ℕ
under [] = 0
under (f ∷ fs) = height fs

-- ---- on the machine

pub words_high : FiveAreSaved → (P : Program) (pl : Places) (place : ℕ → ℕ) (fs : List Frame) (ws : List FrameWords) → AreWordsOfFrames P pl place fs ws → length (stacked ws) ≡ height fs
words_high five P pl place [] [] h = refl
words_high five P pl place [] (w ∷ ws) h = absurd h
words_high five P pl place (f ∷ fs) [] h = absurd h
words_high five P pl place (f ∷ fs) (w ∷ ws) h =
    omega (arith, words_high five P pl place fs ws h.1, five P pl fs ws w.saved h.0.saved, locals_count place f.locals w.locals h.0.locals, operands_count place f.operands w.operands h.0.operands, length-append (stacked ws) (w.locals ++ (w.saved ++ reverse w.operands)), length-append w.locals (w.saved ++ reverse w.operands), length-append w.saved (reverse w.operands), length-reverse w.operands)

-- VP stands above the words of the callers
pub vp_high : FiveAreSaved → (P : Program) (pl : Places) (n size : ℕ) (m : machine.MachineState) (s : State) → StandsFor P pl n size m s → m.vp ≡ STACK + under s.frames
vp_high five P pl n size m s h = omega (arith, h.vp, words_high five P pl _ h.callers h.below h.are_frames.1, ap under h.frames)

-- a frame has some words
pub few_frames : (fs : List Frame) → length fs ≤ height fs
few_frames [] = omega arith
few_frames (f ∷ fs) = omega (arith, few_frames fs)

pub few_over : (fs : List Frame) → length fs ≤ suc (under fs)
few_over [] = omega arith
few_over (f ∷ fs) = omega (arith, few_frames fs)

-- ---- by a step

-- The top frame stays in its method over the same callers; or one is made above it; or it is left.
pub data FramesMove (old new : List Frame) : Type 0 where
  Keeps : under new ≡ under old → length new ≡ length old → ((k : ℕ) → IsSomeAnd (top_frame old) (λ f. f.method ≡ k) → IsSomeAnd (top_frame new) (λ f. f.method ≡ k)) → FramesMove old new
  Makes : under old < under new → length new ≡ suc (length old) → FramesMove old new
  Leaves : under new < under old → length old ≡ suc (length new) → FramesMove old new

module _ (P : Program) (limits : Limits) (answer : Option ℕ) (s t : State) where
  abbrev Moves : List Frame → Type 0
  Moves fs = FramesMove fs t.frames

  -- it is the state with these frames
  frames_are : (u : State) → ◌≡◌ {A = Option State} (Some u) (Some t) → t.frames ≡ u.frames
  frames_are u e = ap (λ (x : State). x.frames) (sym (some_same u t e))

  kept : (f g : Frame) (callers : List Frame) → g.method ≡ f.method → t.frames ≡ g ∷ callers → Moves (f ∷ callers)
  kept f g callers same is =
      let Q : List Frame → Type 0 = λ fs. FramesMove (f ∷ callers) fs in
      subst Q (sym is) (Keeps refl refl (λ k e. same ∙ e))

  made : (f g h : Frame) (callers : List Frame) → t.frames ≡ h ∷ g ∷ callers → Moves (f ∷ callers)
  made f g h callers is =
      let Q : List Frame → Type 0 = λ fs. FramesMove (f ∷ callers) fs in
      subst Q (sym is) (Makes (omega arith) refl)

  gone : (f c d : Frame) (callers : List Frame) → t.frames ≡ d ∷ callers → Moves (f ∷ c ∷ callers)
  gone f c d callers is =
      let Q : List Frame → Type 0 = λ fs. FramesMove (f ∷ c ∷ callers) fs in
      subst Q (sym is) (Leaves (omega arith) refl)

  module _ (f : Frame) where
    entered : (callers : List Frame) (ops : List Value) (g : Frame) (b : Bool)
        → ◌≡◌ {A = Option State} (Some (if b then with_top s (record f { operands = ops } ∷ callers) g else raising s (record f { operands = ops }) callers (fault_object StackOverflowError))) (Some t) → Moves (f ∷ callers)
    entered callers ops g true e = made f (record f { operands = ops }) g callers (frames_are (with_top s (record f { operands = ops } ∷ callers) g) e)
    entered callers ops g false e = kept f (record f { operands = [] }) callers refl (frames_are (raising s (record f { operands = ops }) callers (fault_object StackOverflowError)) e)

    back : (c : Frame) (others : List Frame) (result : Option Value) → onto (resumed P c result) (λ d. Some (with_top s others d)) ≡ Some t → Moves (f ∷ c ∷ others)
    back c others result e =
        let found = onto_some (resumed P c result) (λ d. Some (with_top s others d)) t e in
        gone f c found.0 others (frames_are (with_top s others found.0) found.2)

    left_by : (result : Option Value) (callers : List Frame) → left P s f result callers ≡ Some t → Moves (f ∷ callers)
    left_by None [] e = kept f f [] refl (frames_are (record s { frames = f ∷ []; mode = Ended }) e)
    left_by (Some v) [] e = absurd (cc)
    left_by None (c ∷ others) e = back c others None e
    left_by (Some v) (c ∷ others) e = back c others (Some v) e

    by_effect : (callers : List Frame) (x : Effect) → applied P limits answer s f callers x ≡ Some t → Moves (f ∷ callers)
    by_effect callers Stuck e = absurd (cc)
    by_effect callers (Go pc ls ops) e = kept f _ callers refl (frames_are _ e)
    by_effect callers (Make o pc ls ops) e = kept f _ callers refl (frames_are _ e)
    by_effect callers (WritePart p k v pc ls ops) e =
        let found = onto_some (written s.objects p k v) _ t e in
        kept f _ callers refl (frames_are _ found.2)
    by_effect callers (WriteStatic k v pc ls ops) e =
        let found = onto_some (replaced s.statics k v) _ t e in
        kept f _ callers refl (frames_are _ found.2)
    by_effect callers (Take pc ls ops) e = kept f _ callers refl (frames_are _ e)
    by_effect callers (Give byte pc ls ops) e = kept f _ callers refl (frames_are _ e)
    by_effect callers (Call m args ops) e =
        let found = onto_some (first_frame P m args) _ t e in
        entered callers ops found.0 _ found.2
    by_effect callers (Leave result) e = left_by result callers e
    by_effect callers (Raise p) e = kept f _ callers refl (frames_are _ e)

    unwound_by : (p : ℕ) (k : Kind) (callers : List Frame) (handler : Option ℕ) → unwound s p k f callers handler ≡ Some t → Moves (f ∷ callers)
    unwound_by p k callers (Some target) e = kept f _ callers refl (frames_are _ e)
    unwound_by p k (c ∷ callers) None e = gone f c _ callers (frames_are (raising s c callers p) e)
    unwound_by p k [] None e =
        let found = onto_some (class_of k) _ t e in
        kept f f [] refl (frames_are _ found.2)

  by_mode : (fs : List Frame) (mode : Ending) → step_in P limits answer s fs mode ≡ Some t → Moves fs
  by_mode (f ∷ callers) Running e =
      let found = onto_some (row_at P f) _ t e in
      by_effect f callers (effect P limits s f found.0.0 found.0.1) found.2
  by_mode (f ∷ callers) (Raising p) e =
      let code = onto_some (body_of P f.method) _ t e in
      let object = onto_some (slice_get s.objects p) (λ o. onto (kind_of P o) (λ k. unwound s p k f callers (handler_for P k f.pc code.0.handlers))) t code.2 in
      let kind = onto_some (kind_of P object.0) (λ k. unwound s p k f callers (handler_for P k f.pc code.0.handlers)) t object.2 in
      unwound_by f p kind.0 callers (handler_for P kind.0 f.pc code.0.handlers) kind.2
  by_mode (f ∷ callers) Ended e = absurd (cc)
  by_mode (f ∷ callers) (Uncaught c) e = absurd (cc)
  by_mode [] Running e = absurd (cc)
  by_mode [] (Raising p) e = absurd (cc)
  by_mode [] Ended e = absurd (cc)
  by_mode [] (Uncaught c) e = absurd (cc)

  pub frames_move : step P limits answer s ≡ Some t → FramesMove s.frames t.frames
  frames_move e = by_mode s.frames s.mode e
