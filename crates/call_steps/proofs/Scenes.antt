-- What calls and returns have in common: the laws, and what a machine that stands for a state shows.
use Rattle.std.proofs.Common.{◌≡◌, ℕ, ◌+◌, ◌-◌, ◌*◌, ◌%◌, ◌^◌, ◌≤◌, Bool, true, false, List, Option, Some, None, length, if◌then◌else◌, ⊎_elim, sym, ap, ◌∙◌, subst, arith}
use Rattle.std.specs.Prelude.{slice_index, IsSomeAnd}
use Rattle.std.proofs.lemmas.List.{get_or-drop}
use Rattle.std.proofs.lemmas.List.Sums.{sum_by-cons}
use Rattle.lists.proofs.Lemmas.{holds_at}
use Rattle.machine_memory.specs.Stack.Size.{IsSize}
use Rattle.method_cache.specs.Contents.{Cache, is_cached, loaded}
use Rattle.micro_flow.specs.declared.CostParams.{CostParams}
use Rattle.opcodes.specs.Target.{WholeIsWithin}
use Rattle.jop_core.specs.State as machine
use Rattle.jop_core.specs.Operations.{code_words}
use Rattle.micro_sketch.specs.Sketch.{Sketch, missed, found_words}
use Rattle.micro_sketch.specs.Rows.{Switch}
use Rattle.bytecode_model.specs.State.{Frame, State}
use Rattle.bytecode_model.specs.Program.{Program, Body, body_of}
use Rattle.bytecode_model.specs.Sizes.{frame_words, frames_words, body_words}
use Rattle.bytecode_model.specs.WellFormed as formed
use Rattle.bytecode_model.specs.WellFormed.{IsWellFormed}
use Rattle.image_facts.specs.Places.{Places, object_place}
use Rattle.machine_stands.specs.Frames.{stacked}
use Rattle.machine_stands.specs.StandsFor.{StandsFor, limits_of}
use Rattle.machine_stands.specs.Switching.{FindsBy, SwitchesCome}
use Rattle.machine_stands.specs.Stopping.{RaisesCome, EndsCome}
use Rattle.machine_stands.specs.Calling.{ArgumentsArePassed}
use Rattle.machine_stands.specs.Reading.{PlainOnesAreRead}
use Rattle.machine_stands.specs.Shown.{Shows, SketchesShow}
use Rattle.machine_stands.specs.Operands.{OneWordIsOnTop, TwoWordsAreOnTop, OneWordIsPushed, OperandsHaveWords}
use Rattle.machine_stands.specs.Fixed.{RaiseListIsRead, PoolsAreRead}
use Rattle.machine_stands.specs.Counted.{FramesHaveRoom, FiveAreSaved}
use Rattle.machine_stands.specs.Again.{registers_of}
use Rattle.call_steps.specs.Method.{looked_up}
use Rattle.call_steps.specs.Laws.{CallsRun, CallsRaise, ReturnsRun, ReturnsEnd}
use Rattle.call_steps.specs.Coming.{MethodsAreRead, CallsCome}

-- the laws that calls of every kind rest on
pub record CallLaws : Type 0 where
  pub shows : SketchesShow
  pub switches : SwitchesCome
  pub raises : RaisesCome
  pub count : OperandsHaveWords
  pub passed : ArgumentsArePassed
  pub list : RaiseListIsRead
  pub methods : MethodsAreRead
  pub room : FramesHaveRoom

pub record StateLaws : Type 0 where
  pub plain : PlainOnesAreRead
  pub shows : SketchesShow
  pub switches : SwitchesCome
  pub ends : EndsCome
  pub one : OneWordIsOnTop
  pub two : TwoWordsAreOnTop
  pub pushed : OneWordIsPushed
  pub pools : PoolsAreRead
  pub within : (code : List ℕ) (pc : ℕ) → WholeIsWithin code pc
  pub methods : MethodsAreRead
  pub room : FramesHaveRoom
  pub saved : FiveAreSaved
  pub calls : CallsRun
  pub overflows : CallsRaise
  pub come : CallsCome
  pub returns : ReturnsRun
  pub last : ReturnsEnd

pub is_some_and : {A : Type 0} (o : Option A) (x : A) (Q : A → Type 0) → o ≡ Some x → Q x → IsSomeAnd o Q
is_some_and o x Q e h = subst (λ o. IsSomeAnd o Q) (sym e) h

pub size_small : (n : ℕ) → IsSize n → (256 ≤ n) × (n ≤ 1024)
size_small n h = ⊎_elim (λ (e : n ≡ 256). (omega (arith, e), omega (arith, e))) (λ other. ⊎_elim (λ (e : n ≡ 512). (omega (arith, e), omega (arith, e))) (λ (e : n ≡ 1024). (omega (arith, e), omega (arith, e))) other) h

-- the on-chip places from 24 on
pub register : (P : Program) (pl : Places) (n size : ℕ) (m : machine.MachineState) (s : State) (st : StandsFor P pl n size m s) (p : CostParams) (x : Sketch) → (shows : Shows P pl n size m s st p x) → (k : ℕ)
    → slice_index x.low (24 + k) ≡ slice_index (registers_of P pl n size s st.top shows.raised) k
register P pl n size m s st p x shows k = sym (get_or-drop 24 x.low k 0) ∙ ap (λ (ws : List ℕ). slice_index ws k) shows.low

-- the words of the frames below the top one, and of that
pub record Counted (P : Program) (pl : Places) (n size : ℕ) (m : machine.MachineState) (s : State) (st : StandsFor P pl n size m s) : Type 0 where
  pub below : length (stacked st.below) ≤ frames_words P st.callers
  pub locals : length st.top.locals ≡ st.body.max_locals
  pub top : frame_words P st.top ≡ body_words st.body
  pub sum : frames_words P s.frames ≡ body_words st.body + frames_words P st.callers
  pub most : frames_words P s.frames ≤ n - 80
  pub callers : formed.AreFrames P (length s.objects) st.callers

pub frame_is : (P : Program) (f : Frame) (b : Body) → body_of P f.method ≡ Some b → frame_words P f ≡ body_words b
frame_is P f b e = ap (λ o. elim o [ None ↦ 0 | Some u ↦ body_words u ]) e

pub counted : FramesHaveRoom → (P : Program) (pl : Places) (n size : ℕ) (m : machine.MachineState) (s : State) (st : StandsFor P pl n size m s) → IsWellFormed P (limits_of P pl n size) s → Counted P pl n size m s st
counted room P pl n size m s st well =
    let frames = subst (λ (fs : List Frame). formed.AreFrames P (length s.objects) fs) st.frames well.frames in
    let top = frame_is P st.top st.body st.is_body in
    record {
      below = room P pl (object_place P pl s.objects) (length s.objects) st.callers st.below st.are_frames.1 frames.1;
      locals = (holds_at (body_of P st.top.method) st.body (formed.IsFrame P (length s.objects) st.top) st.is_body frames.0).locals;
      top = top;
      sum = ap (frames_words P) st.frames ∙ sum_by-cons (frame_words P) st.top st.callers ∙ ap (λ (k : ℕ). k + frames_words P st.callers) top;
      most = well.frame_sum;
      callers = frames.1;
    }

-- a look-up, as the machine of the state does it
pub finds : (x : Sketch) (m : machine.MachineState) (place : ℕ) (words : List ℕ) (f : Switch) → x.cache ≡ m.cache → x.hits ≡ m.hits → x.misses ≡ m.misses → found_words x place ≡ words → code_words x.memory place ≡ length words
    → (hit : Bool) → is_cached place m.cache ≡ hit → FindsBy hit place words m (looked_up x place f)
finds x m place words f cache hits misses found count true is =
    let there : is_cached place x.cache ≡ true = ap (λ (c : Cache). is_cached place c) cache ∙ is in
    let none : missed place x.cache ≡ 0 = ap (λ (b : Bool). if b then 0 else 1) there in (
      ap (λ (b : Bool). if b then x.cache else loaded place (found_words x place) x.cache) there ∙ cache,
      ap (λ (b : Bool). if b then (x.hits + 1) % 2 ^ 64 else x.hits) there ∙ ap (λ (k : ℕ). (k + 1) % 2 ^ 64) hits,
      ap (λ (b : Bool). if b then x.misses else (x.misses + 1) % 2 ^ 64) there ∙ misses,
      none,
      ap (λ (k : ℕ). k * code_words x.memory place) none ∙ no_times (code_words x.memory place),
    )
  where
    no_times : (k : ℕ) → 0 * k ≡ 0
    no_times k = omega arith
finds x m place words f cache hits misses found count false is =
    let not_there : is_cached place x.cache ≡ false = ap (λ (c : Cache). is_cached place c) cache ∙ is in
    let one : missed place x.cache ≡ 1 = ap (λ (b : Bool). if b then 0 else 1) not_there in (
      ap (λ (b : Bool). if b then x.cache else loaded place (found_words x place) x.cache) not_there ∙ ap (λ (ws : List ℕ). loaded place ws x.cache) found ∙ ap (λ (c : Cache). loaded place words c) cache,
      ap (λ (b : Bool). if b then (x.hits + 1) % 2 ^ 64 else x.hits) not_there ∙ hits,
      ap (λ (b : Bool). if b then x.misses else (x.misses + 1) % 2 ^ 64) not_there ∙ ap (λ (k : ℕ). (k + 1) % 2 ^ 64) misses,
      one,
      ap (λ (k : ℕ). k * code_words x.memory place) one ∙ once (code_words x.memory place) ∙ count,
    )
  where
    once : (k : ℕ) → 1 * k ≡ k
    once k = omega arith
