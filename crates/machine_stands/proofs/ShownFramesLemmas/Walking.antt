-- From a frame to its caller's.
use Rattle.std.proofs.Common.{◌≡◌, ℕ, suc, Some, ◌+◌, ◌-◌, ◌<◌, ◌≤◌, List, [], ◌∷◌, ◌++◌, length, get_or, reverse, refl, ◌∙◌, ap, arith, length-append, append_assoc, ⊎_elim}
use Rattle.std.specs.Prelude.{slice_index}
use Rattle.std.proofs.lemmas.List.{length-reverse}
use Rattle.machine_stands.proofs.Counting.{locals_count}
use Rattle.lists.proofs.Lemmas.{some_is}
use Rattle.image_facts.specs.declared.method.CodedMethod.{CodedMethod}
use Rattle.jop_core.specs.declared.places.TheConstants.{STACK, METHOD}
use Rattle.jop_core.specs.State as machine
use Rattle.bytecode_model.specs.State.{Frame, State}
use Rattle.bytecode_model.specs.Program.{Program, Body, body_of, instr_at}
use Rattle.bytecode_model.specs.WellFormed as formed
use Rattle.image_facts.specs.Places.{Places, object_place, pool_of}
use Rattle.machine_stands.specs.Frames.{FrameWords, AreWordsOfFrames, Saves, stacked, sp_over, vp_over}
use Rattle.machine_stands.specs.StandsFor.{stack_words}
use Rattle.machine_stands.specs.declared.shown_frames.frames.FramePlace.{FramePlace}
use Rattle.machine_stands.specs.ShownFrames.Frames.{HasStack, IsFrameAt}
use Rattle.machine_stands.specs.ShownFrames.Methods.{IsMethodAt}
use Rattle.machine_stands.specs.ShownFrames.Shows.{ShowsState}
use Rattle.machine_stands.proofs.ShownFramesLemmas.Known.{of_method}
use Rattle.machine_stands.proofs.ShownFramesLemmas.Stack.{read_between, stack_count}
use Rattle.machine_stands.proofs.ShownFramesLemmas.Standing.{FrameLaws, formed_frames, has_stack}

-- ---- how many there are

short : FrameLaws → (P : Program) (pl : Places) (place : ℕ → ℕ) (fs : List Frame) (ws : List FrameWords) → AreWordsOfFrames P pl place fs ws → length fs ≤ length (stacked ws)
short laws P pl place [] ws h = omega arith
short laws P pl place (f ∷ fs) [] h = absurd h
short laws P pl place (f ∷ fs) (w ∷ ws) h =
    omega (arith, short laws P pl place fs ws h.1, laws.saved P pl fs ws w.saved h.0.saved, length-append (stacked ws) (w.locals ++ (w.saved ++ reverse w.operands)), length-append w.locals (w.saved ++ reverse w.operands), length-append w.saved (reverse w.operands))

-- no frame takes no word
some_words : FrameLaws → (P : Program) (pl : Places) (place : ℕ → ℕ) (f : Frame) (fs : List Frame) (w : FrameWords) (ws : List FrameWords) → AreWordsOfFrames P pl place (f ∷ fs) (w ∷ ws) → length (stacked ws) + 5 ≤ length (stacked (w ∷ ws))
some_words laws P pl place f fs w ws h =
    omega (arith, laws.saved P pl fs ws w.saved h.0.saved, length-append (stacked ws) (w.locals ++ (w.saved ++ reverse w.operands)), length-append w.locals (w.saved ++ reverse w.operands), length-append w.saved (reverse w.operands))

-- ---- the frame at a place

-- where the caller of that frame stands, which saves words from another place on
pub record IsCalled (P : Program) (pl : Places) (m : machine.MachineState) (s : State) (at : FramePlace) (number saved : ℕ) : Type 0 where
  pub next : (to : FramePlace) → to.locals ≡ get_or (stack_words m) (saved + 2 - STACK) 0 → to.method ≡ get_or (stack_words m) (saved + 4 - STACK) 0
      → IsFrameAt P pl m s to (number + 1) × (to.locals < at.locals)

module _ (laws : FrameLaws) (P : Program) (pl : Places) (m : machine.MachineState) (s : State) (at : FramePlace) (number : ℕ) (f : IsFrameAt P pl m s at number) where
  -- its method
  pub body_at : (b : Body) × (body_of P f.frame.method ≡ Some b) × (length f.words.locals ≡ b.max_locals)
  body_at =
      let (b, is, frame) = some_is (body_of P f.frame.method) (formed.IsFrame P (length s.objects) f.frame) f.formed.0 in
      (b, is, locals_count (object_place P pl s.objects) f.frame.locals f.words.locals f.are_frames.0.locals ∙ frame.locals)

  count_above : length (stack_words m) ≡ length (stacked f.below) + (length f.words.locals + (5 + length f.words.operands)) + length f.above
  count_above =
      let w = f.words in
      let five = laws.saved P pl f.callers f.below w.saved f.are_frames.0.saved in
      ap length f.stack
      ∙ omega (arith, length-append (stacked (w ∷ f.below)) f.above, length-append (stacked f.below) (w.locals ++ (w.saved ++ reverse w.operands)), length-append w.locals (w.saved ++ reverse w.operands), length-append w.saved (reverse w.operands), length-reverse w.operands, five)

  -- the words that it saves are among those of the stack
  pub saved_within : (n : ℕ) → HasStack n m → (saved : ℕ) → saved ≡ at.locals + length f.words.locals → (STACK ≤ saved) × (saved + 4 ≤ m.sp + 2)
  saved_within n has saved is = (omega (arith, is, f.locals_at), omega (arith, is, f.locals_at, count_above, stack_count n m has, has.low))

  -- the number is at most that of all frames
  pub few : (n : ℕ) → HasStack n m → number ≤ length s.frames
  few n has = omega (arith, f.nth)

  called : (callers : List Frame) (below : List FrameWords) → AreWordsOfFrames P pl (object_place P pl s.objects) callers below → formed.AreFrames P (length s.objects) callers → Saves P pl callers below f.words.saved
      → stack_words m ≡ stacked (f.words ∷ below) ++ f.above → at.locals ≡ vp_over below → number + length callers ≡ length s.frames → STACK < at.locals → (saved : ℕ) → saved ≡ at.locals + length f.words.locals
      → IsCalled P pl m s at number saved
  called [] [] are formed saves stack locals nth more saved is = absurd (omega (arith, locals, more))
  called [] (w ∷ ws) are formed saves stack locals nth more saved is = absurd are
  called (c ∷ cs) [] are formed saves stack locals nth more saved is = absurd are
  called (c ∷ cs) (w ∷ ws) are formed saves stack locals nth more saved is =
      let (i, at_call, words) = some_is (instr_at P c.method c.pc) (λ i. f.words.saved ≡ sp_over (w ∷ ws) ∷ (c.pc + i.length) ∷ vp_over ws ∷ pool_of P pl c.method ∷ pl.method c.method ∷ []) saves in
      let five : length f.words.saved ≡ 5 = ap length words in
      let read : (k : ℕ) → k < 5 → get_or (stack_words m) (saved + k - STACK) 0 ≡ get_or f.words.saved k 0 =
      λ k few. ap (λ (zs : List ℕ). get_or zs (saved + k - STACK) 0) stack
      ∙ read_between (stacked (w ∷ ws)) f.words.locals f.words.saved (reverse f.words.operands) f.above (saved + k - STACK) k (omega (arith, is, locals)) (omega (arith, five, few)) in
      let vp : get_or (stack_words m) (saved + 2 - STACK) 0 ≡ vp_over ws = read 2 (omega arith) ∙ ap (λ (zs : List ℕ). get_or zs 2 0) words in
      let method : get_or (stack_words m) (saved + 4 - STACK) 0 ≡ pl.method c.method = read 4 (omega arith) ∙ ap (λ (zs : List ℕ). get_or zs 4 0) words in
      let more_words = some_words laws P pl (object_place P pl s.objects) c cs w ws are in
      record {
        next = λ to locals_of method_of. (
          record {
            frame = c;
            callers = cs;
            words = w;
            below = ws;
            above = (f.words.locals ++ (f.words.saved ++ reverse f.words.operands)) ++ f.above;
            are_frames = are;
            formed = formed;
            stack = stack ∙ append_assoc (stacked (w ∷ ws)) (f.words.locals ++ (f.words.saved ++ reverse f.words.operands)) f.above;
            locals_at = locals_of ∙ vp;
            method_at = method_of ∙ method;
            nth = omega (arith, nth);
          },
          omega (arith, locals_of, vp, locals, more_words),
        );
      }

  pub is_called : STACK < at.locals → (saved : ℕ) → saved ≡ at.locals + length f.words.locals → IsCalled P pl m s at number saved
  is_called more saved is = called f.callers f.below f.are_frames.1 f.formed.1 f.are_frames.0.saved f.stack f.locals_at f.nth more saved is

  none_called : (callers : List Frame) (below : List FrameWords) → AreWordsOfFrames P pl (object_place P pl s.objects) callers below → at.locals ≡ vp_over below → at.locals ≤ STACK → length callers ≡ 0
  none_called [] below are locals first = refl
  none_called (c ∷ cs) [] are locals first = absurd are
  none_called (c ∷ cs) (w ∷ ws) are locals first = absurd (omega (arith, locals, first, some_words laws P pl (object_place P pl s.objects) c cs w ws are))

  -- the frame that stands first is the last one counted
  pub ends : at.locals ≤ STACK → length s.frames ≡ number
  ends first = omega (arith, f.nth, none_called f.callers f.below f.are_frames.1 f.locals_at first)

-- ---- the top frame

module _ (laws : FrameLaws) (methods : List CodedMethod) (m : machine.MachineState) (P : Program) (pl : Places) (n size : ℕ) (s : State) (h : ShowsState methods m P pl n size s) where
  pub top_at : (at : FramePlace) → at.locals ≡ m.vp → at.method ≡ slice_index m.stack METHOD → IsFrameAt P pl m s at 1
  top_at at locals method =
      let st = h.stands in
      record {
        frame = st.top;
        callers = st.callers;
        words = st.words;
        below = st.below;
        above = st.left;
        are_frames = st.are_frames;
        formed = formed_frames laws methods m P pl n size s h;
        stack = st.stack;
        locals_at = locals ∙ st.vp;
        method_at = method ∙ st.registers.method;
        nth = let all : length s.frames ≡ suc (length st.callers) = ap length st.frames in omega (arith, all);
      }

  -- there are fewer frames than on-chip words
  pub frames_few : length s.frames ≤ n
  frames_few =
      let st = h.stands in
      let has = has_stack laws methods m P pl n size s h in
      let all : length s.frames ≡ length (st.top ∷ st.callers) = ap length st.frames in
      omega (arith, all, short laws P pl (object_place P pl s.objects) (st.top ∷ st.callers) (st.words ∷ st.below) st.are_frames, ap length st.stack, length-append (stacked (st.words ∷ st.below)) st.left, stack_count n m has, has.low, has.high)

  pub few_words : n ≤ 1024
  few_words = ⊎_elim (λ e. omega (arith, e)) (λ r. ⊎_elim (λ e. omega (arith, e)) (λ e. omega (arith, e)) r) h.stands.sizes.is_size

  -- the place behind the local variables of a frame, by what is known of its method
  pub saved_is : (at : FramePlace) (number : ℕ) (f : IsFrameAt P pl m s at number) (x : CodedMethod) → IsMethodAt methods at.method x → at.locals + x.max_locals ≡ at.locals + length f.words.locals
  saved_is at number f x is =
      let (b, has, locals) = body_at laws P pl m s at number f in
      omega (arith, locals, (of_method P pl methods h.methods_are f.frame.method b has at.method f.method_at x is).0)
