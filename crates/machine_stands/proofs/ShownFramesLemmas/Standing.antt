-- What a machine that stands for a state tells of its top frame.
use Rattle.std.proofs.Common.{◌≡◌, ℕ, ◌+◌, ◌-◌, ◌<◌, ◌≤◌, List, [], ◌∷◌, ◌++◌, length, take, drop, reverse, min, Some, None, refl, sym, ◌∙◌, ap, subst, arith, length-append, length-take, length-drop}
use Rattle.std.specs.Prelude.{sum_by, slice_index, IsSomeAnd, Result, Ok, Err}
use Rattle.std.proofs.lemmas.List.{length-reverse}
use Rattle.std.proofs.lemmas.List.Sums.{sum_by-cons}
use Rattle.machine_stands.proofs.Counting.{locals_count, operands_count}
use Rattle.lists.proofs.Lemmas.{some_in, some_is}
use Rattle.image_facts.specs.declared.method.CodedMethod.{CodedMethod}
use Rattle.opcodes.specs.declared.instruction.Instr.{Instr}
use Rattle.opcodes.specs.Instruction.{decoded}
use Rattle.opcodes.specs.Start.{IsByteOf}
use Rattle.jop_core.specs.declared.places.TheConstants.{STACK, METHOD}
use Rattle.jop_core.specs.State as machine
use Rattle.bytecode_model.specs.declared.Ending.{Ending}
use Rattle.bytecode_model.specs.declared.Ending.TheVariants.{Running, Raising, Ended, Uncaught}
use Rattle.bytecode_model.specs.State.{Frame, State}
use Rattle.bytecode_model.specs.Lists.{onto}
use Rattle.bytecode_model.specs.Program.{Program, Body, body_of, instr_at, as_instr}
use Rattle.bytecode_model.specs.Sizes.{value_words, body_words, frame_words, frames_words}
use Rattle.bytecode_model.specs.WellFormed as formed
use Rattle.image_facts.specs.Places.{Places, object_place}
use Rattle.image_facts.specs.Says.{IsCode}
use Rattle.machine_stands.specs.Frames.{stacked}
use Rattle.machine_stands.specs.StandsFor.{AreLeftWords, IsAt, IsAtInstruction, IsAtRaise, stack_words}
use Rattle.machine_stands.specs.Counted.{FramesHaveRoom, FiveAreSaved}
use Rattle.machine_stands.specs.ShownFrames.Frames.{HasStack}
use Rattle.machine_stands.specs.ShownFrames.Shows.{ShowsState, top_frame}
use Rattle.machine_stands.proofs.ShownFramesLemmas.Options.{some_at, if_at}
use Rattle.machine_stands.proofs.ShownFramesLemmas.Stack.{stack_count}

pub record FrameLaws : Type 0 where
  pub room : FramesHaveRoom
  pub saved : FiveAreSaved

-- the words of the stack, some of which are over the memory's end
stack_least : (m : machine.MachineState) (n : ℕ) → length m.stack ≡ n → length (stack_words m) ≡ min (m.sp + 1 - STACK) (n - STACK) + 2
stack_least m n count =
    length-append (take (m.sp + 1 - STACK) (drop STACK m.stack)) (m.b ∷ m.a ∷ []) ∙ ap (λ k. k + 2) (length-take (m.sp + 1 - STACK) (drop STACK m.stack)
    ∙ ap (λ k. min (m.sp + 1 - STACK) k) (length-drop STACK m.stack ∙ ap (λ k. k - STACK) count))

whole : {E : Type 0} (r : Result Instr E) (i : Instr) → as_instr r ≡ Some i → r ≡ Ok i
whole (Ok j) i e = let same : j ≡ i = cc in ap Ok same
whole (Err f) i e = absurd (cc)

module _ (laws : FrameLaws) (methods : List CodedMethod) (m : machine.MachineState) (P : Program) (pl : Places) (n size : ℕ) (s : State) (h : ShowsState methods m P pl n size s) where
  pub formed_frames : formed.AreFrames P (length s.objects) (h.stands.top ∷ h.stands.callers)
  formed_frames = subst (λ fs. formed.AreFrames P (length s.objects) fs) h.stands.frames h.formed.frames

  formed_top : formed.IsFrame P (length s.objects) h.stands.top h.stands.body
  formed_top = some_at (body_of P h.stands.top.method) h.stands.body (formed.IsFrame P (length s.objects) h.stands.top) h.stands.is_body formed_frames.0

  -- ---- its words

  locals_are : length h.stands.words.locals ≡ h.stands.body.max_locals
  locals_are = locals_count (object_place P pl s.objects) h.stands.top.locals h.stands.words.locals h.stands.are_frames.0.locals ∙ formed_top.locals

  operands_are : length h.stands.words.operands ≡ sum_by value_words h.stands.top.operands
  operands_are = operands_count (object_place P pl s.objects) h.stands.top.operands h.stands.words.operands h.stands.are_frames.0.operands

  top_count : length (stacked (h.stands.words ∷ h.stands.below)) ≡ length (stacked h.stands.below) + h.stands.body.max_locals + 5 + sum_by value_words h.stands.top.operands
  top_count =
      let w = h.stands.words in
      let five = laws.saved P pl h.stands.callers h.stands.below w.saved h.stands.are_frames.0.saved in
      omega (arith, length-append (stacked h.stands.below) (w.locals ++ (w.saved ++ reverse w.operands)), length-append w.locals (w.saved ++ reverse w.operands), length-append w.saved (reverse w.operands), length-reverse w.operands, five, locals_are, operands_are)

  all_count : length (stack_words m) ≡ length (stacked (h.stands.words ∷ h.stands.below)) + length h.stands.left
  all_count = ap length h.stands.stack ∙ length-append (stacked (h.stands.words ∷ h.stands.below)) h.stands.left

  -- the top frame's operands and what is left are at most as many as it may have
  top_depth : (mode : Ending) → s.mode ≡ mode → AreLeftWords mode h.stands.body h.stands.left → formed.ModeFits (length s.objects) (h.stands.top ∷ h.stands.callers) mode
      → sum_by value_words h.stands.top.operands + length h.stands.left ≤ h.stands.body.max_stack
  top_depth Running e left fits = omega (arith, formed_top.depth, ap length left)
  top_depth Ended e left fits = omega (arith, formed_top.depth, ap length left)
  top_depth (Raising p) e left fits = omega (arith, left, ap (sum_by value_words) fits.1)
  top_depth (Uncaught c) e left fits = omega (arith, left, ap (sum_by value_words) fits)

  most : length (stack_words m) ≤ n - 80
  most =
      let st = h.stands in
      let depth = top_depth s.mode refl st.are_left (subst (λ fs. formed.ModeFits (length s.objects) fs s.mode) st.frames h.formed.mode) in
      let room = laws.room P pl (object_place P pl s.objects) (length s.objects) st.callers st.below st.are_frames.1 formed_frames.1 in
      let is : frame_words P st.top ≡ body_words st.body = ap (λ o. elim o [ None ↦ 0 | Some b ↦ body_words b ]) st.is_body in
      let sum : frames_words P s.frames ≡ body_words st.body + frames_words P st.callers = ap (frames_words P) st.frames ∙ omega (arith, is, sum_by-cons (frame_words P) st.top st.callers) in
      omega (arith, all_count, top_count, depth, room, sum, h.formed.frame_sum)

  pub has_stack : HasStack n m
  has_stack =
      let least = stack_least m n h.stands.sizes.stack in
      record { count = h.stands.sizes.stack; low = omega (arith, least, all_count, top_count); high = omega (arith, least, all_count, top_count, most) }

  pub method_place : METHOD < n
  method_place = omega (arith, has_stack.low, has_stack.high)

  pub method_is : slice_index m.stack METHOD ≡ pl.method h.stands.top.method
  method_is = h.stands.registers.method

  pub of_top : (K : Frame → Type 0) → K h.stands.top → IsSomeAnd (top_frame s.frames) K
  of_top K k = some_in (top_frame s.frames) h.stands.top K (ap top_frame h.stands.frames) k

  -- SP, VP and the operands of a state that runs
  pub operands_over : s.mode ≡ Running → m.sp ≡ m.vp + h.stands.body.max_locals + 2 + sum_by value_words h.stands.top.operands
  operands_over running =
      let left : h.stands.left ≡ [] = subst (λ md. AreLeftWords md h.stands.body h.stands.left) running h.stands.are_left in
      omega (arith, stack_count n m has_stack, all_count, top_count, ap length left, h.stands.vp, has_stack.low)

  pub pc_running : s.mode ≡ Running → m.jpc ≡ h.stands.top.pc + 1
  pc_running running = let at : IsAtInstruction pl m h.stands.top h.stands.body = subst (λ md. IsAt P pl m s h.stands.top h.stands.body md) running h.stands.at in at.jpc

  pub code_is : IsCode h.stands.body.code
  code_is = if_at (body_of P h.stands.top.method) h.stands.body (λ b. IsCode b.code) h.stands.is_body (h.says.codes h.stands.top.method)

  -- the byte before jpc is one of the instruction
  pub pc_raising : (p : ℕ) → s.mode ≡ Raising p → (0 < m.jpc) × IsByteOf h.stands.body.code (m.jpc - 1) h.stands.top.pc
  pc_raising p raising =
      let st = h.stands in
      let at : IsAtRaise P pl m s st.top p = subst (λ md. IsAt P pl m s st.top st.body md) raising st.at in
      let (i, is, within) = some_is (instr_at P st.top.method st.top.pc) (λ i. (st.top.pc < m.jpc) × (m.jpc ≤ st.top.pc + i.length)) at.jpc in
      let there : as_instr (decoded st.body.code st.top.pc) ≡ Some i = sym (ap (λ o. onto o (λ (b : Body). as_instr (decoded b.code st.top.pc))) st.is_body) ∙ is in
      (omega (arith, within.0), record { instr = i; start = formed_top.start; whole = whole (decoded st.body.code st.top.pc) i there; from = omega (arith, within.0); to = omega (arith, within.0, within.1) })

  pub byte_at : (k : ℕ) → k ≡ m.jpc → (code : List ℕ) → code ≡ h.stands.body.code → (p : ℕ) → s.mode ≡ Raising p → IsByteOf code (k - 1) h.stands.top.pc
  byte_at k e code c p raising =
      let byte = (pc_raising p raising).1 in
      subst (λ (z : List ℕ). IsByteOf z (k - 1) h.stands.top.pc) (sym c) (subst (λ j. IsByteOf h.stands.body.code (j - 1) h.stands.top.pc) (sym e) byte)
