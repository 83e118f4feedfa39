-- A return, from the step to where the machine stands for the next state: back in the caller, or at the end.
use Rattle.std.proofs.Common.{◌≡◌, ℕ, ◌+◌, ◌-◌, ◌^◌, ◌<◌, ◌==◌, Bool, true, false, List, [], ◌∷◌, ◌++◌, Option, Some, None, Result, Ok, Err, length, drop, reverse, refl, sym, ap, ◌∙◌, subst, arith, length-append, append_assoc}
use Rattle.std.specs.Prelude.{slice_get, slice_index, IfSome}
use Rattle.std.proofs.lemmas.Bool.Decides.{nat_tests}
use Rattle.std.proofs.lemmas.Option.{none-some}
use Rattle.std.proofs.lemmas.List.{length-reverse, reverse-append, reverse-reverse}
use Rattle.std.proofs.lemmas.List.Sums.{sum_by-cons}
use Rattle.lists.proofs.Lemmas.{onto_some, some_is, some_same}
use Rattle.base.specs.Packed.{words_of_bytes}
use Rattle.method_cache.specs.Contents.{is_cached}
use Rattle.micro_flow.specs.Walk.{IsCost}
use Rattle.opcodes.specs.declared.instruction.Instr.{Instr}
use Rattle.opcodes.specs.Form.{one, Absent}
use Rattle.opcodes.specs.Instruction.{decoded}
use Rattle.opcodes.specs.Reading.{plain_instr}
use Rattle.jop_core.specs.State as machine
use Rattle.micro_sketch.specs.Sketch.{Sketch}
use Rattle.micro_sketch.specs.View.{env_of}
use Rattle.micro_sketch.specs.Row.{StandsAt}
use Rattle.micro_sketch.specs.Rows.{Switch, RunsSwitch}
use Rattle.bytecode_model.specs.declared.Value.{Value}
use Rattle.bytecode_model.specs.declared.Ending.TheVariants.{Running, Ended}
use Rattle.bytecode_model.specs.Lists.{onto}
use Rattle.bytecode_model.specs.Rows as rows
use Rattle.bytecode_model.specs.Rows.{Row}
use Rattle.bytecode_model.specs.State.{Object, Frame, State}
use Rattle.bytecode_model.specs.Program.{Program, Method, Body, body_of, instr_at, as_instr}
use Rattle.bytecode_model.specs.Sizes.{frame_words, frames_words, body_words}
use Rattle.bytecode_model.specs.Effects.{effect}
use Rattle.bytecode_model.specs.Steps.{applied, left, resumed, with_result, with_top}
use Rattle.bytecode_model.specs.WellFormed as formed
use Rattle.image_facts.specs.Places.{Places, object_place, end_of, pool_of}
use Rattle.image_facts.specs.Says.{SaysAll, IsCode}
use Rattle.machine_stands.specs.Frames.{FrameWords, AreWordsOfFrames, Saves, stacked, sp_over, vp_over}
use Rattle.machine_stands.specs.StandsFor.{limits_of}
use Rattle.machine_stands.specs.Comes.{params, ComesTo}
use Rattle.machine_stands.specs.Simulates.{IsStep}
use Rattle.machine_stands.specs.Seen.{seen}
use Rattle.machine_stands.specs.Switching.{SwitchesOn}
use Rattle.machine_stands.specs.Again.{registers_of}
use Rattle.machine_stands.specs.Reading.{IsAtRow}
use Rattle.machine_stands.specs.Shown.{Shows}
use Rattle.call_steps.specs.Method as record_at
use Rattle.call_steps.specs.Method.{with_method, looked_up, as_it_stands}
use Rattle.call_steps.specs.Returns as returns
use Rattle.call_steps.specs.Returns.{ReturnOp, Return, Ireturn, Areturn, Lreturn, return_code, result, Saved, CanReturn}
use Rattle.call_steps.specs.Coming.{IsRead}
use Rattle.call_steps.proofs.Scenes.{StateLaws, size_small, register, Counted, counted, finds}
use Rattle.call_steps.proofs.ReturnSteps.{Leaves, leaves, form_read, is_return, returned, leaving}
use Rattle.call_steps.proofs.NoCalls.{none_calls}

-- ---- lists

-- the words of frames, where those of the top one that its row works on are taken apart
stack_parts : (w : FrameWords) (ws : List FrameWords) → stacked (w ∷ ws) ≡ (stacked ws ++ w.locals) ++ reverse (w.operands ++ reverse w.saved)
stack_parts w ws =
    sym (append_assoc (stacked ws) w.locals (w.saved ++ reverse w.operands))
    ∙ ap (λ (xs : List ℕ). (stacked ws ++ w.locals) ++ xs) (sym (reverse-append w.operands (reverse w.saved) ∙ ap (λ (xs : List ℕ). xs ++ reverse w.operands) (reverse-reverse w.saved)))

-- an instruction is a whole one
whole : {E : Type 0} (r : Result Instr E) (i : Instr) → as_instr r ≡ Some i → r ≡ Ok i
whole (Ok j) i h = ap (λ (k : Instr). Ok k) (some_same j i h)
whole (Err e) i h = absurd (none-some i h)

unequal : (a b : ℕ) → b < a → (a == b) ≡ false
unequal a b h = grind (arith, nat_tests, h)

-- ---- the instruction

module _ (laws : StateLaws) (P : Program) (pl : Places) (n size : ℕ) (m : machine.MachineState) (answer : Option ℕ) (s s' : State) (h : IsStep P pl n size m answer s s') (mode : s.mode ≡ Running) (op : ReturnOp) (opcode : m.opcode ≡ return_code op) where
  abbrev pub instr : Instr
  instr = plain_instr (return_code op) h.stands.body.code h.stands.top.pc (one Absent)

  abbrev pub x : Sketch
  x = seen (params m 0 0) (None ∷ []) m h.stands.words h.stands.below

  abbrev pub place : ℕ → ℕ
  place = object_place P pl s.objects

  shows : Shows P pl n size m s h.stands (params m 0 0) x
  shows = laws.shows P pl n size m answer s s' h (params m 0 0) (None ∷ []) mode refl refl

  registers : (k : ℕ) → slice_index x.low (24 + k) ≡ slice_index (registers_of P pl n size s h.stands.top shows.raised) k
  registers k = register P pl n size m s h.stands (params m 0 0) x shows k

  here : Counted P pl n size m s h.stands
  here = counted laws.room P pl n size m s h.stands h.well_formed

  at : IsAtRow P pl n size m answer s s' h.stands instr (rows.Return (returned op))
  at =
      let read = laws.plain P pl n size m answer s s' h (return_code op) (one Absent) mode opcode (form_read op) in
      subst (λ (r : Row). IsAtRow P pl n size m answer s s' h.stands instr r) (is_return op h.stands.body.code h.stands.top.pc (P.operand h.stands.top.method h.stands.top.pc) read.0 read.1.is_row) read.1

  abbrev pub Left : Type 0
  Left = Leaves P (limits_of P pl n size) answer s h.stands.top h.stands.callers s' place op x h.stands.words.operands

  stands : StandsAt n (params m 0 0) (return_code op) x (env_of m) m
  stands = subst (λ (k : ℕ). StandsAt n (params m 0 0) k x (env_of m) m) opcode shows.stands

  -- ---- the method of a frame

  record Owned (f : Frame) (b : Body) : Type 0 where
    method : Method
    is_method : slice_get P.methods f.method ≡ Some method
    read : IsRead P pl x method b (pl.method f.method)

  owned : P.linked ≡ true → (f : Frame) (b : Body) → body_of P f.method ≡ Some b → Owned f b
  owned linked f b body =
      let k = onto_some (slice_get P.methods f.method) (λ (k : Method). k.body) b body in
      record {
        method = k.0;
        is_method = k.1;
        read = laws.methods P pl n size m s h.stands x f.method k.0 b h.well_formed h.says linked k.1 k.2 refl refl;
      }

  -- ---- back in the caller

  -- the caller, its words, and the place where it goes on
  pub record Caller : Type 0 where
    frame : Frame
    others : List Frame
    words : FrameWords
    below : List FrameWords
    callers : h.stands.callers ≡ frame ∷ others
    belows : h.stands.below ≡ words ∷ below
    body : Body
    is_body : body_of P frame.method ≡ Some body
    called : Instr
    is_called : instr_at P frame.method frame.pc ≡ Some called
    small : frame.pc + called.length < 2 ^ 16
    five : length words.saved ≡ 5
    are : AreWordsOfFrames P pl place (frame ∷ others) (words ∷ below)
    saved : h.stands.words.saved ≡ sp_over (words ∷ below) ∷ (frame.pc + called.length) ∷ vp_over below ∷ pool_of P pl frame.method ∷ pl.method frame.method ∷ []

  caller_of : (frame : Frame) (others : List Frame) (words : FrameWords) (below : List FrameWords) → h.stands.callers ≡ frame ∷ others → h.stands.below ≡ words ∷ below → Caller
  caller_of frame others words below callers belows =
      let fs = frame ∷ others in
      let ws = words ∷ below in
      let are = subst (λ (gs : List Frame). AreWordsOfFrames P pl place gs ws) callers (subst (λ (vs : List FrameWords). AreWordsOfFrames P pl place h.stands.callers vs) belows h.stands.are_frames.1) in
      let saves = subst (λ (gs : List Frame). Saves P pl gs ws h.stands.words.saved) callers (subst (λ (vs : List FrameWords). Saves P pl h.stands.callers vs h.stands.words.saved) belows h.stands.are_frames.0.saved) in
      let well = subst (λ (gs : List Frame). formed.AreFrames P (length s.objects) gs) callers here.callers in
      let body = some_is (body_of P frame.method) (formed.IsFrame P (length s.objects) frame) well.0 in
      let i = some_is (instr_at P frame.method frame.pc) (λ (i : Instr). h.stands.words.saved ≡ sp_over ws ∷ (frame.pc + i.length) ∷ vp_over below ∷ pool_of P pl frame.method ∷ pl.method frame.method ∷ []) saves in
      let decodes : decoded body.0.code frame.pc ≡ Ok i.0 = whole (decoded body.0.code frame.pc) i.0 (sym (ap (λ o. onto o (λ (b : Body). as_instr (decoded b.code frame.pc))) body.1) ∙ i.1) in
      let ends = (laws.within body.0.code frame.pc i.0 decodes).ends in
      let code = subst (λ o. IfSome o (λ (u : Body). IsCode u.code)) body.1 (h.says.codes frame.method) in
      record {
        frame = frame;
        others = others;
        words = words;
        below = below;
        callers = callers;
        belows = belows;
        body = body.0;
        is_body = body.1;
        called = i.0;
        is_called = i.1;
        small = omega (arith, ends, code.short);
        five = laws.saved P pl others below words.saved are.0.saved;
        are = are;
        saved = i.2;
      }

  abbrev pub saved_of : Caller → Saved
  saved_of c = record { sp = sp_over (c.words ∷ c.below); jpc = c.frame.pc + c.called.length; vp = vp_over c.below; pool = pool_of P pl c.frame.method; method = pl.method c.frame.method }

  abbrev resumed_frame : Caller → Option Value → Frame
  resumed_frame c value = record c.frame { pc = c.frame.pc + c.called.length; operands = with_result value c.frame.operands }

  deep_is : (c : Caller) → x.deep ≡ stacked (c.words ∷ c.below) ++ h.stands.words.locals
  deep_is c = shows.deep ∙ ap (λ (ws : List FrameWords). stacked ws ++ h.stands.words.locals) c.belows

  vp_is : (c : Caller) → x.vp ≡ vp_over (c.words ∷ c.below)
  vp_is c = shows.vp ∙ ap vp_over c.belows

  abbrev pub caller_words : Caller → List ℕ
  caller_words c = c.words.operands ++ reverse c.words.saved

  abbrev pub caller_below : Caller → List ℕ
  caller_below c = stacked c.below ++ c.words.locals

  pub can_return : P.linked ≡ true → (c : Caller) (l : Left) → (can : CanReturn op x) × (can.below ≡ caller_below c) × (can.words ≡ caller_words c) × (can.saved ≡ saved_of c)
  can_return linked c l =
      let g = l.given in
      let words = c.words ∷ c.below in
      let top = owned linked h.stands.top h.stands.body h.stands.is_body in
      let frame = owned linked c.frame c.body c.is_body in
      let method : slice_index x.low 25 ≡ pl.method h.stands.top.method = registers 1 in
      let parts = ap length (stack_parts c.words c.below) ∙ length-append (caller_below c) (reverse (caller_words c)) ∙ ap (λ (k : ℕ). length (caller_below c) + k) (length-reverse (caller_words c)) in
      let below = length-append (stacked c.below) c.words.locals in
      let many = length-append c.words.operands (reverse c.words.saved) in
      let five = length-reverse c.words.saved in
      let deep = ap length (deep_is c) ∙ length-append (stacked words) h.stands.words.locals in
      let sizes = size_small n h.stands.sizes.is_size in
      let total = shows.stands.shape.total in
      let locals : length h.stands.words.locals ≡ record_at.max_locals x.memory (slice_index x.low 25) = shows.locals ∙ here.locals ∙ sym (ap (λ (k : ℕ). record_at.max_locals x.memory k) method ∙ top.read.locals) in
      let frame_is : record_at.frame_words x.memory (slice_index x.low 25) ≡ body_words h.stands.body =
      ap (λ (k : ℕ). record_at.frame_words x.memory k) method ∙ omega (arith, top.read.locals, top.read.stack) in
      let sum : slice_index x.low 28 ≡ frames_words P s.frames = registers 4 in
      let vp = vp_is c in (
        record {
          below = caller_below c;
          words = caller_words c;
          locals = h.stands.words.locals;
          saved = saved_of c;
          rest = g.others;
          deep = deep_is c ∙ ap (λ (ws : List ℕ). ws ++ h.stands.words.locals) (stack_parts c.words c.below);
          stack = shows.words ∙ ap (λ (ws : List ℕ). ws ++ reverse h.stands.words.saved) (g.split ∙ ap (λ (ws : List ℕ). ws ++ g.others) (sym g.on_stack)) ∙ ap (λ (ws : List ℕ). (result op x ++ g.others) ++ reverse ws) c.saved;
          vp = vp ∙ ap (λ (ws : List ℕ). 64 + length ws) (stack_parts c.words c.below);
          locals_count = locals;
          place = omega (arith, deep, vp, sizes, total);
          saved_sp = omega (arith, vp);
          saved_jpc = c.small;
          some = omega (arith, many, five, c.five);
          from = omega arith;
          to = omega (arith, below);
          caller = frame.read.is_method.found;
          sum = omega (arith, frame_is, sum, here.sum);
          sums = omega (arith, sum, here.most, sizes);
        },
        refl,
        refl,
        refl,
      )

  left_to : (value : Option Value) (c : Frame) (cs : List Frame) → left P s h.stands.top value (c ∷ cs) ≡ onto (resumed P c value) (λ d. Some (with_top s cs d))
  left_to None c cs = refl
  left_to (Some v) c cs = refl

  next_is : (c : Caller) (l : Left) → s' ≡ with_top s c.others (resumed_frame c l.value)
  next_is c l =
      let goes = ap (λ o. onto o (λ (i : Instr). Some (record c.frame { pc = c.frame.pc + i.length; operands = with_result l.value c.frame.operands }))) c.is_called in
      let step = sym (ap (λ (cs : List Frame). left P s h.stands.top l.value cs) c.callers ∙ left_to l.value c.frame c.others ∙ ap (λ o. onto o (λ d. Some (with_top s c.others d))) goes) ∙ l.step in
      sym (some_same (with_top s c.others (resumed_frame c l.value)) s' step)

  -- what the row makes, where the caller is known
  abbrev made_at : (given words below : List ℕ) → Saved → Switch
  made_at given words below d = record (as_it_stands x) {
    words = given ++ words;
    deep = below;
    low = with_method d.pool d.method (slice_index x.low 28 - record_at.frame_words x.memory (slice_index x.low 25)) (drop 24 x.low);
    vp = d.vp;
    jpc = d.jpc;
  }

  abbrev back_at : (given words below : List ℕ) → Saved → Switch
  back_at given words below d = looked_up x d.method (made_at given words below d)

  frames_left : P.linked ≡ true → (c : Caller) (l : Left) → slice_index x.low 28 - record_at.frame_words x.memory (slice_index x.low 25) ≡ frames_words P (resumed_frame c l.value ∷ c.others)
  frames_left linked c l =
      let top = owned linked h.stands.top h.stands.body h.stands.is_body in
      let method : slice_index x.low 25 ≡ pl.method h.stands.top.method = registers 1 in
      let sum : slice_index x.low 28 ≡ frames_words P s.frames = registers 4 in
      let frame : record_at.frame_words x.memory (slice_index x.low 25) ≡ body_words h.stands.body =
      ap (λ (k : ℕ). record_at.frame_words x.memory k) method ∙ omega (arith, top.read.locals, top.read.stack) in
      let callers : frames_words P h.stands.callers ≡ frame_words P c.frame + frames_words P c.others = ap (frames_words P) c.callers ∙ sum_by-cons (frame_words P) c.frame c.others in
      omega (arith, sum, frame, here.sum, callers, sum_by-cons (frame_words P) (resumed_frame c l.value) c.others)

  low_is : P.linked ≡ true → (c : Caller) (l : Left) → s' ≡ with_top s c.others (resumed_frame c l.value)
      → (made_at l.given.words (caller_words c) (caller_below c) (saved_of c)).low ≡ registers_of P pl n size s' (resumed_frame c l.value) shows.raised
  low_is linked c l next =
      let d = saved_of c in
      let left_words = slice_index x.low 28 - record_at.frame_words x.memory (slice_index x.low 25) in
      let sum : left_words ≡ frames_words P s'.frames = frames_left linked c l ∙ ap (λ (u : State). frames_words P u.frames) (sym next) in
      let end : end_of P pl s.objects ≡ end_of P pl s'.objects = ap (λ (u : State). end_of P pl u.objects) (sym next) in
      ap (λ (ws : List ℕ). with_method d.pool d.method left_words ws) shows.low ∙ (λ i. d.pool ∷ d.method ∷ end i ∷ size ∷ sum i ∷ (n - 80) ∷ pl.raise_list ∷ shows.raised ∷ [])

  other_count : (c : Caller) (f : Frame) → (length s.frames == length (f ∷ c.others)) ≡ false
  other_count c f = unequal (length s.frames) (length (f ∷ c.others)) (omega (arith, ap length h.stands.frames, ap length c.callers))

  switches : P.linked ≡ true → (c : Caller) (l : Left) → s' ≡ with_top s c.others (resumed_frame c l.value) → SwitchesOn P pl n size m s s' (back_at l.given.words (caller_words c) (caller_below c) (saved_of c))
  switches linked c l next =
      let g = l.given in
      let frame = resumed_frame c l.value in
      let read = (owned linked c.frame c.body c.is_body).read in
      let k = pl.method c.frame.method in
      let frames = ap (λ (u : State). u.frames) next in
      let words : FrameWords = record { locals = c.words.locals; saved = c.words.saved; operands = g.words ++ c.words.operands } in
      record {
        top = frame;
        callers = c.others;
        body = c.body;
        words = words;
        below = c.below;
        raised = shows.raised;
        mode = ap (λ (u : State). u.mode) next;
        frames = frames;
        other = ap (λ (fs : List Frame). length s.frames == length fs) frames ∙ other_count c frame;
        is_body = c.is_body;
        rest = record { objects = ap (λ (u : State). u.objects) next; statics = ap (λ (u : State). u.statics) next; answers = ap (λ (u : State). u.answers) next; output = ap (λ (u : State). u.output) next };
        are_frames = subst (λ (os : List Object). AreWordsOfFrames P pl (object_place P pl os) (frame ∷ c.others) (words ∷ c.below)) (sym (ap (λ (u : State). u.objects) next))
            (record { locals = c.are.0.locals; saved = c.are.0.saved; operands = g.given c.frame.operands c.words.operands c.are.0.operands }, c.are.1);
        stack = sym (append_assoc g.words c.words.operands (reverse c.words.saved));
        deep = refl;
        vp = refl;
        low = low_is linked c l next;
        memory = refl;
        jpc = refl;
        method = refl;
        found = finds x m k (words_of_bytes c.body.code) (made_at g.words (caller_words c) (caller_below c) (saved_of c)) refl refl refl read.code read.code_count (is_cached k m.cache) refl;
        answers = refl;
        output = refl;
      }

  comes_back : P.linked ≡ true → (c : Caller) (l : Left) → ComesTo P pl n size m s s'
  comes_back linked c l =
      let p = params m 0 0 in
      let can = can_return linked c l in
      let run = laws.returns n p op x (env_of m) m stands can.0 in
      let f = back_at l.given.words (caller_words c) (caller_below c) (saved_of c) in
      let makes : returns.return op x can.0 ≡ f = λ i. back_at (l.given.on_stack i) (can.2 i) (can.1 i) (can.3 i) in
      laws.switches P pl n size m answer s s' h instr f mode at.at (switches linked c l (next_is c l))
      (subst (λ (k : ℕ). RunsSwitch n p k f x (env_of m)) (sym opcode) (subst (λ (g : Switch). RunsSwitch n p (return_code op) g x (env_of m)) makes run))

  -- ---- at the end

  abbrev end_state : State
  end_state = record s { frames = h.stands.top ∷ []; mode = Ended }

  left_last : (value : Option Value) → left P s h.stands.top value [] ≡ Some s' → (value ≡ None) × (s' ≡ end_state)
  left_last None e = (refl, sym (some_same end_state s' e))
  left_last (Some v) e = absurd (none-some s' e)

  comes_to_end : (l : Left) → h.stands.callers ≡ [] → h.stands.below ≡ [] → ComesTo P pl n size m s s'
  comes_to_end l callers below =
      let p = params m 0 0 in
      let last = left_last l.value (sym (ap (λ (cs : List Frame). left P s h.stands.top l.value cs) callers) ∙ l.step) in
      let is : op ≡ Return = l.none last.0 in
      let next = last.1 in
      let code : return_code op ≡ 177 = ap return_code is in
      let vp : x.vp ≡ 64 = shows.vp ∙ ap vp_over below in
      let run = laws.last n p x (env_of m) m (subst (λ (k : ℕ). StandsAt n p k x (env_of m) m) code stands) vp in
      laws.ends P pl n size m answer s s' h instr mode at.at (ap (λ (u : State). u.mode) next) (ap (λ (u : State). u.frames) next ∙ sym (h.stands.frames ∙ ap (λ (cs : List Frame). h.stands.top ∷ cs) callers))
      (record { objects = ap (λ (u : State). u.objects) next; statics = ap (λ (u : State). u.statics) next; answers = ap (λ (u : State). u.answers) next; output = ap (λ (u : State). u.output) next })
      (record { after = run.after; reaches = run.reaches; done = run.done; halts = run.halts; cost = λ k cost. run.cost k (subst (λ (j : ℕ). IsCost j p k) (opcode ∙ code) cost) })

  -- ---- either

  left_now : Left
  left_now = leaves laws P (limits_of P pl n size) answer s h.stands.top h.stands.callers s' place op x h.stands.words.operands (reverse h.stands.words.saved) h.stands.are_frames.0.operands shows.words (by op at.step)
    where
      by : (o : ReturnOp) → applied P (limits_of P pl n size) answer s h.stands.top h.stands.callers (effect P (limits_of P pl n size) s h.stands.top (h.stands.top.pc + instr.length) (rows.Return (returned o))) ≡ Some s'
          → applied P (limits_of P pl n size) answer s h.stands.top h.stands.callers (leaving (returned o) h.stands.top.operands) ≡ Some s'
      by Return e = e
      by Ireturn e = e
      by Areturn e = e
      by Lreturn e = e

  -- a bare image has one frame
  has_caller : (linked : Bool) → P.linked ≡ linked → (c : Frame) (cs : List Frame) → h.stands.callers ≡ c ∷ cs → P.linked ≡ true
  has_caller true e c cs callers = e
  has_caller false e c cs callers =
      let bare = subst (λ b. SaysAll b P pl) e h.says.all in
      let waits = subst (λ (fs : List Frame). formed.AreCallers P (formed.callers_of fs)) (h.stands.frames ∙ ap (λ (fs : List Frame). h.stands.top ∷ fs) callers) h.well_formed.callers in
      absurd (none_calls P c cs (bare c.method c.pc) waits)

  pub return_comes : ComesTo P pl n size m s s'
  return_comes = by h.stands.callers h.stands.below refl refl
    where
      are : (cs : List Frame) (ws : List FrameWords) → h.stands.callers ≡ cs → h.stands.below ≡ ws → AreWordsOfFrames P pl place cs ws
      are cs ws callers below = subst (λ (gs : List Frame). AreWordsOfFrames P pl place gs ws) callers (subst (λ (vs : List FrameWords). AreWordsOfFrames P pl place h.stands.callers vs) below h.stands.are_frames.1)

      by : (cs : List Frame) (ws : List FrameWords) → h.stands.callers ≡ cs → h.stands.below ≡ ws → ComesTo P pl n size m s s'
      by [] [] callers below = comes_to_end left_now callers below
      by [] (w ∷ ws) callers below = absurd (are [] (w ∷ ws) callers below)
      by (c ∷ cs) [] callers below = absurd (are (c ∷ cs) [] callers below)
      by (c ∷ cs) (w ∷ ws) callers below = comes_back (has_caller P.linked refl c cs callers) (caller_of c cs w ws callers below) left_now
