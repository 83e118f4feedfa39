-- Rows that raise and rows that halt.
use Rattle.std.proofs.Common.{◌≡◌, ℕ, ◌+◌, ◌<◌, ◌≤◌, List, [], ◌∷◌, ◌++◌, Some, None, length, drop, reverse, refl, sym, ◌∙◌, ap, subst, arith, append_assoc, add-zero}
use Rattle.std.specs.Prelude.{slice_index, slice_set, IsSomeAnd}
use Rattle.std.specs.declared.option.Option.{Option}
use Rattle.std.proofs.lemmas.List.{append-nil, length-reverse}
use mathlib.Core.List.{reverse_aux}
use Rattle.opcodes.specs.declared.instruction.Instr.{Instr}
use Rattle.jop_core.specs.declared.places.TheConstants.{RAISED}
use Rattle.jop_core.specs.State as machine
use Rattle.micro_sketch.specs.Stands.{conc, stack_of, constants}
use Rattle.micro_sketch.specs.View.{env_of}
use Rattle.micro_sketch.specs.Row.{words_of}
use Rattle.micro_sketch.specs.Rows as rows
use Rattle.micro_sketch.specs.Rows.{RunsToRaise}
use Rattle.micro_sketch.specs.RowLaws.{StackHasWords}
use Rattle.bytecode_model.specs.declared.Ending.{Ending}
use Rattle.bytecode_model.specs.declared.Ending.TheVariants.{Running, Raising, Ended}
use Rattle.bytecode_model.specs.State.{Object, Frame, State}
use Rattle.bytecode_model.specs.Program.{Program, instr_at}
use Rattle.image_facts.specs.Places.{Places, object_place}
use Rattle.machine_stands.specs.Frames.{FrameWords, stacked, AreWordsOfFrames}
use Rattle.machine_stands.specs.StandsFor.{AreLeftWords, IsAt, IsAtRaise, memory_of}
use Rattle.machine_stands.specs.Comes.{params, found_between, found_by, LooksUp, ComesTo}
use Rattle.machine_stands.specs.Simulates.{IsStep}
use Rattle.machine_stands.specs.Seen.{seen}
use Rattle.machine_stands.specs.Again.{registers_of}
use Rattle.machine_stands.specs.Stopping.{SameRest, RaisesOn, RunsToEnd}
use Rattle.machine_stands.proofs.Registers.{registers_listed, low_at}
use Rattle.machine_stands.proofs.Standing.{stand_there, same_cache, in_order, least_size}
use Rattle.machine_stands.proofs.Coming.{ComingLaws, port_idle, comes_by}

-- the memory is the same where the static fields and the objects are
pub same_memory : (P : Program) (pl : Places) (size : ℕ) (s s' : State) → SameRest s s' → memory_of P pl size s ≡ memory_of P pl size s'
same_memory P pl size s s' r =
    ap (λ (os : List Object). memory_of P pl size (record s { objects = os })) (sym r.objects)
    ∙ ap (λ vs. memory_of P pl size (record s' { statics = vs })) (sym r.statics)

-- no look-up where an object is raised, or at the end
raising_found : (s s' : State) (p : ℕ) → s.mode ≡ Running → s'.mode ≡ Raising p → found_by s s' ≡ None
raising_found s s' p mode mode' = ap (λ (md : Ending). found_between s.frames s'.frames md s'.mode) mode ∙ ap (λ (md : Ending). found_between s.frames s'.frames Running md) mode'

ended_found : (s s' : State) → s.mode ≡ Running → s'.mode ≡ Ended → found_by s s' ≡ None
ended_found s s' mode mode' = ap (λ (md : Ending). found_between s.frames s'.frames md s'.mode) mode ∙ ap (λ (md : Ending). found_between s.frames s'.frames Running md) mode'

abbrev emptied : Frame → Frame
emptied f = record f { operands = [] }

pub raise_comes : StackHasWords → ComingLaws → (P : Program) (pl : Places) (n size : ℕ) (m : machine.MachineState) (answer : Option ℕ) (s s' : State) (h : IsStep P pl n size m answer s s') (i : Instr) (p : ℕ) (f : rows.Raising)
    → s.mode ≡ Running → instr_at P h.stands.top.method h.stands.top.pc ≡ Some i → RaisesOn P pl n size m s s' h.stands i p f
    → RunsToRaise n (params m i.count 0) m.opcode f (seen (params m i.count 0) (None ∷ []) m h.stands.words h.stands.below) (env_of m)
    → ComesTo P pl n size m s s'
raise_comes count coming P pl n size m answer s s' h i p f mode instr on r =
    let st = h.stands in
    let x = seen (params m i.count 0) (None ∷ []) m st.words st.below in
    let y = r.after in
    let e = r.reaches.env in
    let new = conc n y e in
    let sees = coming.seen P pl n size m s (params m i.count 0) (None ∷ []) st h.well_formed mode refl refl in
    let has = same_cache P pl n size m s y.cache st r.raises.kept.cache in
    let top = emptied st.top in
    let words : FrameWords = record st.words { operands = [] } in
    let place = object_place P pl s'.objects in
    let long : 64 ≤ length m.stack = omega (arith, st.sizes.stack, least_size n st.sizes.is_size) in
    let old = registers_listed P pl n size m s st.top long st.registers in
    let list : registers_of P pl n size s st.top f.object ≡ registers_of P pl n size s' top f.object =
    ap (λ (fs : List Frame). registers_of P pl n size (record s { frames = fs }) st.top f.object) st.frames
    ∙ ap (λ (fs : List Frame). registers_of P pl n size (record s { frames = fs }) st.top f.object) (sym on.frames)
    ∙ ap (λ (os : List Object). registers_of P pl n size (record s' { objects = os }) st.top f.object) (sym on.rest.objects) in
    let low : drop 24 y.low ≡ registers_of P pl n size s' top f.object = r.raises.low ∙ ap (λ (ws : List ℕ). slice_set ws 7 f.object) old ∙ list in
    let raised : slice_index (stack_of y) 31 ≡ f.object =
    ap (λ (ws : List ℕ). slice_index ws 31) (append_assoc y.low (constants ++ y.deep) (reverse_aux y.under y.above))
    ∙ low_at y.low ((constants ++ y.deep) ++ reverse_aux y.under y.above) 7 r.reaches.shape.low (omega arith) ∙ ap (λ (ws : List ℕ). slice_index ws 7) low in
    let at : IsAtRaise P pl new s' top p = record {
      running = r.raises.running;
      mpc = r.raises.mpc;
      jpc = subst (λ o. IsSomeAnd o (λ (j : Instr). (st.top.pc < y.jpc) × (y.jpc ≤ st.top.pc + j.length))) (sym instr)
          (subst (λ (k : ℕ). (st.top.pc < k) × (k ≤ st.top.pc + i.length)) (sym r.raises.jpc) (on.from, on.to));
      raised = raised ∙ on.object ∙ ap (λ (os : List Object). object_place P pl os p) (sym on.rest.objects);
    } in
    let stands = stand_there count P pl n size s' y e (record {
      is_size = st.sizes.is_size;
      shape = r.reaches.shape;
      as_many = ap length r.raises.memory ∙ st.sizes.memory;
      small = st.sizes.small;
      most = st.sizes.most;
      room = has.0;
      idle = port_idle y.busy e r.done.idle r.reaches.port;
      top = top;
      callers = st.callers;
      frames = on.frames;
      body = st.body;
      is_body = st.is_body;
      words = words;
      below = st.below;
      left = reverse on.left;
      are_frames = subst (λ (os : List Object). AreWordsOfFrames P pl (object_place P pl os) (top ∷ st.callers) (words ∷ st.below)) (sym on.rest.objects)
          (record { locals = st.are_frames.0.locals; saved = st.are_frames.0.saved; operands = tt }, st.are_frames.1);
      are_left = subst (λ (md : Ending). AreLeftWords md st.body (reverse on.left)) (sym on.mode) (omega (arith, length-reverse on.left, on.few));
      stack = in_order (stacked st.below) st.words.locals st.words.saved [] on.left y.deep (words_of y) (r.raises.deep ∙ sees.deep)
          (r.raises.words ∙ on.stack ∙ ap (λ (ws : List ℕ). ws ++ reverse st.words.saved) (sym (append-nil on.left)));
      vp = r.raises.kept.vp ∙ st.vp;
      raised = f.object;
      low = low;
      memory = r.raises.memory ∙ st.memory ∙ same_memory P pl size s s' on.rest;
      cache = has.1;
      copies = has.2;
      at = subst (λ (md : Ending). IsAt P pl new s' top st.body md) (sym on.mode) at;
    }) in
    comes_by coming P pl n size m answer s s' h i [] y r.reaches r.reaches.cycles 0 mode instr (on.rest.answers ∙ sym (append-nil s.answers)) r.raises.answers
    (on.rest.output ∙ sym (append-nil s.output) ∙ ap (λ (ws : List ℕ). s.output ++ reverse ws) (sym r.raises.output)) r.done stands (sym (add-zero r.reaches.cycles)) r.cost
    (subst (λ o. LooksUp P pl o m new 0) (sym (raising_found s s' p mode on.mode)) (refl, r.raises.kept.cache, r.raises.kept.hits, r.raises.kept.misses))

pub end_comes : StackHasWords → ComingLaws → (P : Program) (pl : Places) (n size : ℕ) (m : machine.MachineState) (answer : Option ℕ) (s s' : State) (h : IsStep P pl n size m answer s s') (i : Instr)
    → s.mode ≡ Running → instr_at P h.stands.top.method h.stands.top.pc ≡ Some i → s'.mode ≡ Ended → s'.frames ≡ s.frames → SameRest s s'
    → RunsToEnd n m (seen (params m i.count 0) (None ∷ []) m h.stands.words h.stands.below) i.count → ComesTo P pl n size m s s'
end_comes count coming P pl n size m answer s s' h i mode instr ended frames rest r =
    let st = h.stands in
    let y = r.after in
    let e = r.reaches.env in
    let new = conc n y e in
    let sees = coming.seen P pl n size m s (params m i.count 0) (None ∷ []) st h.well_formed mode refl refl in
    let has = same_cache P pl n size m s y.cache st r.halts.kept.cache in
    let long : 64 ≤ length m.stack = omega (arith, st.sizes.stack, least_size n st.sizes.is_size) in
    let raised = slice_index m.stack RAISED in
    let list : registers_of P pl n size s st.top raised ≡ registers_of P pl n size s' st.top raised =
    ap (λ (fs : List Frame). registers_of P pl n size (record s { frames = fs }) st.top raised) (sym frames)
    ∙ ap (λ (os : List Object). registers_of P pl n size (record s' { objects = os }) st.top raised) (sym rest.objects) in
    let stands = stand_there count P pl n size s' y e (record {
      is_size = st.sizes.is_size;
      shape = r.reaches.shape;
      as_many = ap length r.halts.memory ∙ st.sizes.memory;
      small = st.sizes.small;
      most = st.sizes.most;
      room = has.0;
      idle = port_idle y.busy e r.done.idle r.reaches.port;
      top = st.top;
      callers = st.callers;
      frames = frames ∙ st.frames;
      body = st.body;
      is_body = st.is_body;
      words = st.words;
      below = st.below;
      left = [];
      are_frames = subst (λ (os : List Object). AreWordsOfFrames P pl (object_place P pl os) (st.top ∷ st.callers) (st.words ∷ st.below)) (sym rest.objects) st.are_frames;
      are_left = subst (λ (md : Ending). AreLeftWords md st.body []) (sym ended) refl;
      stack = in_order (stacked st.below) st.words.locals st.words.saved st.words.operands [] y.deep (words_of y) (r.halts.deep ∙ sees.deep) (r.halts.words ∙ sees.words);
      vp = r.halts.kept.vp ∙ st.vp;
      raised = raised;
      low = r.halts.low ∙ registers_listed P pl n size m s st.top long st.registers ∙ list;
      memory = r.halts.memory ∙ st.memory ∙ same_memory P pl size s s' rest;
      cache = has.1;
      copies = has.2;
      at = subst (λ (md : Ending). IsAt P pl new s' st.top st.body md) (sym ended) r.halts.halt;
    }) in
    comes_by coming P pl n size m answer s s' h i [] y r.reaches r.reaches.cycles 0 mode instr (rest.answers ∙ sym (append-nil s.answers)) r.halts.answers
    (rest.output ∙ sym (append-nil s.output) ∙ ap (λ (ws : List ℕ). s.output ++ reverse ws) (sym r.halts.output)) r.done stands (sym (add-zero r.reaches.cycles)) r.cost
    (subst (λ o. LooksUp P pl o m new 0) (sym (ended_found s s' mode ended)) (refl, r.halts.kept.cache, r.halts.kept.hits, r.halts.kept.misses))
