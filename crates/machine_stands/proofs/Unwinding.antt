-- Steps of the raise routine, as runs of the machine to where it stands for the next state.
use Rattle.std.proofs.Common.{◌≡◌, ℕ, suc, ◌+◌, ◌-◌, ◌*◌, ◌/◌, ◌%◌, ◌^◌, ◌<◌, ◌≤◌, List, [], ◌∷◌, ◌++◌, Option, Some, None, length, take, drop, reverse, refl, sym, ◌∙◌, ap, subst, arith, add-zero, length-append, append_assoc, length-drop, drop-drop}
use Rattle.std.specs.Prelude.{slice_get, slice_index, IfSome, IsSomeAnd}
use Rattle.std.proofs.lemmas.List.Sums.{sum_by-cons}
use Rattle.std.proofs.lemmas.List.{append-nil, length-reverse, reverse-append, reverse-reverse}
use Rattle.std.proofs.Math.Nat.{mod-eq_of_lt}
use Rattle.micro_sketch.proofs.RowSteps.{no_stalls}
use Rattle.lists.proofs.Lemmas.{holds_at}
use mathlib.Core.List.{reverse_aux}
use Rattle.base.specs.Packed.{byte_of, words_of_bytes, PackedHasWords}
use Rattle.method_cache.specs.Contents.{Cache, is_cached, word_of}
use Rattle.microcode.specs.declared.TheConstants.{CONSTANTS as NUMBERS, RAISE}
use Rattle.micro_flow.specs.declared.CostParams.{CostParams}
use Rattle.micro_flow.specs.Walk.{IsRaiseCost, begin, walk}
use Rattle.opcodes.specs.declared.instruction.Instr.{Instr}
use Rattle.jop_core.specs.declared.places.TheConstants.{CONSTANTS, STACK}
use Rattle.jop_core.specs.State as machine
use Rattle.jop_core.specs.Cycle.{at_boundary}
use Rattle.jop_core.specs.Scene.{Scene, begun, run, output_during}
use Rattle.micro_sketch.specs.Sketch.{Sketch}
use Rattle.micro_sketch.specs.Stands.{Env, Reaches, IsDone, Tells, conc, scene, constants, stalls, stalls_for}
use Rattle.micro_sketch.specs.Laws.{SeenAsSketch, StartsAt, RaiseCostHolds}
use Rattle.micro_sketch.specs.View.{moving, env_of}
use Rattle.micro_sketch.specs.Row.{words_of}
use Rattle.micro_sketch.specs.StepLaws.{AreRunLaws, UsesUp}
use Rattle.bytecode_model.specs.declared.Value.TheVariants.{Ref}
use Rattle.bytecode_model.specs.declared.Ending.{Ending}
use Rattle.bytecode_model.specs.declared.Ending.TheVariants.{Running, Raising, Uncaught}
use Rattle.bytecode_model.specs.Types.{OfClass}
use Rattle.bytecode_model.specs.State.{Object, Frame, State}
use Rattle.bytecode_model.specs.Program.{Program, Body, body_of, kind_of}
use Rattle.bytecode_model.specs.Sizes.{frames_words, frame_words, body_words}
use Rattle.bytecode_model.specs.WellFormed as formed
use Rattle.bytecode_model.specs.WellFormed.{ModeFits, IsWellFormed, top_operands}
use Rattle.image_facts.specs.Places.{Places, object_place}
use Rattle.image_facts.specs.Says.{IsCode}
use Rattle.machine_stands.specs.Frames.{FrameWords, AreWordsOfFrames, AreOperands, stacked}
use Rattle.machine_stands.specs.StandsFor.{StandsFor, AreLeftWords, IsAt, IsAtInstruction, IsAtRaise, IsAtUncaught, limits_of, stack_words}
use Rattle.machine_stands.specs.Comes.{IsFrameCost, IsTopCost, IsStepCost, Found, found_between, found_by, top_method, LooksUp, ComesTo}
use Rattle.machine_stands.specs.Simulates.{IsStep}
use Rattle.machine_stands.specs.Again.{registers_of}
use Rattle.machine_stands.specs.Stopping.{SameRest}
use Rattle.machine_stands.specs.Unwinding.{raise_params, seen_raise, RaisesAreSeen, HandlersCome, DropsCome, UncaughtCome}
use Rattle.machine_stands.proofs.Counting.{locals_count, saved_count, frames_count}
use Rattle.machine_stands.proofs.Seeing.{stack_split, sp_is}
use Rattle.machine_stands.proofs.Copies.{byte_is}
use Rattle.machine_stands.proofs.Registers.{registers_listed, low_at}
use Rattle.machine_stands.proofs.Standing.{StandingLaws, stand_there, same_cache, in_order, least_size}
use Rattle.machine_stands.proofs.Coming.{port_idle, uses_up}
use Rattle.machine_stands.proofs.Stopping.{same_memory}
use Rattle.machine_stands.proofs.Switching.{looks}

-- what steps of the raise routine rest on
pub record RaiseLaws : Type 0 where
  pub seen : SeenAsSketch
  pub standing : StandingLaws
  pub packed : PackedHasWords
  pub runs : AreRunLaws
  pub costs : RaiseCostHolds

-- ---- the machine as a sketch

at_raise : (P : Program) (pl : Places) (m : machine.MachineState) (s : State) (f : Frame) (b : Body) (mode : Ending) (p : ℕ) → mode ≡ Raising p → IsAt P pl m s f b mode → IsAtRaise P pl m s f p
at_raise P pl m s f b mode p e h = subst (λ x. IsAt P pl m s f b x) e h

few_left : (mode : Ending) (b : Body) (left : List ℕ) (p : ℕ) → mode ≡ Raising p → AreLeftWords mode b left → length left ≤ b.max_stack
few_left mode b left p e h = subst (λ x. AreLeftWords x b left) e h

-- the top frame has no operands
no_operands : (P : Program) (pl : Places) (n size : ℕ) (m : machine.MachineState) (s : State) (st : StandsFor P pl n size m s) (p : ℕ) → IsWellFormed P (limits_of P pl n size) s → s.mode ≡ Raising p → st.words.operands ≡ []
no_operands P pl n size m s st p well mode =
    let fits = subst (λ (md : Ending). ModeFits (length s.objects) s.frames md) mode well.mode in
    let none : st.top.operands ≡ [] = sym (ap top_operands st.frames) ∙ fits.1 in
    empty (object_place P pl s.objects) st.words.operands (subst (λ vs. AreOperands (object_place P pl s.objects) vs st.words.operands) none st.are_frames.0.operands)
  where
    empty : (place : ℕ → ℕ) (ws : List ℕ) → AreOperands place [] ws → ws ≡ []
    empty place [] h = refl
    empty place (w ∷ ws) h = absurd h

constants_are : (stack : List ℕ) → take 32 (drop CONSTANTS stack) ≡ NUMBERS → take 32 (drop 32 stack) ≡ constants
unfolding constants
constants_are stack h = h

topmost : (words saved left : List ℕ) (b a : ℕ) → words ++ b ∷ a ∷ [] ≡ saved ++ left → a ∷ b ∷ reverse words ≡ reverse left ++ reverse saved
topmost words saved left b a e = sym (reverse-append words (b ∷ a ∷ [])) ∙ ap reverse e ∙ reverse-append saved left

in_two : (lower locals saved operands left : List ℕ) → operands ≡ [] → (lower ++ (locals ++ (saved ++ reverse operands))) ++ left ≡ (lower ++ locals) ++ (saved ++ left)
in_two lower locals saved operands left none =
    ap (λ (ws : List ℕ). (lower ++ (locals ++ (saved ++ reverse ws))) ++ left) none ∙ regrouped lower locals saved left
  where
    regrouped : (a b c d : List ℕ) → (a ++ (b ++ (c ++ []))) ++ d ≡ (a ++ b) ++ (c ++ d)
    regrouped a b c d = simp (append_assoc, append-nil)

pub raise_is_seen : RaiseLaws → RaisesAreSeen
raise_is_seen laws P pl n size m answer s s' object h mode =
    let st = h.stands in
    let p = raise_params m st.body in
    let x = seen_raise P pl n size m s st in
    let place = object_place P pl s.objects in
    let at = at_raise P pl m s st.top st.body s.mode object mode st.at in
    let lower = stacked st.below ++ st.words.locals in
    let upper = st.words.saved ++ st.left in
    let d = length (stacked st.below) + length st.words.locals in
    let u = length st.left + 3 in
    -- how many words there are
    let frames = subst (λ (fs : List Frame). formed.AreFrames P (length s.objects) fs) st.frames h.well_formed.frames in
    let frame = holds_at (body_of P st.top.method) st.body (formed.IsFrame P (length s.objects) st.top) st.is_body frames.0 in
    let below = frames_count P pl place (length s.objects) st.callers st.below st.are_frames.1 frames.1 in
    let locals = locals_count place st.top.locals st.words.locals st.are_frames.0.locals in
    let saved = saved_count P pl st.callers st.below st.words.saved st.are_frames.0.saved in
    let few = few_left s.mode st.body st.left object mode st.are_left in
    let top : frame_words P st.top ≡ body_words st.body = ap (λ o. elim o [ None ↦ 0 | Some b ↦ body_words b ]) st.is_body in
    let sum : frames_words P s.frames ≡ body_words st.body + frames_words P st.callers =
    ap (frames_words P) st.frames ∙ sum_by-cons (frame_words P) st.top st.callers ∙ ap (λ (k : ℕ). k + frames_words P st.callers) top in
    let least = least_size n st.sizes.is_size in
    let most : d + 5 + length st.left ≤ n - 80 = omega (arith, below, locals, frame.locals, few, sum, h.well_formed.frame_sum) in
    let count : length (lower ++ upper) ≡ d + 5 + length st.left =
    omega (arith, length-append lower upper, length-append (stacked st.below) st.words.locals, length-append st.words.saved st.left, saved) in
    -- its stack
    let none = no_operands P pl n size m s st object h.well_formed mode in
    let stack : stack_words m ≡ lower ++ upper = st.stack ∙ in_two (stacked st.below) st.words.locals st.words.saved st.words.operands st.left none in
    let sp : m.sp ≡ length (lower ++ upper) + 61 = sp_is m n (lower ++ upper) stack st.sizes.stack (omega (arith, count)) (omega (arith, count, most)) in
    let moving_is : moving m ≡ drop STACK m.stack = drop-drop 32 32 m.stack in
    let split : take (d + u) (moving m) ++ m.b ∷ m.a ∷ [] ≡ lower ++ upper =
    ap (λ (ws : List ℕ). take (d + u) ws ++ m.b ∷ m.a ∷ []) moving_is
    ∙ ap (λ (k : ℕ). take k (drop STACK m.stack) ++ m.b ∷ m.a ∷ []) (let k : d + u ≡ m.sp + 1 - STACK = omega (arith, count, sp) in k) ∙ stack in
    let long : length (moving m) ≡ n - 64 = ap length moving_is ∙ length-drop STACK m.stack ∙ ap (λ (k : ℕ). k - 64) st.sizes.stack in
    let parts = stack_split (moving m) lower upper m.b m.a d u split (length-append (stacked st.below) st.words.locals) (omega (arith, count, most, long, least)) in
    let view = laws.seen n d u (None ∷ []) m (record {
      words = st.sizes.stack;
      room = omega (arith, count, most, least);
      sp = omega (arith, count, sp);
      stall = st.stall;
      ar = st.sizes.ar;
      constants_in = constants_are m.stack st.registers.constants;
    }) in
    let words : words_of x ≡ reverse st.left ++ reverse st.words.saved = topmost (take u (drop d (moving m))) st.words.saved st.left m.b m.a parts.1 in
    let total = view.1.total in
    let many : length x.under + 2 ≡ length st.left + 5 =
    omega (arith, ap (λ (ws : List ℕ). length ws) words, length-append (reverse st.left) (reverse st.words.saved), length-reverse st.left, length-reverse st.words.saved, saved) in
    let deep_long : length x.deep ≡ d = ap (λ (ws : List ℕ). length ws) parts.0 ∙ length-append (stacked st.below) st.words.locals in
    let long_enough : 64 ≤ length m.stack = omega (arith, st.sizes.stack, least) in
    record {
      same = view.0;
      shape = record { low = view.1.low; total = view.1.total };
      starts = record { at = sym at.mpc; idle = st.idle; turns = refl; going = refl; none = nothing p.r; read = refl; write = refl };
      mpc = at.mpc;
      running = at.running;
      above = omega (arith, total, many, deep_long, most, least);
      words = words;
      deep = parts.0;
      saved = saved;
      locals = locals ∙ frame.locals;
      low = registers_listed P pl n size m s st.top long_enough st.registers ∙ ap (λ (k : ℕ). registers_of P pl n size s st.top k) at.raised;
    }
  where
    nothing : (r : ℕ) → stalls_for 0 0 r ≡ 0
    nothing r = omega arith

-- ---- the step

-- its cost
raise_cost : (P : Program) (m : machine.MachineState) (s : State) (f : Frame) (callers : List Frame) (b : Body) (p c : ℕ) → s.mode ≡ Raising p → s.frames ≡ f ∷ callers → body_of P f.method ≡ Some b
    → IsStepCost P m s c → IsRaiseCost (raise_params m b) c
raise_cost P m s f callers b p c mode frames body h =
    let top = subst (λ (fs : List Frame). IsTopCost P m (Raising p) fs c) frames (subst (λ (md : Ending). IsTopCost P m md s.frames c) mode h) in
    holds_at (body_of P f.method) b (λ u. IsFrameCost P m (Raising p) f u c) body top

-- a run of the sketch to its end, where it stands for s', is the step
comes_raising : RaiseLaws → (P : Program) (pl : Places) (n size : ℕ) (m : machine.MachineState) (answer : Option ℕ) (s s' : State) (object : ℕ) (h : IsStep P pl n size m answer s s') (after : Sketch)
    (r : Reaches n (seen_raise P pl n size m s h.stands) after (env_of m)) (micro stall : ℕ) → s.mode ≡ Raising object → SameRest s s' → after.answers ≡ None ∷ [] → after.output ≡ [] → IsDone after
    → StandsFor P pl n size (conc n after r.env) s' → r.cycles ≡ micro + stall → ((c : ℕ) → IsRaiseCost (raise_params m h.stands.body) c → micro ≤ c) → LooksUp P pl (found_by s s') m (conc n after r.env) stall
    → ComesTo P pl n size m s s'
comes_raising laws P pl n size m answer s s' object h after r micro stall mode rest left put done stands sum cost look_up =
    let st = h.stands in
    let none : List (Option ℕ) = [] in
    let x = seen_raise P pl n size m s st in
    let e = env_of m in
    let k = r.cycles in
    let new = conc n after r.env in
    let sees = raise_is_seen laws P pl n size m answer s s' object h mode in
    let followed : (i j : ℕ) → UsesUp (i + j) (begun m none) → (more : List (Option ℕ)) → (run i (begun m (none ++ more))).state ≡ (run i (begun m none)).state =
    λ i j uses more. ap (λ (z : Scene). z.state) (laws.runs.run_followed i j (begun m none) uses more) in
    let begins : begun m (None ∷ []) ≡ scene n x e = ap (λ (y : machine.MachineState). begun y (None ∷ [])) sees.same in
    let runs : run k (begun m (None ∷ [])) ≡ scene n after r.env = ap (λ (z : Scene). run k z) begins ∙ r.same in
    let all : UsesUp k (begun m none) = uses_up laws.runs k (begun m none) (ap (λ (z : Scene). z.answers) runs ∙ left) in
    let all_of : UsesUp (k + 0) (begun m none) = let U : ℕ → Type 0 = λ j. UsesUp j (begun m none) in subst U (sym (add-zero k)) all in
    let ends : (run k (begun m none)).state ≡ new = sym (followed k 0 all_of (None ∷ [])) ∙ ap (λ (z : Scene). z.state) runs in
    let part : (j : ℕ) → suc j < k → (run (suc j) (begun m none)).state ≡ (run (suc j) (begun m (None ∷ []))).state = λ j l.
    let U : ℕ → Type 0 = λ q. UsesUp q (begun m none) in
    let apart : k ≡ suc j + (k - suc j) = omega (arith, l) in
    sym (followed (suc j) (k - suc j) (subst U apart all) (None ∷ [])) in
    let out : output_during k (begun m none) ≡ reverse after.output =
    sym (laws.runs.output_followed k 0 (begun m none) all_of (None ∷ [])) ∙ sym (reverse-reverse (output_during k (begun m (None ∷ []))))
    ∙ ap reverse (sym (append-nil (reverse (output_during k (begun m (None ∷ []))))) ∙ sym (laws.runs.output_turned k (begun m (None ∷ []))) ∙ ap (λ (z : Scene). z.output) runs) in
    record {
      new = new;
      answers = none;
      took = rest.answers ∙ sym (append-nil s.answers);
      cycles = k;
      positive = r.positive;
      ran = λ more. followed k 0 all_of more ∙ ends;
      left = λ more. all more;
      boundary = r.ending ∙ done.done;
      quiet = λ j l. ap at_boundary (part j l ∙ ap (λ (z : Scene). (run (suc j) z).state) begins) ∙ r.quiet j l;
      stands = stands;
      put = rest.output ∙ sym (append-nil s.output) ∙ ap (λ (ws : List ℕ). s.output ++ ws) (sym (out ∙ ap reverse put));
      micro = micro;
      stall = stall;
      sum = sum;
      cost = λ c is. cost c (raise_cost P m s st.top st.callers st.body object c mode st.frames st.is_body is);
      look_up = look_up;
    }

-- cycles without the stall
record Split (p : CostParams) (cycles : ℕ) (y : Sketch) : Type 0 where
  micro : ℕ
  sum : cycles ≡ micro + stalls y p.r

split : (n : ℕ) (p : CostParams) (x y : Sketch) (e : Env) → StartsAt p RAISE x e → (r : Reaches n x y e) → Split p r.cycles y
split n p x y e h r =
    let tells : Tells x e (begin p RAISE) = record { at = λ done. h.at; port = sym h.idle; left = h.turns; over = sym h.going; fine = refl } in
    let way = r.way p h.read h.write (begin p RAISE) tells in
    record { micro = (walk p way.choices (begin p RAISE)).clock; sum = omega (arith, way.clock, h.none) }

-- ---- a handler is entered

handler_found : (s s' : State) (p : ℕ) (top : Frame) (callers : List Frame) → s.mode ≡ Raising p → s'.mode ≡ Running → s'.frames ≡ top ∷ callers → found_by s s' ≡ Some top.method
handler_found s s' p top callers mode mode' frames =
    ap (λ (md : Ending). found_between s.frames s'.frames md s'.mode) mode ∙ ap (λ (md : Ending). found_between s.frames s'.frames (Raising p) md) mode' ∙ ap top_method frames

pub handler_comes : RaiseLaws → HandlersCome
handler_comes laws P pl n size m answer s s' object target h f y mode r done switches on =
    let st = h.stands in
    let p = raise_params m st.body in
    let x = seen_raise P pl n size m s st in
    let e = r.env in
    let new = conc n y e in
    let k = st.top.method in
    let top : Frame = record st.top { pc = target; operands = Ref object ∷ [] } in
    let words : FrameWords = record st.words { operands = object_place P pl s.objects object ∷ [] } in
    let sees = raise_is_seen laws P pl n size m answer s s' object h mode in
    let parts = split n p x y (env_of m) sees.starts r in
    let stall = stalls y p.r in
    let look = looks laws.packed P pl size m new k st.body f stall (st.room, st.cache, st.copies) st.is_body switches.cache switches.hits switches.misses
    (ap (λ (n : ℕ). n * 4 + y.words * (2 + m.port.read)) switches.loads ∙ ap (λ (n : ℕ). f.loads * 4 + n * (2 + m.port.read)) switches.loaded)
    (is_cached (pl.method k) m.cache) refl on.found in
    let frames = subst (λ (fs : List Frame). formed.AreFrames P (length s'.objects) fs) on.frames h.next_well_formed.frames in
    let frame = holds_at (body_of P k) st.body (formed.IsFrame P (length s'.objects) top) st.is_body frames.0 in
    let within = (laws.standing.starts st.body.code).within_code target frame.start in
    let code = subst (λ o. IfSome o (λ (u : Body). IsCode u.code)) st.is_body (h.says.codes k) in
    let at : IsAtInstruction pl new top st.body = record {
      running = switches.running;
      opcode = switches.opcode ∙ ap (λ (j : ℕ). byte_of (word_of f.method (j / 4) f.cache) (j % 4)) on.jpc
          ∙ ap (λ (j : ℕ). byte_of (word_of j (target / 4) f.cache) (target % 4)) on.method
          ∙ ap (λ (c : Cache). byte_of (word_of (pl.method k) (target / 4) c) (target % 4)) (sym switches.cache)
          ∙ byte_is P pl y.cache k st.body target laws.standing.bytes h.says look.0.2 st.is_body look.1;
      mpc = switches.mpc;
      jpc = switches.jpc ∙ ap (λ (j : ℕ). (j + 1) % 2 ^ 16) on.jpc ∙ mod-eq_of_lt (omega (arith, within, code.short));
      operand = switches.operand;
      method = switches.method ∙ on.method;
      cached = ap (λ (j : ℕ). is_cached j y.cache) (switches.method ∙ on.method) ∙ look.1;
    } in
    let list : registers_of P pl n size s st.top (object_place P pl s.objects object) ≡ registers_of P pl n size s' top (object_place P pl s.objects object) =
    ap (λ (fs : List Frame). registers_of P pl n size (record s { frames = fs }) st.top (object_place P pl s.objects object)) st.frames
    ∙ ap (λ (fs : List Frame). registers_of P pl n size (record s { frames = fs }) st.top (object_place P pl s.objects object)) (sym on.frames)
    ∙ ap (λ (os : List Object). registers_of P pl n size (record s' { objects = os }) st.top (object_place P pl s.objects object)) (sym on.rest.objects) in
    let stands = stand_there laws.standing.words P pl n size s' y e (record {
      is_size = st.sizes.is_size;
      shape = r.shape;
      as_many = ap length (switches.memory ∙ on.memory) ∙ st.sizes.memory;
      small = st.sizes.small;
      most = st.sizes.most;
      room = look.0.0;
      idle = port_idle y.busy e done.idle r.port;
      top = top;
      callers = st.callers;
      frames = on.frames;
      body = st.body;
      is_body = st.is_body;
      words = words;
      below = st.below;
      left = [];
      are_frames = subst (λ (os : List Object). AreWordsOfFrames P pl (object_place P pl os) (top ∷ st.callers) (words ∷ st.below)) (sym on.rest.objects)
          (record { locals = st.are_frames.0.locals; saved = st.are_frames.0.saved; operands = (refl, tt) }, st.are_frames.1);
      are_left = subst (λ (md : Ending). AreLeftWords md st.body []) (sym on.mode) refl;
      stack = in_order (stacked st.below) st.words.locals st.words.saved words.operands [] y.deep (words_of y) (switches.deep ∙ on.deep ∙ sees.deep) (switches.words ∙ on.stack);
      vp = switches.vp ∙ on.vp ∙ st.vp;
      raised = object_place P pl s.objects object;
      low = switches.low ∙ on.low ∙ sees.low ∙ list;
      memory = switches.memory ∙ on.memory ∙ st.memory ∙ same_memory P pl size s s' on.rest;
      cache = look.0.1;
      copies = look.0.2;
      at = subst (λ (md : Ending). IsAt P pl new s' top st.body md) (sym on.mode) at;
    }) in
    comes_raising laws P pl n size m answer s s' object h y r parts.micro stall mode on.rest (switches.answers ∙ on.answers) (switches.output ∙ on.output) done stands parts.sum
    (λ c is. omega (arith, laws.costs p c n x y (env_of m) sees.starts r done is, parts.sum))
    (subst (λ o. LooksUp P pl o m new stall) (sym (handler_found s s' object top st.callers mode on.mode on.frames))
    (subst (λ o. IsSomeAnd o (λ (u : Body). Found (is_cached (pl.method k) m.cache) (pl.method k) (words_of_bytes u.code) m new stall)) (sym st.is_body) look.2))

-- ---- the frame is dropped

still_raising : (s s' : State) (p q : ℕ) → s.mode ≡ Raising p → s'.mode ≡ Raising q → found_by s s' ≡ None
still_raising s s' p q mode mode' = ap (λ (md : Ending). found_between s.frames s'.frames md s'.mode) mode ∙ ap (λ (md : Ending). found_between s.frames s'.frames (Raising p) md) mode'

none_found : (s s' : State) (p c : ℕ) → s.mode ≡ Raising p → s'.mode ≡ Uncaught c → found_by s s' ≡ None
none_found s s' p c mode mode' = ap (λ (md : Ending). found_between s.frames s'.frames md s'.mode) mode ∙ ap (λ (md : Ending). found_between s.frames s'.frames (Raising p) md) mode'

-- the place of the object, on the chip
raised_is : (low rest : List ℕ) (P : Program) (pl : Places) (n size : ℕ) (s : State) (f : Frame) (raised : ℕ) → length low ≡ 32 → drop 24 low ≡ registers_of P pl n size s f raised → slice_index (low ++ rest) 31 ≡ raised
raised_is low rest P pl n size s f raised long is = low_at low rest 7 long (omega arith) ∙ ap (λ (ws : List ℕ). slice_index ws 7) is

pub drop_comes : RaiseLaws → DropsCome
drop_comes laws P pl n size m answer s s' object h y mode r done on =
    let st = h.stands in
    let p = raise_params m st.body in
    let x = seen_raise P pl n size m s st in
    let e = r.env in
    let new = conc n y e in
    let caller = on.caller in
    let top : Frame = record caller { operands = [] } in
    let words : FrameWords = record on.words { operands = [] } in
    let raised = object_place P pl s.objects object in
    let sees = raise_is_seen laws P pl n size m answer s s' object h mode in
    let has = same_cache P pl n size m s y.cache st on.cache in
    let are = subst (λ (fs : List Frame). AreWordsOfFrames P pl (object_place P pl s.objects) fs (on.words ∷ on.below)) on.callers
    (subst (λ (ws : List FrameWords). AreWordsOfFrames P pl (object_place P pl s.objects) st.callers ws) on.belows st.are_frames.1) in
    let behind = (constants ++ y.deep) ++ reverse_aux y.under y.above in
    let some = on.some in
    let at : IsAtRaise P pl new s' top object = record {
      running = on.running;
      mpc = on.mpc;
      jpc = subst (λ o. IsSomeAnd o (λ (j : Instr). (caller.pc < y.jpc) × (y.jpc ≤ caller.pc + j.length))) (sym on.is_called)
          (subst (λ (k : ℕ). (caller.pc < k) × (k ≤ caller.pc + on.called.length)) (sym on.jpc) (omega arith, omega arith));
      raised = ap (λ (ws : List ℕ). slice_index ws 31) (append_assoc y.low (constants ++ y.deep) (reverse_aux y.under y.above)) ∙ raised_is y.low behind P pl n size s' caller raised r.shape.low on.low
          ∙ ap (λ (os : List Object). object_place P pl os object) (sym on.rest.objects);
    } in
    let stands = stand_there laws.standing.words P pl n size s' y e (record {
      is_size = st.sizes.is_size;
      shape = r.shape;
      as_many = ap length on.memory ∙ st.sizes.memory;
      small = st.sizes.small;
      most = st.sizes.most;
      room = has.0;
      idle = port_idle y.busy e done.idle r.port;
      top = top;
      callers = on.others;
      frames = on.frames;
      body = on.body;
      is_body = on.is_body;
      words = words;
      below = on.below;
      left = reverse on.words.operands;
      are_frames = subst (λ (os : List Object). AreWordsOfFrames P pl (object_place P pl os) (top ∷ on.others) (words ∷ on.below)) (sym on.rest.objects)
          (record { locals = are.0.locals; saved = are.0.saved; operands = tt }, are.1);
      are_left = subst (λ (md : Ending). AreLeftWords md on.body (reverse on.words.operands)) (sym on.mode) (omega (arith, length-reverse on.words.operands, on.few));
      stack = in_order (stacked on.below) on.words.locals on.words.saved [] on.words.operands y.deep (words_of y) on.deep
          (on.stack ∙ ap (λ (ws : List ℕ). ws ++ reverse on.words.saved) (sym (append-nil on.words.operands)));
      vp = on.vp;
      raised = raised;
      low = on.low;
      memory = on.memory ∙ st.memory ∙ same_memory P pl size s s' on.rest;
      cache = has.1;
      copies = has.2;
      at = subst (λ (md : Ending). IsAt P pl new s' top on.body md) (sym on.mode) at;
    }) in
    comes_raising laws P pl n size m answer s s' object h y r r.cycles 0 mode on.rest on.answers on.output done stands (sym (add-zero r.cycles))
    (λ c is. omega (arith, laws.costs p c n x y (env_of m) sees.starts r done is, no_stalls y p.r on.loads on.loaded))
    (subst (λ o. LooksUp P pl o m new 0) (sym (still_raising s s' object object mode on.mode)) (refl, on.cache, on.hits, on.misses))

-- ---- none caught it

pub uncaught_comes : RaiseLaws → UncaughtCome
uncaught_comes laws P pl n size m answer s s' object c o h y mode r done halted ended frames rest is kind =
    let st = h.stands in
    let p = raise_params m st.body in
    let x = seen_raise P pl n size m s st in
    let e = r.env in
    let new = conc n y e in
    let raised = object_place P pl s.objects object in
    let sees = raise_is_seen laws P pl n size m answer s s' object h mode in
    let has = same_cache P pl n size m s y.cache st halted.kept.cache in
    let few = few_left s.mode st.body st.left object mode st.are_left in
    let list : registers_of P pl n size s st.top raised ≡ registers_of P pl n size s' st.top raised =
    ap (λ (fs : List Frame). registers_of P pl n size (record s { frames = fs }) st.top raised) (sym frames)
    ∙ ap (λ (os : List Object). registers_of P pl n size (record s' { objects = os }) st.top raised) (sym rest.objects) in
    let low : drop 24 y.low ≡ registers_of P pl n size s' st.top raised = halted.low ∙ sees.low ∙ list in
    let behind = (constants ++ y.deep) ++ reverse_aux y.under y.above in
    let none = no_operands P pl n size m s st object h.well_formed mode in
    let at : IsAtUncaught P pl new s' c = record {
      halted = halted.halt;
      object = object;
      raised = ap (λ (ws : List ℕ). slice_index ws 31) (append_assoc y.low (constants ++ y.deep) (reverse_aux y.under y.above)) ∙ raised_is y.low behind P pl n size s' st.top raised r.shape.low low
          ∙ ap (λ (os : List Object). object_place P pl os object) (sym rest.objects);
      class = subst (λ (os : List Object). IsSomeAnd (slice_get os object) (λ (u : Object). kind_of P u ≡ Some (OfClass c))) (sym rest.objects)
          (subst (λ q. IsSomeAnd q (λ (u : Object). kind_of P u ≡ Some (OfClass c))) (sym is) kind);
    } in
    let stands = stand_there laws.standing.words P pl n size s' y e (record {
      is_size = st.sizes.is_size;
      shape = r.shape;
      as_many = ap length halted.memory ∙ st.sizes.memory;
      small = st.sizes.small;
      most = st.sizes.most;
      room = has.0;
      idle = port_idle y.busy e done.idle r.port;
      top = st.top;
      callers = st.callers;
      frames = frames ∙ st.frames;
      body = st.body;
      is_body = st.is_body;
      words = st.words;
      below = st.below;
      left = st.left;
      are_frames = subst (λ (os : List Object). AreWordsOfFrames P pl (object_place P pl os) (st.top ∷ st.callers) (st.words ∷ st.below)) (sym rest.objects) st.are_frames;
      are_left = subst (λ (md : Ending). AreLeftWords md st.body st.left) (sym ended) few;
      stack = ap (λ (ws : List ℕ). ws ++ reverse (words_of y)) (halted.deep ∙ sees.deep) ∙ ap (λ (ws : List ℕ). (stacked st.below ++ st.words.locals) ++ reverse ws) (halted.words ∙ sees.words)
          ∙ ap (λ (ws : List ℕ). (stacked st.below ++ st.words.locals) ++ ws) (reverse-append (reverse st.left) (reverse st.words.saved)
          ∙ ap (λ (ws : List ℕ). ws ++ reverse (reverse st.left)) (reverse-reverse st.words.saved) ∙ ap (λ (ws : List ℕ). st.words.saved ++ ws) (reverse-reverse st.left))
          ∙ sym (in_two (stacked st.below) st.words.locals st.words.saved st.words.operands st.left none);
      vp = halted.kept.vp ∙ st.vp;
      raised = raised;
      low = low;
      memory = halted.memory ∙ st.memory ∙ same_memory P pl size s s' rest;
      cache = has.1;
      copies = has.2;
      at = subst (λ (md : Ending). IsAt P pl new s' st.top st.body md) (sym ended) at;
    }) in
    comes_raising laws P pl n size m answer s s' object h y r r.cycles 0 mode rest halted.answers halted.output done stands (sym (add-zero r.cycles))
    (λ k cost. omega (arith, laws.costs p k n x y (env_of m) sees.starts r done cost, no_stalls y p.r halted.kept.loads halted.kept.loaded))
    (subst (λ q. LooksUp P pl q m new 0) (sym (none_found s s' object c mode ended)) (refl, halted.kept.cache, halted.kept.hits, halted.kept.misses))
