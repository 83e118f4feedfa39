-- Rows that go on in another frame.
use Rattle.std.proofs.Common.{◌≡◌, ℕ, ◌+◌, ◌*◌, ◌/◌, ◌%◌, ◌^◌, Bool, true, false, ◌==◌, if◌then◌else◌, List, [], ◌∷◌, ◌++◌, Some, None, length, reverse, refl, sym, ◌∙◌, ap, subst, arith}
use Rattle.std.specs.Prelude.{IsSomeAnd, IfSome, slice_index}
use Rattle.std.specs.declared.option.Option.{Option}
use Rattle.std.proofs.lemmas.List.{append-nil}
use Rattle.std.proofs.Math.Nat.{mod-eq_of_lt}
use Rattle.lists.proofs.Lemmas.{holds_at}
use Rattle.base.specs.Packed.{byte_of, words_of_bytes, PackedHasWords}
use Rattle.method_cache.specs.Contents.{Cache, is_cached, loaded, word_of}
use Rattle.microcode.specs.declared.TheConstants.{ENTRIES}
use Rattle.micro_flow.specs.declared.CostParams.{CostParams}
use Rattle.micro_flow.specs.Walk.{begin, walk}
use Rattle.opcodes.specs.declared.instruction.Instr.{Instr}
use Rattle.jop_core.specs.State as machine
use Rattle.jop_core.specs.Operations.{load_stall}
use Rattle.micro_sketch.specs.Sketch.{Sketch}
use Rattle.micro_sketch.specs.Stands.{Env, Reaches, Tells, conc, stalls}
use Rattle.micro_sketch.specs.Laws.{AtEntry}
use Rattle.micro_sketch.specs.View.{env_of}
use Rattle.micro_sketch.specs.Row.{words_of}
use Rattle.micro_sketch.specs.Rows.{Switch, RunsSwitch}
use Rattle.bytecode_model.specs.declared.Ending.{Ending}
use Rattle.bytecode_model.specs.declared.Ending.TheVariants.{Running}
use Rattle.bytecode_model.specs.State.{Frame, State}
use Rattle.bytecode_model.specs.Program.{Program, Body, body_of, instr_at}
use Rattle.bytecode_model.specs.WellFormed as formed
use Rattle.image_facts.specs.Places.{Places}
use Rattle.image_facts.specs.Says.{IsCode}
use Rattle.machine_stands.specs.Frames.{stacked}
use Rattle.machine_stands.specs.StandsFor.{AreLeftWords, IsAt, IsAtInstruction}
use Rattle.machine_stands.specs.Comes.{params, found_between, found_by, top_method, Found, LooksUp, ComesTo}
use Rattle.machine_stands.specs.Simulates.{IsStep}
use Rattle.machine_stands.specs.Seen.{seen}
use Rattle.machine_stands.specs.Switching.{FindsBy, SwitchesOn}
use Rattle.machine_stands.proofs.Copies.{byte_is}
use Rattle.machine_stands.proofs.Standing.{StandingLaws, HasCache, stand_there, in_order}
use Rattle.machine_stands.proofs.Loading.{load}
use Rattle.machine_stands.proofs.Stopping.{same_memory}
use Rattle.machine_stands.proofs.Coming.{ComingLaws, port_idle, comes_by}

-- ---- the look-up

pub looks : PackedHasWords → (P : Program) (pl : Places) (size : ℕ) (m new : machine.MachineState) (k : ℕ) (b : Body) (f : Switch) (stall : ℕ) → HasCache P pl size m.cache → body_of P k ≡ Some b
    → new.cache ≡ f.cache → new.hits ≡ f.hits → new.misses ≡ f.misses → stall ≡ f.loads * 4 + f.loaded * (2 + m.port.read)
    → (hit : Bool) → is_cached (pl.method k) m.cache ≡ hit → FindsBy hit (pl.method k) (words_of_bytes b.code) m f
    → HasCache P pl size new.cache × (is_cached (pl.method k) new.cache ≡ true) × Found hit (pl.method k) (words_of_bytes b.code) m new stall
looks packed P pl size m new k b f stall has body cache hits misses stalls true is h =
    let same : new.cache ≡ m.cache = cache ∙ h.0 in
    let none : stall ≡ 0 = stalls ∙ ap (λ (n : ℕ). n * 4 + f.loaded * (2 + m.port.read)) h.3 ∙ ap (λ (n : ℕ). 0 * 4 + n * (2 + m.port.read)) h.4 ∙ omega arith in
    (subst (λ (c : Cache). HasCache P pl size c) (sym same) has, ap (λ (c : Cache). is_cached (pl.method k) c) same ∙ is, (none, same, hits ∙ h.1, misses ∙ h.2))
looks packed P pl size m new k b f stall has body cache hits misses stalls false is h =
    let same : new.cache ≡ loaded (pl.method k) (words_of_bytes b.code) m.cache = cache ∙ h.0 in
    let got = load packed P pl size m.cache k b has body is in
    let long : stall ≡ load_stall m.port (length (words_of_bytes b.code)) =
    stalls ∙ ap (λ (n : ℕ). n * 4 + f.loaded * (2 + m.port.read)) h.3 ∙ ap (λ (n : ℕ). 1 * 4 + n * (2 + m.port.read)) h.4 ∙ omega arith in
    (subst (λ (c : Cache). HasCache P pl size c) (sym same) got.0, ap (λ (c : Cache). is_cached (pl.method k) c) same ∙ got.1, (long, same, hits ∙ h.1, misses ∙ h.2))

-- ---- cycles without the stall

pub record Split (p : CostParams) (cycles : ℕ) (y : Sketch) : Type 0 where
  pub micro : ℕ
  pub sum : cycles ≡ micro + stalls y p.r

split : (n : ℕ) (p : CostParams) (op : ℕ) (x y : Sketch) (e : Env) → AtEntry p op x e → (r : Reaches n x y e) → Split p r.cycles y
split n p op x y e h r =
    let at = slice_index ENTRIES op in
    let tells : Tells x e (begin p at) = record { at = λ done. h.at; port = sym h.idle; left = h.turns; over = sym h.going; fine = refl } in
    let way = r.way p h.read h.write (begin p at) tells in
    record { micro = (walk p way.choices (begin p at)).clock; sum = omega (arith, way.clock, h.none) }

-- ---- the step

other_found : (s s' : State) (top : Frame) (callers : List Frame) → s.mode ≡ Running → s'.mode ≡ Running → s'.frames ≡ top ∷ callers → (length s.frames == length s'.frames) ≡ false → found_by s s' ≡ Some top.method
other_found s s' top callers mode mode' frames other =
    ap (λ (md : Ending). found_between s.frames s'.frames md s'.mode) mode ∙ ap (λ (md : Ending). found_between s.frames s'.frames Running md) mode'
    ∙ ap (λ (b : Bool). if b then None else top_method s'.frames) other ∙ ap top_method frames

pub switch_comes : StandingLaws → PackedHasWords → ComingLaws → (P : Program) (pl : Places) (n size : ℕ) (m : machine.MachineState) (answer : Option ℕ) (s s' : State) (h : IsStep P pl n size m answer s s') (i : Instr) (f : Switch)
    → s.mode ≡ Running → instr_at P h.stands.top.method h.stands.top.pc ≡ Some i → SwitchesOn P pl n size m s s' f
    → RunsSwitch n (params m i.count 0) m.opcode f (seen (params m i.count 0) (None ∷ []) m h.stands.words h.stands.below) (env_of m)
    → ComesTo P pl n size m s s'
switch_comes laws packed coming P pl n size m answer s s' h i f mode instr on r =
    let st = h.stands in
    let p = params m i.count 0 in
    let x = seen p (None ∷ []) m st.words st.below in
    let y = r.after in
    let e = r.reaches.env in
    let new = conc n y e in
    let k = on.top.method in
    let sees = coming.seen P pl n size m s p (None ∷ []) st h.well_formed mode refl refl in
    let parts = split n p m.opcode x y (env_of m) sees.stands.entry r.reaches in
    let stall = stalls y p.r in
    let look = looks packed P pl size m new k on.body f stall (st.room, st.cache, st.copies) on.is_body r.switches.cache r.switches.hits r.switches.misses
    (ap (λ (n : ℕ). n * 4 + y.words * (2 + m.port.read)) r.switches.loads ∙ ap (λ (n : ℕ). f.loads * 4 + n * (2 + m.port.read)) r.switches.loaded)
    (is_cached (pl.method k) m.cache) refl on.found in
    let frames = subst (λ (fs : List Frame). formed.AreFrames P (length s'.objects) fs) on.frames h.next_well_formed.frames in
    let frame = holds_at (body_of P k) on.body (formed.IsFrame P (length s'.objects) on.top) on.is_body frames.0 in
    let within = (laws.starts on.body.code).within_code on.top.pc frame.start in
    let code = subst (λ o. IfSome o (λ (u : Body). IsCode u.code)) on.is_body (h.says.codes k) in
    let at : IsAtInstruction pl new on.top on.body = record {
      running = r.switches.running;
      opcode = r.switches.opcode ∙ ap (λ (j : ℕ). byte_of (word_of f.method (j / 4) f.cache) (j % 4)) on.jpc
          ∙ ap (λ (j : ℕ). byte_of (word_of j (on.top.pc / 4) f.cache) (on.top.pc % 4)) on.method
          ∙ ap (λ (c : Cache). byte_of (word_of (pl.method k) (on.top.pc / 4) c) (on.top.pc % 4)) (sym r.switches.cache)
          ∙ byte_is P pl y.cache k on.body on.top.pc laws.bytes h.says look.0.2 on.is_body look.1;
      mpc = r.switches.mpc;
      jpc = r.switches.jpc ∙ ap (λ (j : ℕ). (j + 1) % 2 ^ 16) on.jpc ∙ mod-eq_of_lt (omega (arith, within, code.short));
      operand = r.switches.operand;
      method = r.switches.method ∙ on.method;
      cached = ap (λ (j : ℕ). is_cached j y.cache) (r.switches.method ∙ on.method) ∙ look.1;
    } in
    let stands = stand_there laws.words P pl n size s' y e (record {
      is_size = st.sizes.is_size;
      shape = r.reaches.shape;
      as_many = ap length (r.switches.memory ∙ on.memory) ∙ st.sizes.memory;
      small = st.sizes.small;
      most = st.sizes.most;
      room = look.0.0;
      idle = port_idle y.busy e r.done.idle r.reaches.port;
      top = on.top;
      callers = on.callers;
      frames = on.frames;
      body = on.body;
      is_body = on.is_body;
      words = on.words;
      below = on.below;
      left = [];
      are_frames = on.are_frames;
      are_left = subst (λ (md : Ending). AreLeftWords md on.body []) (sym on.mode) refl;
      stack = in_order (stacked on.below) on.words.locals on.words.saved on.words.operands [] y.deep (words_of y) (r.switches.deep ∙ on.deep) (r.switches.words ∙ on.stack);
      vp = r.switches.vp ∙ on.vp;
      raised = on.raised;
      low = r.switches.low ∙ on.low;
      memory = r.switches.memory ∙ on.memory ∙ st.memory ∙ same_memory P pl size s s' on.rest;
      cache = look.0.1;
      copies = look.0.2;
      at = subst (λ (md : Ending). IsAt P pl new s' on.top on.body md) (sym on.mode) at;
    }) in
    comes_by coming P pl n size m answer s s' h i [] y r.reaches parts.micro stall mode instr (on.rest.answers ∙ sym (append-nil s.answers)) (r.switches.answers ∙ on.answers)
    (on.rest.output ∙ sym (append-nil s.output) ∙ ap (λ (ws : List ℕ). s.output ++ reverse ws) (sym (r.switches.output ∙ on.output))) r.done stands parts.sum
    (λ c is. omega (arith, r.cost c is, parts.sum))
    (subst (λ o. LooksUp P pl o m new stall) (sym (other_found s s' on.top on.callers mode on.mode on.frames on.other))
    (subst (λ o. IsSomeAnd o (λ (u : Body). Found (is_cached (pl.method k) m.cache) (pl.method k) (words_of_bytes u.code) m new stall)) (sym on.is_body) look.2))
