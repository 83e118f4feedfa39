-- Steps of the raise routine (JVM Specification SE 8, 2.10), from what it makes of the words of the top frame to where the machine stands for the next state.
use Rattle.std.specs.Prelude.{◌≡◌, ℕ, ◌+◌, ◌≤◌, List, [], ◌∷◌, ◌++◌, length, drop, reverse, slice_get, Some, None}
use Rattle.std.specs.declared.option.Option.{Option}
use Rattle.base.specs.Packed.{words_of_bytes}
use Rattle.method_cache.specs.Contents.{is_cached}
use Rattle.microcode.specs.declared.TheConstants.{RAISE}
use Rattle.micro_flow.specs.declared.CostParams.{CostParams}
use Rattle.opcodes.specs.declared.instruction.Instr.{Instr}
use Rattle.jop_core.specs.declared.halt.Halt.TheVariants as halts
use Rattle.jop_core.specs.State as machine
use Rattle.micro_sketch.specs.Sketch.{Sketch}
use Rattle.micro_sketch.specs.Stands.{Shaped, Reaches, IsDone, conc}
use Rattle.micro_sketch.specs.Laws.{StartsAt}
use Rattle.micro_sketch.specs.View.{sketch_of, env_of}
use Rattle.micro_sketch.specs.Row.{words_of, begins_row}
use Rattle.micro_sketch.specs.Rows.{Switch, Switches, Halts}
use Rattle.bytecode_model.specs.declared.Value.TheVariants.{Ref}
use Rattle.bytecode_model.specs.declared.Ending.TheVariants.{Running, Raising, Uncaught}
use Rattle.bytecode_model.specs.Types.{OfClass}
use Rattle.bytecode_model.specs.State.{Object, Frame, State}
use Rattle.bytecode_model.specs.Program.{Program, Body, body_of, instr_at, kind_of}
use Rattle.image_facts.specs.Places.{Places, object_place}
use Rattle.machine_stands.specs.Frames.{FrameWords, stacked, vp_over}
use Rattle.machine_stands.specs.StandsFor.{StandsFor}
use Rattle.machine_stands.specs.Comes.{params, ComesTo}
use Rattle.machine_stands.specs.Simulates.{IsStep}
use Rattle.machine_stands.specs.Again.{registers_of}
use Rattle.machine_stands.specs.Stopping.{SameRest}
use Rattle.machine_stands.specs.Switching.{FindsBy}

-- ---- the machine at the raise routine, as a sketch

-- its stack are the words that are left above those that the top frame saves, and these
abbrev pub seen_raising : CostParams → machine.MachineState → FrameWords → List FrameWords → (left : List ℕ) → Sketch
seen_raising p m w below left = begins_row p (sketch_of (length (stacked below) + length w.locals) (length left + 3) (None ∷ []) m)

pub record IsSeenRaising (P : Program) (pl : Places) (n size : ℕ) (m : machine.MachineState) (s : State) (st : StandsFor P pl n size m s) (object : ℕ)
    (p : CostParams)
    (x : Sketch) : Type 0 where
  pub same : m ≡ conc n x (env_of m)
  pub shape : Shaped n x
  pub starts : StartsAt p RAISE x (env_of m)
  pub mpc : x.mpc ≡ RAISE
  pub running : x.halt ≡ halts.Running
  pub above : 16 ≤ length x.above
  pub words : words_of x ≡ reverse st.left ++ reverse st.words.saved
  pub deep : x.deep ≡ stacked st.below ++ st.words.locals
  pub saved : length st.words.saved ≡ 5
  pub locals : length st.words.locals ≡ st.body.max_locals
  -- the places from 24 to 31, the last of which has the place of the object
  pub low : drop 24 x.low ≡ registers_of P pl n size s st.top (object_place P pl s.objects object)

-- with the memory's timing, and as many turns as the method has entries in its exception table
abbrev pub raise_params : machine.MachineState → Body → CostParams
raise_params m b = params m 0 (length b.handlers)

abbrev pub seen_raise : (P : Program) (pl : Places) (n size : ℕ) (m : machine.MachineState) (s : State) → StandsFor P pl n size m s → Sketch
seen_raise P pl n size m s st = seen_raising (raise_params m st.body) m st.words st.below st.left

abbrev pub RaisesAreSeen : Type 0
RaisesAreSeen = (P : Program) (pl : Places) (n size : ℕ) (m : machine.MachineState) (answer : Option ℕ) (s s' : State) (object : ℕ)
    (h : IsStep P pl n size m answer s s') → s.mode ≡ Raising object
    → IsSeenRaising P pl n size m s h.stands object (raise_params m h.stands.body) (seen_raise P pl n size m s h.stands)

-- ---- a handler is entered

-- the place of the object is on top of the saved words, and the method is looked up
pub record HandlesOn (P : Program) (pl : Places) (n size : ℕ) (m : machine.MachineState) (s s' : State) (st : StandsFor P pl n size m s) (object target : ℕ)
    (x : Sketch) (f : Switch) : Type 0 where
  pub mode : s'.mode ≡ Running
  pub frames : s'.frames ≡ record st.top { pc = target; operands = Ref object ∷ [] } ∷ st.callers
  pub rest : SameRest s s'
  pub stack : f.words ≡ object_place P pl s.objects object ∷ reverse st.words.saved
  pub deep : f.deep ≡ x.deep
  pub vp : f.vp ≡ x.vp
  pub low : f.low ≡ drop 24 x.low
  pub memory : f.memory ≡ x.memory
  pub jpc : f.jpc ≡ target
  pub method : f.method ≡ pl.method st.top.method
  pub found : FindsBy (is_cached (pl.method st.top.method) m.cache) (pl.method st.top.method) (words_of_bytes st.body.code) m f
  pub answers : f.answers ≡ None ∷ []
  pub output : f.output ≡ []

abbrev pub HandlersCome : Type 0
HandlersCome = (P : Program) (pl : Places) (n size : ℕ) (m : machine.MachineState) (answer : Option ℕ) (s s' : State) (object target : ℕ)
    (h : IsStep P pl n size m answer s s') (f : Switch) (y : Sketch) → let x = seen_raise P pl n size m s h.stands in
    s.mode ≡ Raising object → Reaches n x y (env_of m) → IsDone y → Switches f x y → HandlesOn P pl n size m s s' h.stands object target x f
    → ComesTo P pl n size m s s'

-- ---- the frame is dropped

-- y is x at the raise routine, where the caller's frame is the top one, and its operands are left
pub record DropsOn (P : Program) (pl : Places) (n size : ℕ) (m : machine.MachineState) (s s' : State) (st : StandsFor P pl n size m s) (object : ℕ)
    (y : Sketch) : Type 0 where
  pub caller : Frame
  pub others : List Frame
  pub words : FrameWords
  pub below : List FrameWords
  pub callers : st.callers ≡ caller ∷ others
  pub belows : st.below ≡ words ∷ below
  pub body : Body
  pub is_body : body_of P caller.method ≡ Some body
  pub called : Instr
  pub is_called : instr_at P caller.method caller.pc ≡ Some called
  pub some : 1 ≤ called.length
  pub few : length words.operands ≤ body.max_stack
  pub mode : s'.mode ≡ Raising object
  pub frames : s'.frames ≡ record caller { operands = [] } ∷ others
  pub rest : SameRest s s'
  -- what the routine makes
  pub mpc : y.mpc ≡ RAISE
  pub running : y.halt ≡ halts.Running
  pub stack : words_of y ≡ words.operands ++ reverse words.saved
  pub deep : y.deep ≡ stacked below ++ words.locals
  pub vp : y.vp ≡ vp_over below
  pub low : drop 24 y.low ≡ registers_of P pl n size s' caller (object_place P pl s.objects object)
  pub memory : y.memory ≡ m.port.words
  pub jpc : y.jpc ≡ caller.pc + called.length
  pub answers : y.answers ≡ None ∷ []
  pub output : y.output ≡ []
  pub cache : y.cache ≡ m.cache
  pub hits : y.hits ≡ m.hits
  pub misses : y.misses ≡ m.misses
  pub loads : y.loads ≡ 0
  pub loaded : y.words ≡ 0

abbrev pub DropsCome : Type 0
DropsCome = (P : Program) (pl : Places) (n size : ℕ) (m : machine.MachineState) (answer : Option ℕ) (s s' : State) (object : ℕ)
    (h : IsStep P pl n size m answer s s')
    (y : Sketch) → let x = seen_raise P pl n size m s h.stands in
    s.mode ≡ Raising object → Reaches n x y (env_of m) → IsDone y → DropsOn P pl n size m s s' h.stands object y → ComesTo P pl n size m s s'

-- ---- none caught it

abbrev pub UncaughtCome : Type 0
UncaughtCome = (P : Program) (pl : Places) (n size : ℕ) (m : machine.MachineState) (answer : Option ℕ) (s s' : State) (object c : ℕ) (o : Object)
    (h : IsStep P pl n size m answer s s') (y : Sketch) → let x = seen_raise P pl n size m s h.stands in
    s.mode ≡ Raising object → Reaches n x y (env_of m) → IsDone y → Halts halts.Uncaught x y → s'.mode ≡ Uncaught c → s'.frames ≡ s.frames → SameRest s s'
    → slice_get s.objects object ≡ Some o → kind_of P o ≡ Some (OfClass c) → ComesTo P pl n size m s s'
