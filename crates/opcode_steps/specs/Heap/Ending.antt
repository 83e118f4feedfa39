-- How a row ends, from what it computes on the sketch at its opcode's entry to where the machine stands for the next state.
use Rattle.std.specs.Prelude.{◌≡◌, ℕ, ◌+◌, ◌<◌, ◌≤◌, Bool, true, List, [], ◌∷◌, ◌++◌, length, reverse, None}
use Rattle.std.specs.declared.option.Option.{Option}
use Rattle.micro_flow.specs.declared.CostParams.{CostParams}
use Rattle.opcodes.specs.declared.instruction.Instr.{Instr}
use Rattle.jop_core.specs.State as machine
use Rattle.micro_sketch.specs.Sketch.{Sketch}
use Rattle.micro_sketch.specs.Stands.{Env}
use Rattle.micro_sketch.specs.Row as row
use Rattle.micro_sketch.specs.Row.{StandsAt, unchanged}
use Rattle.micro_sketch.specs.Rows.{Makes, Raising, entered}
use Rattle.bytecode_model.specs.declared.Value.{Value}
use Rattle.bytecode_model.specs.declared.Ending.TheVariants.{Running}
use Rattle.bytecode_model.specs.State.{Object, State}
use Rattle.bytecode_model.specs.Program.{Program}
use Rattle.bytecode_model.specs.Rows.{Row}
use Rattle.bytecode_model.specs.Effects.{Go, Fault, fault, effect}
use Rattle.bytecode_model.specs.Steps.{with_top}
use Rattle.image_facts.specs.Places.{Places, object_place}
use Rattle.machine_stands.specs.Frames.{AreOperands}
use Rattle.machine_stands.specs.StandsFor.{limits_of, memory_of}
use Rattle.machine_stands.specs.Comes.{params, ComesTo}
use Rattle.machine_stands.specs.Simulates.{IsStep}
use Rattle.machine_stands.specs.Seen.{seen}
use Rattle.machine_stands.specs.Reading.{IsAtRow}
use Rattle.opcode_steps.specs.Heap.Writing.{SamePlaces}
use Rattle.opcode_steps.specs.Heap.Raising.{MakesRaise, raised_by}

-- A row that is shown of every sketch at the opcode's entry holds of the one that the machine is.
abbrev pub RowsAreMade : Type 0
RowsAreMade = (n : ℕ) (p : CostParams) (op : ℕ) (x : Sketch) (e : Env) (m : machine.MachineState) (f : Sketch → row.Effect) (allowed : Sketch → Bool)
    → StandsAt n p m.opcode x e m → m.opcode ≡ op
    → ((y : Sketch) → allowed (entered op y) ≡ true → Makes (f (entered op y)) (entered op y)) → allowed x ≡ true → Makes (f x) x

abbrev pub RaisesAreMade : Type 0
RaisesAreMade = (n : ℕ) (p : CostParams) (op : ℕ) (x : Sketch) (e : Env) (m : machine.MachineState) (f : Sketch → Raising) (allowed : Sketch → Bool)
    → StandsAt n p m.opcode x e m → m.opcode ≡ op
    → ((y : Sketch) → allowed (entered op y) ≡ true → MakesRaise (f (entered op y)) (entered op y)) → allowed x ≡ true → MakesRaise (f x) x

-- A row that leaves the words of some operands above those that the frame saves, and changes nothing else, goes on behind the instruction.
abbrev pub RowsGoOn : Type 0
RowsGoOn = (P : Program) (pl : Places) (n size : ℕ) (m : machine.MachineState) (answer : Option ℕ) (s s' : State) (h : IsStep P pl n size m answer s s')
    (i : Instr)
    (r : Row) (ops : List Value) (ws words : List ℕ) (jpc : ℕ)
    → let x = seen (params m i.count 0) (None ∷ []) m h.stands.words h.stands.below in
    s.mode ≡ Running → IsAtRow P pl n size m answer s s' h.stands i r
    → effect P (limits_of P pl n size) s h.stands.top (h.stands.top.pc + i.length) r ≡ Go (h.stands.top.pc + i.length) h.stands.top.locals ops
    → AreOperands (object_place P pl s.objects) ops ws → words ≡ ws ++ reverse h.stands.words.saved → jpc ≡ h.stands.top.pc + i.length
    → Makes (record (unchanged x) { words = words; jpc = jpc }) x → ComesTo P pl n size m s s'

-- So does one that also makes the memory of a state with other static fields or objects, which lie where they did.
abbrev pub RowsWrite : Type 0
RowsWrite = (P : Program) (pl : Places) (n size : ℕ) (m : machine.MachineState) (answer : Option ℕ) (s s' : State) (h : IsStep P pl n size m answer s s')
    (i : Instr)
    (r : Row) (statics : List Value) (objects : List Object)
    (ops : List Value) (ws words memory : List ℕ) (jpc : ℕ) → let x = seen (params m i.count 0) (None ∷ []) m h.stands.words h.stands.below in
    s.mode ≡ Running → IsAtRow P pl n size m answer s s' h.stands i r
    → s' ≡ with_top (record s { statics = statics; objects = objects }) h.stands.callers
    (record h.stands.top { pc = h.stands.top.pc + i.length; locals = h.stands.top.locals; operands = ops })
    → SamePlaces P pl s.objects objects → AreOperands (object_place P pl s.objects) ops ws → words ≡ ws ++ reverse h.stands.words.saved
    → jpc ≡ h.stands.top.pc + i.length
    → memory ≡ memory_of P pl size (record s { statics = statics; objects = objects }) → length memory ≡ length m.port.words
    → Makes (record (unchanged x) { words = words; memory = memory; jpc = jpc }) x → ComesTo P pl n size m s s'

-- A row that raises an object of the raise list leaves some words above those that the frame saves; jpc is past a byte of the instruction.
abbrev pub RowsRaise : Type 0
RowsRaise = (P : Program) (pl : Places) (n size : ℕ) (m : machine.MachineState) (answer : Option ℕ) (s s' : State) (h : IsStep P pl n size m answer s s')
    (i : Instr)
    (r : Row) (f : Fault) (words left : List ℕ) (jpc : ℕ)
    → let x = seen (params m i.count 0) (None ∷ []) m h.stands.words h.stands.below in
    s.mode ≡ Running → P.linked ≡ true → IsAtRow P pl n size m answer s s' h.stands i r
    → effect P (limits_of P pl n size) s h.stands.top (h.stands.top.pc + i.length) r ≡ fault f
    → words ≡ left ++ reverse h.stands.words.saved → length left ≤ length h.stands.words.operands → h.stands.top.pc < jpc → jpc ≤ h.stands.top.pc + i.length
    → MakesRaise (raised_by f words jpc x) x → ComesTo P pl n size m s s'
