-- How a row of the microcode is told: what an opcode makes of the words of the stack, and what stays.
use Rattle.std.specs.Prelude.{ℕ, ◌≡◌, ◌+◌, ◌%◌, ◌^◌, ◌≤◌, true, false, List, [], ◌∷◌, length, drop}
use Rattle.std.specs.declared.option.Option.{Option}
use Rattle.micro_flow.specs.declared.CostParams.{CostParams}
use Rattle.micro_flow.specs.Walk.{turns_at, IsCost}
pub use Rattle.micro_flow.specs.Costs.{AreInRange}
use Rattle.jop_core.specs.declared.halt.Halt.TheVariants.{Running}
use Rattle.jop_core.specs.State.{MachineState}
use Rattle.jop_core.specs.Cycle.{entry_of}
use Rattle.jop_core.specs.Scene.{begun, output_during}
use Rattle.device_traits.specs.Told.{Told}
use Rattle.micro_sketch.specs.Sketch.{Sketch, abyte}
use Rattle.micro_sketch.specs.Stands.{Env, Shaped, IsDone, conc}
use Rattle.micro_sketch.specs.Laws.{AtEntry}
use Rattle.micro_sketch.specs.Step.{Arrived}
use Rattle.micro_sketch.specs.View.{Viewable, sketch_of, env_of}

-- The machine with n on-chip words is what the sketch stands for. It is about to run the opcode, with nothing under way, and there is room on
-- its stack: for at least three words that may be taken off below the two on top, and for sixteen more.
pub record StandsAt (n : ℕ) (p : CostParams) (op : ℕ) (x : Sketch) (e : Env) (s : MachineState) : Type 0 where
  pub same : s ≡ conc n x e
  pub shape : Shaped n x
  pub entry : AtEntry p op x e
  pub opcode : x.opcode ≡ op
  pub operand : x.operand ≡ 0
  pub idle : x.busy ≡ false
  pub running : x.halt ≡ Running
  pub fine : x.fine ≡ true
  pub loads : x.loads ≡ 0
  pub loaded : x.words ≡ 0
  pub silent : x.output ≡ []
  pub under : 3 ≤ length x.under
  pub above : 16 ≤ length x.above

-- the words of the stack, the top first
abbrev pub words_of : Sketch → List ℕ
words_of x = x.top ∷ x.next ∷ x.under

-- What a row that stays in its frame may change: the words of the stack, the words below it, among them the locals, the on-chip places from 24
-- to 31, the main memory, the place of the next byte, the answers that the input is still to give, and what was put out.
pub record Effect : Type 0 where
  pub words : List ℕ
  pub deep : List ℕ
  pub low : List ℕ
  pub memory : List ℕ
  pub jpc : ℕ
  pub answers : List (Option ℕ)
  pub output : List ℕ

abbrev pub unchanged : Sketch → Effect
unchanged x = record { words = words_of x; deep = x.deep; low = drop 24 x.low; memory = x.memory; jpc = x.jpc; answers = x.answers; output = [] }

-- what no such row changes: the frame, the method and the cache
pub record IsKept (x y : Sketch) : Type 0 where
  pub vp : y.vp ≡ x.vp
  pub method : y.method ≡ x.method
  pub cache : y.cache ≡ x.cache
  pub hits : y.hits ≡ x.hits
  pub misses : y.misses ≡ x.misses
  pub loads : y.loads ≡ 0
  pub loaded : y.words ≡ 0

-- y is x after that, about to run the opcode at the new place
pub record Follows (f : Effect) (x y : Sketch) : Type 0 where
  pub words : words_of y ≡ f.words
  pub deep : y.deep ≡ f.deep
  pub low : drop 24 y.low ≡ f.low
  pub memory : y.memory ≡ f.memory
  pub answers : y.answers ≡ f.answers
  pub output : y.output ≡ f.output
  pub opcode : y.opcode ≡ abyte (record x { jpc = f.jpc })
  pub jpc : y.jpc ≡ (f.jpc + 1) % 2 ^ 16
  pub mpc : y.mpc ≡ entry_of y.opcode
  pub operand : y.operand ≡ 0
  pub running : y.halt ≡ Running
  pub kept : IsKept x y

-- The machine came to the next boundary as the row says, in at most the opcode's cost, and its port is idle.
pub record DidRow (n : ℕ) (p : CostParams) (op : ℕ) (f : Effect) (x : Sketch) (e : Env) (cycles : ℕ) (new : MachineState) : Type 0 where
  pub after : Sketch
  pub env : Env
  pub same : new ≡ conc n after env
  pub shape : Shaped n after
  pub done : IsDone after
  pub follows : Follows f x after
  pub idle : env.port ≡ 0
  pub read : env.read ≡ e.read
  pub write : env.write ≡ e.write
  pub clock : env.clock ≡ e.clock + cycles
  pub cost : (c : ℕ) → IsCost op p c → cycles ≤ c

-- no byte was taken in or put out on the way to the next boundary
pub record WasSilent (old new : MachineState) (told told' : Told) (a : Arrived old new told told') : Type 0 where
  pub taken : a.answers ≡ []
  pub put : output_during a.cycles (begun old a.answers) ≡ []

-- a machine that is about to run the opcode, with d words from place 64 on that are taken as deep, and u more as those below B
pub record AtOpcode (n d u : ℕ) (p : CostParams) (op : ℕ) (s : MachineState) : Type 0 where
  pub viewable : Viewable n d u s
  pub under : 3 ≤ u
  pub above : 64 + d + u + 16 ≤ n
  pub opcode : s.opcode ≡ op
  pub mpc : s.mpc ≡ entry_of op
  pub operand : s.operand ≡ 0
  pub running : s.halt ≡ Running
  pub idle : s.port.count ≡ 0
  pub read : p.r ≡ s.port.read
  pub write : p.w ≡ s.port.write

-- x as it begins a row: each branch has its turns, and nothing was put out
abbrev pub begins_row : CostParams → Sketch → Sketch
begins_row p x = record x { left = turns_at p; output = []; done = false }

-- Such a machine is what its sketch stands for.
abbrev pub SeenAtOpcode : Type 0
SeenAtOpcode = (n d u : ℕ) (p : CostParams) (op : ℕ) (answers : List (Option ℕ)) (s : MachineState) → AtOpcode n d u p op s
    → StandsAt n p op (begins_row p (sketch_of d u answers s)) (env_of s) s

-- After a row the machine is about to run the next opcode, where its stack still has room.
abbrev pub RowsLeadOn : Type 0
RowsLeadOn = (n : ℕ) (p q : CostParams) (op cycles : ℕ) (f : Effect) (x : Sketch) (e : Env) (old new : MachineState) → StandsAt n p op x e old
    → (d : DidRow n p op f x e cycles new)
    → q.r ≡ p.r → q.w ≡ p.w → 3 ≤ length d.after.under → 16 ≤ length d.after.above → StandsAt n q d.after.opcode (begins_row q d.after) d.env new
