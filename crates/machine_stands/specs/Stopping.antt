-- When a machine stands again, after a row that raises or halts.
use Rattle.std.specs.Prelude.{◌≡◌, ℕ, ◌+◌, ◌<◌, ◌≤◌, List, [], ◌∷◌, ◌++◌, length, reverse, Some, None}
use Rattle.std.specs.declared.option.Option.{Option}
use Rattle.micro_flow.specs.Walk.{IsCost}
use Rattle.opcodes.specs.declared.instruction.Instr.{Instr}
use Rattle.jop_core.specs.declared.halt.Halt.TheVariants as halts
use Rattle.jop_core.specs.State as machine
use Rattle.micro_sketch.specs.Sketch.{Sketch}
use Rattle.micro_sketch.specs.Stands.{Reaches, IsDone}
use Rattle.micro_sketch.specs.View.{env_of}
use Rattle.micro_sketch.specs.Rows as rows
use Rattle.micro_sketch.specs.Rows.{RunsToRaise, Halts}
use Rattle.bytecode_model.specs.declared.Ending.TheVariants.{Running, Raising, Ended}
use Rattle.bytecode_model.specs.State.{State}
use Rattle.bytecode_model.specs.Program.{Program, instr_at}
use Rattle.image_facts.specs.Places.{Places, object_place}
use Rattle.machine_stands.specs.StandsFor.{StandsFor}
use Rattle.machine_stands.specs.Comes.{params, ComesTo}
use Rattle.machine_stands.specs.Simulates.{IsStep}
use Rattle.machine_stands.specs.Seen.{seen}

-- nothing but the frames and how it goes on
pub record SameRest (s s' : State) : Type 0 where
  pub objects : s'.objects ≡ s.objects
  pub statics : s'.statics ≡ s.statics
  pub answers : s'.answers ≡ s.answers
  pub output : s'.output ≡ s.output

-- The row leaves some words above those that the frame saves, and the object that is raised; jpc is past a byte of the instruction.
pub record RaisesOn (P : Program) (pl : Places) (n size : ℕ) (m : machine.MachineState) (s s' : State) (st : StandsFor P pl n size m s) (i : Instr) (p : ℕ)
    (f : rows.Raising) : Type 0 where
  pub mode : s'.mode ≡ Raising p
  pub frames : s'.frames ≡ record st.top { operands = [] } ∷ st.callers
  pub rest : SameRest s s'
  pub left : List ℕ
  pub few : length left ≤ st.body.max_stack
  pub stack : f.words ≡ left ++ reverse st.words.saved
  pub from : st.top.pc < f.jpc
  pub to : f.jpc ≤ st.top.pc + i.length
  pub object : f.object ≡ object_place P pl s.objects p

-- So the machine comes to the raise routine.
abbrev pub RaisesCome : Type 0
RaisesCome = (P : Program) (pl : Places) (n size : ℕ) (m : machine.MachineState) (answer : Option ℕ) (s s' : State) (h : IsStep P pl n size m answer s s')
    (i : Instr)
    (p : ℕ) (f : rows.Raising)
    → s.mode ≡ Running → instr_at P h.stands.top.method h.stands.top.pc ≡ Some i → RaisesOn P pl n size m s s' h.stands i p f
    → RunsToRaise n (params m i.count 0) m.opcode f (seen (params m i.count 0) (None ∷ []) m h.stands.words h.stands.below) (env_of m)
    → ComesTo P pl n size m s s'

-- a row that halts with all words as they were, in at most its opcode's cost
pub record RunsToEnd (n : ℕ) (m : machine.MachineState) (x : Sketch) (pairs : ℕ) : Type 0 where
  pub after : Sketch
  pub reaches : Reaches n x after (env_of m)
  pub done : IsDone after
  pub halts : Halts halts.Ended x after
  pub cost : (c : ℕ) → IsCost m.opcode (params m pairs 0) c → reaches.cycles ≤ c

-- So the machine comes to the end.
abbrev pub EndsCome : Type 0
EndsCome = (P : Program) (pl : Places) (n size : ℕ) (m : machine.MachineState) (answer : Option ℕ) (s s' : State) (h : IsStep P pl n size m answer s s')
    (i : Instr)
    → s.mode ≡ Running → instr_at P h.stands.top.method h.stands.top.pc ≡ Some i → s'.mode ≡ Ended → s'.frames ≡ s.frames → SameRest s s'
    → RunsToEnd n m (seen (params m i.count 0) (None ∷ []) m h.stands.words h.stands.below) i.count → ComesTo P pl n size m s s'
