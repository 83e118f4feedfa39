-- What machine a sketch stands for.
use Rattle.std.specs.Prelude.{ℕ, ◌≡◌, suc, ◌+◌, ◌-◌, ◌*◌, ◌%◌, ◌<◌, Bool, true, false, List, ◌++◌, length}
use mathlib.Core.List.{reverse_aux}
use Rattle.microcode.specs.declared.TheConstants.{CONSTANTS}
use Rattle.microcode.specs.declared.isa.operation.Operation.{Operation}
use Rattle.machine_memory.specs.Timing.Port.{Port}
use Rattle.micro_flow.specs.declared.CostParams.{CostParams}
use Rattle.micro_flow.specs.Walk.{TimeKind, Reads, Writes, kind_of, Walker, walk}
use Rattle.jop_core.specs.declared.halt.Halt.TheVariants.{Running}
use Rattle.jop_core.specs.State.{MachineState}
use Rattle.jop_core.specs.Cycle.{at_boundary}
use Rattle.jop_core.specs.Scene.{Scene, run}
use Rattle.micro_sketch.specs.Sketch.{Sketch}

unfoldable pub constants : List ℕ
constants = CONSTANTS

-- the words below the moving part of the stack
abbrev pub base : Sketch → List ℕ
base x = x.low ++ (constants ++ x.deep)

-- what a sketch leaves out: the clock, the port's count and its cycles for a read and a write
pub record Env : Type 0 where
  pub clock : ℕ
  pub port : ℕ
  pub read : ℕ
  pub write : ℕ

abbrev pub stack_of : Sketch → List ℕ
stack_of x = base x ++ reverse_aux x.under x.above

abbrev pub sp_of : Sketch → ℕ
sp_of x = length x.deep + 63 + length x.under

abbrev pub port_of : Sketch → Env → Port
port_of x e = record { words = x.memory; read = e.read; write = e.write; count = e.port; value = x.value }

-- the machine with n on-chip words
abbrev pub conc : ℕ → Sketch → Env → MachineState
conc n x e = record {
  a = x.top;
  b = x.next;
  sp = sp_of x;
  vp = x.vp;
  ar = x.ar % n;
  jpc = x.jpc;
  mpc = x.mpc;
  operand = x.operand;
  opcode = x.opcode;
  method = x.method;
  cache = x.cache;
  stall = 0;
  halt = x.halt;
  stack = stack_of x;
  port = port_of x e;
  write_address = x.write_address;
  clock = e.clock;
  hits = x.hits;
  misses = x.misses;
}

abbrev pub scene : ℕ → Sketch → Env → Scene
scene n x e = record { state = conc n x e; answers = x.answers; output = x.output }

pub record Shaped (n : ℕ) (x : Sketch) : Type 0 where
  pub low : length x.low ≡ 32
  pub total : 64 + length x.deep + length x.under + length x.above ≡ n

-- s is what the sketch y stands for, which was come to from x
pub record Does (n : ℕ) (x y : Sketch) (e : Env) (s : MachineState) : Type 0 where
  pub same : s ≡ conc n y e
  pub shape : Shaped n y
  pub was : x.fine ≡ true

abbrev pub env_kind : TimeKind → Env → Env
env_kind Reads e = record e { port = e.read + 1 }
env_kind Writes e = record e { port = e.write + 1 }
env_kind _ e = e

abbrev pub env_after : Operation → Env → Env
env_after op e = env_kind (kind_of op) e

abbrev pub tick : Env → Env
tick e = record e { clock = e.clock + 1; port = e.port - 1 }

abbrev pub PortFits : Bool → Env → Type 0
PortFits true e = Unit {0}
PortFits false e = e.port ≡ 0

-- the cycles that so many loads of so many words in all stall
abbrev pub stalls_for : (loads words r : ℕ) → ℕ
stalls_for loads words r = loads * 4 + words * (2 + r)

-- the cycles of the loads that x counts
abbrev pub stalls : Sketch → ℕ → ℕ
stalls x r = stalls_for x.loads x.words r

-- a walk of the ROM has come to where the sketch is
pub record Tells (x : Sketch) (e : Env) (s : Walker) : Type 0 where
  pub at : x.done ≡ false → s.at ≡ x.mpc
  pub port : s.port ≡ e.port
  pub left : s.left ≡ x.left
  pub over : s.over ≡ x.done
  pub fine : s.fine ≡ true

-- the walk goes on to y, and takes the machine's cycles but those of loads
pub record Walked (p : CostParams) (x y : Sketch) (env : Env) (cycles : ℕ) (s : Walker) : Type 0 where
  pub choices : List Bool
  pub tells : Tells y env (walk p choices s)
  pub clock : (walk p choices s).clock + stalls y p.r ≡ s.clock + cycles + stalls x p.r

-- x goes on: it is at no boundary, and hasn't halted
pub record Goes (x : Sketch) : Type 0 where
  pub not_done : x.done ≡ false
  pub running : x.halt ≡ Running

-- From x the machine comes to y, and any walk that has come to x goes on so.
pub record Reaches (n : ℕ) (x y : Sketch) (e : Env) : Type 0 where
  pub cycles : ℕ
  pub positive : 0 < cycles
  pub env : Env
  pub same : run cycles (scene n x e) ≡ scene n y env
  pub clock : env.clock ≡ e.clock + cycles
  pub read : env.read ≡ e.read
  pub write : env.write ≡ e.write
  pub port : PortFits y.busy env
  pub shape : Shaped n y
  pub was : x.fine ≡ true
  -- no boundary lies between, and one is at the end exactly where y is done
  pub quiet : (i : ℕ) → suc i < cycles → at_boundary (run (suc i) (scene n x e)).state ≡ false
  pub ending : at_boundary (conc n y env) ≡ y.done
  pub way : (p : CostParams) → p.r ≡ e.read → p.w ≡ e.write → (s : Walker) → Tells x e s → Walked p x y env cycles s

-- where an opcode's microcode ends well
pub record IsDone (y : Sketch) : Type 0 where
  pub fine : y.fine ≡ true
  pub done : y.done ≡ true
  pub idle : y.busy ≡ false
