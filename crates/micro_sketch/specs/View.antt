-- The sketch of a machine.
use Rattle.std.specs.Prelude.{ℕ, ◌≡◌, ◌+◌, ◌<◌, ◌≤◌, true, false, List, [], length, take, drop, reverse}
use Rattle.std.specs.declared.option.Option.{Option}
use Rattle.jop_core.specs.State.{MachineState}
use Rattle.micro_sketch.specs.Sketch.{Sketch}
use Rattle.micro_sketch.specs.Stands.{Env, constants}

-- the on-chip words from place 64 on
abbrev pub moving : MachineState → List ℕ
moving s = drop 32 (drop 32 s.stack)

-- The sketch of a machine before it puts anything out, where these answers are to come: d words from place 64 on are
-- taken as deep, and u more as those below B. No branch has turns.
abbrev pub sketch_of : (d u : ℕ) → (answers : List (Option ℕ)) → MachineState → Sketch
sketch_of d u answers s = record {
  top = s.a;
  next = s.b;
  under = reverse (take u (drop d (moving s)));
  above = drop u (drop d (moving s));
  low = take 32 s.stack;
  deep = take d (moving s);
  vp = s.vp;
  ar = s.ar;
  jpc = s.jpc;
  mpc = s.mpc;
  operand = s.operand;
  opcode = s.opcode;
  method = s.method;
  cache = s.cache;
  memory = s.port.words;
  value = s.port.value;
  write_address = s.write_address;
  busy = false;
  hits = s.hits;
  misses = s.misses;
  left = λ address. 0;
  loads = 0;
  words = 0;
  halt = s.halt;
  answers = answers;
  output = [];
  fine = true;
  done = false;
}

-- what its sketch leaves out
abbrev pub env_of : MachineState → Env
env_of s = record { clock = s.clock; port = s.port.count; read = s.port.read; write = s.port.write }

-- a machine with n on-chip words that its sketch stands for
pub record Viewable (n d u : ℕ) (s : MachineState) : Type 0 where
  pub words : length s.stack ≡ n
  pub room : 64 + d + u ≤ n
  pub sp : s.sp ≡ d + 63 + u
  pub stall : s.stall ≡ 0
  pub ar : s.ar < n
  pub constants_in : take 32 (drop 32 s.stack) ≡ constants
