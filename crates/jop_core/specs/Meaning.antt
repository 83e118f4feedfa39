-- What the fields of a machine mean.
use Rattle.std.specs.Prelude.{ℕ, ◌≡◌, ◌<◌, ◌^◌, Bool, true, nat_lt, if◌then◌else◌, List, [], ◌∷◌}
use Rattle.base.specs.Packed.{byte_of}
use Rattle.method_cache.specs.Contents.{Cache, word_of}
use Rattle.jop_core.specs.declared.machine.Machine.TheInside.{Inside}
use Rattle.jop_core.specs.declared.halt.Halt.{Halt}
use Rattle.jop_core.specs.State.{MachineState, IsState}
use Rattle.jop_core.specs.Cycle.{is_running}

abbrev pub state_of : {n : ℕ} → Inside n → MachineState
state_of m = record {
  a = m.a;
  b = m.b;
  sp = m.sp;
  vp = m.vp;
  ar = m.ar;
  jpc = m.jpc;
  mpc = m.mpc;
  operand = m.operand;
  opcode = m.opcode;
  method = m.method;
  cache = m.cache;
  stall = m.stall;
  halt = m.halt;
  stack = m.stack;
  port = m.memory;
  write_address = m.write_address;
  clock = m.clock;
  hits = m.hits;
  misses = m.misses;
}

-- the four bytes of a word
abbrev pub bytes_of : ℕ → List ℕ
bytes_of word = byte_of word 0 ∷ byte_of word 1 ∷ byte_of word 2 ∷ byte_of word 3 ∷ []

-- The bytes that were fetched are those of the method's word at their place. Words with bytes lie below place 16,384.
unfoldable pub IsFetched : (bytes : List ℕ) → (place method : ℕ) → Cache → Type 0
IsFetched bytes place method cache = place < 2 ^ 14 → bytes ≡ bytes_of (word_of method place cache)

-- no microinstruction runs: the machine has halted, or is stalled
abbrev pub is_paused : (stall : ℕ) → Halt → Bool
is_paused stall halt = if is_running halt then nat_lt 0 stall else true

-- they are those of a state, with the bytes of a word of its current method, and whether it is paused
pub record IsKept (n : ℕ) (m : Inside n) : Type 0 where
  pub state : IsState n (state_of m)
  pub fetched : IsFetched m.fetched m.fetched_place m.method m.cache
  pub paused : m.paused ≡ is_paused m.stall m.halt
