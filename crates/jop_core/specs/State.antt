-- A state of the machine.
use Rattle.std.specs.Prelude.{ℕ, ◌^◌, ◌<◌, List}
use Rattle.machine_memory.specs.Stack.Size.{IsSize, HoldsWords}
use Rattle.machine_memory.specs.Timing.Port.{Port, IsInRange}
use Rattle.method_cache.specs.Contents.{Cache}
use Rattle.jop_core.specs.declared.halt.Halt.{Halt}
use Rattle.device_traits.specs.declared.seen.Seen.{Seen}

pub record MachineState : Type 0 where
  -- the two top words of the stack
  pub a : ℕ
  pub b : ℕ
  -- the on-chip place of the word below B, that of the locals, and the one that is addressed
  pub sp : ℕ
  pub vp : ℕ
  pub ar : ℕ
  -- the place of the next byte of the method, and the address of the next word of the ROM
  pub jpc : ℕ
  pub mpc : ℕ
  -- the bytes behind the opcode, and the opcode
  pub operand : ℕ
  pub opcode : ℕ
  -- the place of the current method in memory, and the cache of methods
  pub method : ℕ
  pub cache : Cache
  -- the cycles in which nothing happens yet
  pub stall : ℕ
  pub halt : Halt
  -- the on-chip words
  pub stack : List ℕ
  -- the memory, and where the next write goes
  pub port : Port
  pub write_address : ℕ
  -- cycles done, and look-ups of the method cache that hit and missed
  pub clock : ℕ
  pub hits : ℕ
  pub misses : ℕ

-- what a device is handed of a state
abbrev pub seen_of : MachineState → Seen
seen_of s = record { clock = s.clock; mpc = s.mpc; a = s.a; b = s.b; sp = s.sp; vp = s.vp }

-- what holds of each state of a machine with n on-chip words
pub record IsState (n : ℕ) (s : MachineState) : Type 0 where
  pub size : IsSize n
  pub stack : HoldsWords n s.stack
  pub sp : s.sp < n
  pub vp : s.vp < n
  pub ar : s.ar < n
  pub mpc : s.mpc < 2048
  pub port : IsInRange s.port
  pub hits : s.hits < 2 ^ 64
  pub misses : s.misses < 2 ^ 64
