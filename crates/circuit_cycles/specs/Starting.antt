-- The start of the circuit: a clock fills the output registers of its block RAMs, and the next one is the machine's first cycle.
use Rattle.std.specs.Prelude.{ℕ, ◌≡◌, ◌-◌, ◌*◌, ◌<◌, ◌≤◌, ◌^◌, true, false, ◌∷◌, ◌++◌, length, replicate, slice_index}
use Rattle.microcode.specs.declared.TheConstants.{WORDS}
use Rattle.machine_memory.specs.declared.timing.Config.{Config}
use Rattle.machine_memory.specs.Stack.Size.{IsSize}
use Rattle.method_cache.specs.Contents.{Entry, IsCache, can_load, empty}
use Rattle.jop_core.specs.State.{MachineState}
use Rattle.jop_core.specs.Reset.{Start, reset_of}
use Rattle.circuit_cycles.specs.Shape.{Shape}
use Rattle.circuit_cycles.specs.Words.{takes_at_a}
use Rattle.circuit_cycles.specs.Tags.{BlockTag}
use Rattle.circuit_cycles.specs.Core.{Core, Given, next}
use Rattle.circuit_cycles.specs.Methods.{IsRing, tag_of_entry}
use Rattle.circuit_cycles.specs.Stands.{HasShape, HasPlaces, HasRegisters, HasCache, Stands}

-- Before the start-up clock the circuit has the registers of a machine that isn't stalled and whose port is idle, and its methods, but no word runs yet.
pub record IsStarting (shape : Shape) (c : Core) (s : MachineState) : Type 0 where
  pub has_shape : HasShape shape s
  pub is_ring : IsRing shape c.ring c.tags s.cache
  pub is_cache : IsCache s.cache
  pub places : HasPlaces shape.on_chip_words c
  pub address : c.mpc < 2048
  pub starting : c.starting ≡ 1
  pub registers : HasRegisters (record c { starting = 0 }) s
  pub word : c.word ≡ slice_index WORDS c.mpc
  pub apart : takes_at_a c.word ≡ false
  pub refill : c.refill ≡ 0
  pub header : c.header ≡ 0
  pub left : c.left ≡ 0
  pub reading : c.reading ≡ 0
  pub value : c.value ≡ s.port.value
  pub stall : s.stall ≡ 0
  pub cache : HasCache shape c s

-- Behind the start-up clock the circuit stands for the machine, which has done no cycle yet.
abbrev pub StartsStand : Type 0
StartsStand = (shape : Shape) (given : Given) (c : Core) (s : MachineState) → IsStarting shape c s → Stands shape (next shape given c) s

-- ---- the first contents of registers and memories

-- a block in which no method begins
abbrev pub no_tag : BlockTag
no_tag = record { begins = 0; method = 0; words = 0 }

-- The circuit for a machine whose cache holds this method alone, in the first blocks.
abbrev pub first_core : Shape → Entry → MachineState → Core
first_core shape boot s = record {
  a = s.a;
  b = s.b;
  sp = s.sp;
  vp = s.vp;
  ar = s.ar;
  jpc = s.jpc;
  mpc = s.mpc;
  operand = s.operand;
  opcode = s.opcode;
  halt = 0;
  word = slice_index WORDS s.mpc;
  refill = 0;
  starting = 1;
  below_passed = 0;
  place_passed = 0;
  passed = 0;
  count = s.port.count;
  value = s.port.value;
  reading = 0;
  within = 0;
  write_address = s.write_address;
  place = s.method;
  base = 0;
  words = length boot.words;
  header = 0;
  left = 0;
  turn = 0;
  source = 0;
  target = 0;
  in_block = 0;
  next_block = s.cache.next;
  tags = tag_of_entry boot ∷ replicate (shape.blocks - 1) no_tag;
  rom_out = 0;
  below_out = 0;
  loaded_out = 0;
  ring_out = 0;
  main_out = 0;
  on_chip = s.stack;
  ring = boot.words ++ replicate (shape.ring_words - length boot.words) 0;
  main = s.port.words;
}

-- a shape is that of a machine with n on-chip words and these settings
pub record IsShapeOf (shape : Shape) (n : ℕ) (config : Config) : Type 0 where
  pub size : IsSize n
  pub on_chip : shape.on_chip_words ≡ n
  pub memory : shape.memory_words ≡ config.memory
  pub memory_bits : shape.memory_words ≤ 2 ^ shape.memory_bits
  pub read : shape.read_wait ≡ config.read
  pub write : shape.write_wait ≡ config.write
  pub blocks : shape.blocks ≡ config.blocks
  pub block_words : shape.block_words ≡ config.block_words
  pub some_words : 0 < shape.block_words
  pub ring_words : shape.ring_words ≡ shape.blocks * shape.block_words
  pub ring_bits : shape.ring_words ≤ 2 ^ shape.ring_bits

-- boot's method
abbrev pub boot_entry : Start → Entry
boot_entry start = record { method = start.boot; words = start.code }

-- What a reset begins with is a circuit at its start, whatever image was linked or bare.
abbrev pub ResetsStart : Type 0
ResetsStart =
    (shape : Shape) (n : ℕ) (start : Start) (config : Config) → IsShapeOf shape n config → length start.image ≤ config.memory
    → can_load (length start.code) (empty config.blocks config.block_words) ≡ true
    → IsStarting shape (first_core shape (boot_entry start) (reset_of n start config)) (reset_of n start config)
