-- The nets of the circuit stand for its registers, and those of a cycle for what the cycle is.
use Rattle.std.specs.Prelude.{◌≡◌, ℕ, ◌-◌, ◌^◌, ◌<◌, Bool, Option, Some, None}
use Rattle.netlist.specs.Meaning.{Words, word_on, bit_of}
use Rattle.netlist.specs.declared.net.Net.{Net}
use Rattle.circuit_core.specs.declared.registers.Machine.{Machine}
use Rattle.circuit_core.specs.declared.registers.Ahead.{Ahead}
use Rattle.circuit_core.specs.declared.registers.Port.{Port}
use Rattle.circuit_core.specs.declared.registers.Method.{Method}
use Rattle.circuit_core.specs.declared.registers.ReadOuts.{ReadOuts}
use Rattle.circuit_core.specs.declared.registers.Registers.{Registers}
use Rattle.circuit_core.specs.declared.cycle.Cycle.{Cycle}
use Rattle.circuit_cycles.specs.Core.{Core, goes, runs, pushes, pops, below, loaded}
use Rattle.circuit_core.specs.Decoding.{Decodes}

-- The machine's own registers; the on-chip memory has n words.
pub record HoldsMachine (n : ℕ) (ws : Words) (nets : Machine) (core : Core) : Type 0 where
  pub places : 2 ^ nets.sp.width ≡ n
  pub a : word_on ws nets.a ≡ core.a
  pub b : word_on ws nets.b ≡ core.b
  pub sp : word_on ws nets.sp ≡ core.sp
  pub vp : word_on ws nets.vp ≡ core.vp
  pub ar : word_on ws nets.ar ≡ core.ar
  pub jpc : word_on ws nets.jpc ≡ core.jpc
  pub mpc : word_on ws nets.mpc ≡ core.mpc
  pub operand : word_on ws nets.operand ≡ core.operand
  pub opcode : word_on ws nets.opcode ≡ core.opcode
  pub halt : word_on ws nets.halt ≡ core.halt
  pub a_fits : core.a < 2 ^ 32
  pub b_fits : core.b < 2 ^ 32
  pub vp_fits : core.vp < n
  pub jpc_fits : core.jpc < 2 ^ 16
  pub operand_fits : core.operand < 2 ^ 32

-- what stands ready for the cycle
pub record HoldsAhead (ws : Words) (nets : Ahead) (core : Core) : Type 0 where
  pub word : word_on ws nets.word ≡ core.word
  pub refill : word_on ws nets.refill ≡ core.refill
  pub starting : word_on ws nets.starting ≡ core.starting
  pub below_passed : word_on ws nets.below_passed ≡ core.below_passed
  pub place_passed : word_on ws nets.place_passed ≡ core.place_passed
  pub passed : word_on ws nets.passed ≡ core.passed
  pub refill_fits : core.refill < 2 ^ 2
  pub starting_fits : core.starting < 2 ^ 1

-- the port of the main memory
pub record HoldsPort (ws : Words) (nets : Port) (core : Core) : Type 0 where
  pub count : word_on ws nets.count ≡ core.count
  pub value : word_on ws nets.value ≡ core.value
  pub reading : word_on ws nets.reading ≡ core.reading
  pub within : word_on ws nets.within ≡ core.within
  pub write_address : word_on ws nets.write_address ≡ core.write_address
  pub count_fits : core.count < 2 ^ 7
  pub write_address_fits : core.write_address < 2 ^ 32

-- the current method, and the load of one
pub record HoldsMethod (ws : Words) (nets : Method) (core : Core) : Type 0 where
  pub place : word_on ws nets.place ≡ core.place
  pub base : word_on ws nets.base ≡ core.base
  pub words : word_on ws nets.words ≡ core.words
  pub header : word_on ws nets.header ≡ core.header
  pub left : word_on ws nets.left ≡ core.left
  pub turn : word_on ws nets.turn ≡ core.turn
  pub source : word_on ws nets.source ≡ core.source
  pub target : word_on ws nets.target ≡ core.target
  pub in_block : word_on ws nets.in_block ≡ core.in_block
  pub next_block : word_on ws nets.next_block ≡ core.next_block
  pub place_fits : core.place < 2 ^ nets.place.width
  pub base_fits : core.base < 2 ^ nets.base.width
  pub words_fit : core.words < 2 ^ 16
  pub header_fits : core.header < 2 ^ 3
  pub left_fits : core.left < 2 ^ 16
  pub turn_fits : core.turn < 2 ^ 7

-- the output registers of the block RAMs
pub record HoldsReadOuts (ws : Words) (nets : ReadOuts) (core : Core) : Type 0 where
  pub rom : word_on ws nets.rom ≡ core.rom_out
  pub below : word_on ws nets.below ≡ core.below_out
  pub loaded : word_on ws nets.loaded ≡ core.loaded_out
  pub ring : word_on ws nets.ring ≡ core.ring_out
  pub main : word_on ws nets.main ≡ core.main_out
  pub main_fits : core.main_out < 2 ^ 32

-- The nets hold the registers of this core, whose on-chip memory has n words.
pub record Holds (n : ℕ) (ws : Words) (nets : Registers) (core : Core) : Type 0 where
  pub machine : HoldsMachine n ws nets.machine core
  pub ahead : HoldsAhead ws nets.ahead core
  pub port : HoldsPort ws nets.port core
  pub method : HoldsMethod ws nets.method core
  pub read_outs : HoldsReadOuts ws nets.read_outs core

-- The nets of a cycle stand for what the cycle of this core is.
pub record Stands (n : ℕ) (ws : Words) (nets : Cycle) (core : Core) : Type 0 where
  pub registers : Holds n ws nets.registers core
  pub word : Decodes ws nets.word core.word
  pub goes : word_on ws nets.goes ≡ bit_of (goes core)
  pub runs : word_on ws nets.runs ≡ bit_of (runs core)
  pub pushes : word_on ws nets.pushes ≡ bit_of (pushes core)
  pub pops : word_on ws nets.pops ≡ bit_of (pops core)
  pub below : word_on ws nets.below ≡ below core
  pub loaded : word_on ws nets.loaded ≡ loaded core

-- The net has this word of the core for which the nets of a cycle stand.
abbrev pub Computes : Cycle → Net → (ℕ → Core → ℕ) → Words → Type 0
Computes nets net word ws = (n : ℕ) (core : Core) → Stands n ws nets core → word_on ws net ≡ word n core

-- The net has this bit of it.
abbrev pub Decides : Cycle → Net → (Core → Bool) → Words → Type 0
Decides nets net test ws = (n : ℕ) (core : Core) → Stands n ws nets core → word_on ws net ≡ bit_of (test core)

-- The net has this bit of the core whose registers the nets hold.
abbrev pub Shows : Registers → Net → (Core → Bool) → Words → Type 0
Shows nets net test ws = (n : ℕ) (core : Core) → Holds n ws nets core → word_on ws net ≡ bit_of (test core)

-- what `ldin` pushes: the byte that is given, or all bits where there is none
abbrev pub input_word : Option ℕ → ℕ
input_word (Some byte) = byte
input_word None = 2 ^ 32 - 1
