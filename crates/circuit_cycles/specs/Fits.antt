-- Which words fit the registers and memories of the circuit.
use Rattle.std.specs.Prelude.{ℕ, ◌≡◌, ◌*◌, ◌<◌, ◌≤◌, ◌^◌, List, length, All, Option, Some, None}
use Rattle.image_file.specs.Bare.{BareContent, IsBareContent}
use Rattle.machine_memory.specs.declared.timing.Config.{Config}
use Rattle.jop_core.specs.Reset.{Start, reset_of, linked_start, CanStart, bare_start}
use Rattle.circuit_cycles.specs.Shape.{Shape}
use Rattle.circuit_cycles.specs.Tags.{BlockTag}
use Rattle.circuit_cycles.specs.Core.{Core, Given, next}
use Rattle.circuit_cycles.specs.Starting.{IsShapeOf, first_core, boot_entry}

abbrev pub IsWord : ℕ → Type 0
IsWord w = w < 2 ^ 32

-- a shape whose places are told apart by their bits, with waits below 64
pub record IsShape (shape : Shape) : Type 0 where
  pub on_chip : 64 ≤ shape.on_chip_words
  pub few_on_chip : shape.on_chip_words ≤ 2 ^ 32
  pub read : shape.read_wait < 64
  pub write : shape.write_wait < 64
  pub blocks : 0 < shape.blocks
  pub block_words : 0 < shape.block_words
  pub ring_words : shape.ring_words ≡ shape.blocks * shape.block_words

pub record TagFits (shape : Shape) (tag : BlockTag) : Type 0 where
  pub begins : tag.begins < 2
  pub method : tag.method < 2 ^ shape.memory_bits
  pub words : tag.words < 2 ^ 16

abbrev pub InputFits : Option ℕ → Type 0
InputFits None = Unit {0}
InputFits (Some byte) = byte < 2 ^ 8

-- a byte, and words that block RAMs can have
pub record GivenFits (given : Given) : Type 0 where
  pub input : InputFits given.input
  pub below : IsWord given.below
  pub loaded : IsWord given.loaded
  pub ring : IsWord given.ring
  pub main : IsWord given.main

-- the registers of the machine
pub record MachineFits (shape : Shape) (c : Core) : Type 0 where
  pub a : IsWord c.a
  pub b : IsWord c.b
  pub sp : c.sp < shape.on_chip_words
  pub vp : c.vp < shape.on_chip_words
  pub ar : c.ar < shape.on_chip_words
  pub jpc : c.jpc < 2 ^ 16
  pub mpc : c.mpc < 2 ^ 11
  pub operand : IsWord c.operand
  pub opcode : c.opcode < 2 ^ 8
  pub halt : c.halt < 2 ^ 2

-- what stands ready, and the port of the main memory
pub record AheadFits (c : Core) : Type 0 where
  pub word : c.word < 2 ^ 16
  pub refill : c.refill ≤ 2
  pub starting : c.starting < 2
  pub below_passed : c.below_passed < 2
  pub place_passed : c.place_passed < 2
  pub passed : IsWord c.passed
  pub count : c.count ≤ 64
  pub value : IsWord c.value
  pub reading : c.reading < 2
  pub within : c.within < 2
  pub write_address : IsWord c.write_address

-- the current method, and the load of one
pub record MethodFits (shape : Shape) (c : Core) : Type 0 where
  pub place : c.place < 2 ^ shape.memory_bits
  pub base : c.base < shape.ring_words
  pub words : c.words < 2 ^ 16
  pub header : c.header ≤ 4
  pub left : c.left < 2 ^ 16
  pub turn : c.turn ≤ 64
  pub source : c.source < 2 ^ shape.memory_bits
  pub target : c.target < shape.ring_words
  pub in_block : c.in_block < shape.block_words
  pub next_block : c.next_block < shape.blocks
  pub tags : All (TagFits shape) c.tags
  pub tags_length : length c.tags ≡ shape.blocks

-- the output registers of the block RAMs, and the memories
pub record MemoriesFit (c : Core) : Type 0 where
  pub rom_out : c.rom_out < 2 ^ 16
  pub below_out : IsWord c.below_out
  pub loaded_out : IsWord c.loaded_out
  pub ring_out : IsWord c.ring_out
  pub main_out : IsWord c.main_out
  pub on_chip : All IsWord c.on_chip
  pub ring : All IsWord c.ring
  pub main : All IsWord c.main

pub record Fits (shape : Shape) (c : Core) : Type 0 where
  pub machine : MachineFits shape c
  pub ahead : AheadFits c
  pub method : MethodFits shape c
  pub memories : MemoriesFit c

-- Behind a clock they fit again.
abbrev pub FitsStay : Type 0
FitsStay = (shape : Shape) (given : Given) (c : Core) → IsShape shape → GivenFits given → Fits shape c → Fits shape (next shape given c)

-- ---- the start

-- What a machine begins with are words that fit, and boot lies in the memory.
pub record StartFits (shape : Shape) (start : Start) : Type 0 where
  pub image : All IsWord start.image
  pub code : All IsWord start.code
  pub few_words : length start.code < 2 ^ 16
  pub boot : start.boot < 2 ^ shape.memory_bits
  pub boot_word : IsWord start.boot
  pub frame : IsWord start.frame
  pub pool : IsWord start.pool
  pub raise_list : IsWord start.raise_list

-- The first contents of registers and memories fit them.
abbrev pub ResetsFit : Type 0
ResetsFit =
    (shape : Shape) (n : ℕ) (start : Start) (config : Config) → IsShape shape → IsShapeOf shape n config → length start.image ≤ config.memory
    → IsWord config.memory → StartFits shape start
    → Fits shape (first_core shape (boot_entry start) (reset_of n start config))

-- An image that can be linked begins with such words.
abbrev pub LinkedStartsFit : Type 0
LinkedStartsFit =
    (shape : Shape) (image : List ℕ) (config : Config) → CanStart image config → All IsWord image → config.memory ≤ 2 ^ shape.memory_bits
    → StartFits shape (linked_start image)

-- and so does a bare image
abbrev pub BareStartsFit : Type 0
BareStartsFit = (shape : Shape) (image : BareContent) → IsBareContent image → StartFits shape (bare_start image)
