-- When the circuit stands for a state of the machine: register by register, with what was read ahead, and a load that is under way.
use Rattle.std.specs.Prelude.{ℕ, ◌≡◌, ◌⊎◌, ◌+◌, ◌-◌, ◌*◌, ◌%◌, ◌^◌, ◌<◌, ◌≤◌, Bool, true, false, ◌==◌, ◌||◌, nat_lt, if◌then◌else◌, List, [], ◌∷◌, ◌++◌}
use Rattle.std.specs.Prelude.{length, slice_index}
use Rattle.microcode.specs.declared.TheConstants.{WORDS}
use Rattle.machine_memory.specs.Timing.Port.{Port}
use Rattle.method_cache.specs.Contents.{Entry, IsCache, first_block}
use Rattle.jop_core.specs.declared.halt.Halt.{Halt}
use Rattle.jop_core.specs.declared.halt.Halt.TheVariants.{Running, Ended, Uncaught}
use Rattle.jop_core.specs.State.{MachineState}
use Rattle.jop_core.specs.Operations.{code_place, code_words}
use Rattle.jop_core.specs.Cycle.{code_byte}
use Rattle.circuit_cycles.specs.Shape.{Shape}
use Rattle.circuit_cycles.specs.Words.{place_of, is, wait, takes_at_a}
use Rattle.circuit_cycles.specs.Core.{Core, is_stalled, below, loaded, byte, byte_place}
use Rattle.circuit_cycles.specs.Methods.{IsRing, HasMethods, HasPart}

abbrev pub halt_code : Halt → ℕ
halt_code Running = 0
halt_code Ended = 1
halt_code Uncaught = 2

-- the machine has this shape
pub record HasShape (shape : Shape) (s : MachineState) : Type 0 where
  pub on_chip : length s.stack ≡ shape.on_chip_words
  pub memory : length s.port.words ≡ shape.memory_words
  pub read : s.port.read ≡ shape.read_wait
  pub write : s.port.write ≡ shape.write_wait
  -- the bits of a place tell all places of the memory apart
  pub places : shape.memory_words ≤ 2 ^ shape.memory_bits

-- ---- the registers of the machine

-- on-chip words of this number, and places among them
pub record HasPlaces (n : ℕ) (c : Core) : Type 0 where
  pub some : 64 ≤ n
  pub sp : c.sp < n
  pub vp : c.vp < n
  pub ar : c.ar < n
  pub length : length c.on_chip ≡ n

pub record HasRegisters (c : Core) (s : MachineState) : Type 0 where
  pub a : c.a ≡ s.a
  pub b : c.b ≡ s.b
  pub sp : c.sp ≡ s.sp
  pub vp : c.vp ≡ s.vp
  pub ar : c.ar ≡ s.ar
  pub jpc : c.jpc ≡ s.jpc
  pub mpc : c.mpc ≡ s.mpc
  pub operand : c.operand ≡ s.operand
  pub opcode : c.opcode ≡ s.opcode
  pub halt : c.halt ≡ halt_code s.halt
  pub on_chip : c.on_chip ≡ s.stack
  pub main : c.main ≡ s.port.words
  pub write_address : c.write_address ≡ s.write_address
  pub count : c.count ≡ s.port.count
  pub begun : c.starting ≡ 0

-- a load is under way
abbrev pub loads : Core → Bool
loads c = nat_lt 0 c.header || nat_lt 0 c.left

-- ---- what was read ahead

-- Two cycles before the target of a branch runs, it is in the ROM's output register; else the word that runs stands ready, and the one behind it is there.
abbrev pub HasWord : (refills : Bool) → Core → Type 0
HasWord true c = c.rom_out ≡ slice_index WORDS c.mpc
HasWord false c = (c.word ≡ slice_index WORDS c.mpc) × (c.rom_out ≡ slice_index WORDS ((c.mpc + 1) % 2048))

-- A word that was read in the cycle before is still in the memory's output register, and a wait is to run.
abbrev pub HasValue : (reads : Bool) → Core → Port → Type 0
HasValue true c port = (port.value ≡ (if c.within == 1 then c.main_out else 0)) × (is wait c.word ≡ true)
HasValue false c port = c.value ≡ port.value

-- The words that were read ahead: of the ROM, the on-chip words below B and at the place that the word loads, and the byte that it takes.
pub record HasRead (n : ℕ) (c : Core) (s : MachineState) : Type 0 where
  pub refills : c.refill ≤ 2
  pub word : HasWord (c.refill == 2) c
  pub below : below c ≡ slice_index s.stack s.sp
  pub loaded : loaded c ≡ slice_index s.stack (place_of n c.word s.vp s.ar s.operand)
  pub byte : c.refill < 2 → loads c ≡ false → byte c ≡ code_byte s (byte_place c.word s.a s.jpc)
  -- what runs behind a stall takes no byte at A
  pub stalled : is_stalled c ≡ true → takes_at_a (slice_index WORDS c.mpc) ≡ false
  pub value : HasValue (c.reading == 1) c s.port

-- ---- the method cache

-- the current method, and its place and words
pub record IsCurrent (shape : Shape) (c : Core) (s : MachineState) (newer : List Entry) (e : Entry) (older : List Entry) : Type 0 where
  pub split : s.cache.contents ≡ newer ++ e ∷ older
  pub method : e.method ≡ s.method
  pub place : c.place ≡ s.method
  pub base : c.base ≡ first_block newer e s.cache * shape.block_words
  pub words : c.header < 4 → c.words ≡ length e.words

-- No load is under way: all methods lie in the ring, and no others.
pub record HasCache (shape : Shape) (c : Core) (s : MachineState) : Type 0 where
  pub methods : HasMethods shape c.ring c.tags c.next_block s.cache
  pub newer : List Entry
  pub method : Entry
  pub older : List Entry
  pub current : IsCurrent shape c s newer method older

-- ---- a load

-- How many words of the method are written: none while its header is read, and then the first clock of a turn writes one.
abbrev pub words_done : Shape → Core → (words : ℕ) → ℕ
words_done shape c words = if nat_lt 0 c.header then 0 else if c.turn == shape.read_wait + 1 then words - c.left else words - c.left + 1

-- What was read of the method's header, and where the words are read: those of the record, then the place of the code.
pub record HasHeader (shape : Shape) (c : Core) (s : MachineState) (e : Entry) : Type 0 where
  pub most : c.header ≤ 4
  pub size : c.header ≡ 4 → c.main_out % 2 ^ 16 ≡ length e.words
  pub entries : c.header ≡ 3 → c.main_out ≡ slice_index s.port.words (s.method + 3)
  pub left : 0 < c.header → c.header < 4 → c.left ≡ length e.words
  pub source : c.header ≤ 2 → c.source ≡ (code_place s.port.words s.method + words_done shape c (length e.words)) % 2 ^ shape.memory_bits
  pub first : c.header ≡ 0 → c.turn ≡ shape.read_wait + 1 → c.main_out ≡ slice_index e.words (length e.words - c.left)
  pub fewer : c.header ≡ 0 → c.left ≤ length e.words
  pub turn : c.header ≡ 0 → c.turn ≤ shape.read_wait + 1

-- The newest method is loaded: the older ones lie in the ring, of this one the words that are written, and its words lie in memory.
pub record IsLoading (shape : Shape) (c : Core) (s : MachineState) : Type 0 where
  pub newest : Entry
  pub older : List Entry
  pub current : IsCurrent shape c s [] newest older
  pub header : HasHeader shape c s newest
  pub size : code_words s.port.words s.method ≡ length newest.words
  pub within : code_place s.port.words s.method + length newest.words ≤ length s.port.words
  pub memory : (i : ℕ) → i < length newest.words → slice_index s.port.words (code_place s.port.words s.method + i) ≡ slice_index newest.words i
  pub part : HasPart shape c.ring c.tags c.next_block s.cache newest (words_done shape c (length newest.words))
  pub target : c.target ≡ (c.base + words_done shape c (length newest.words)) % shape.ring_words
  pub in_block : c.in_block ≡ words_done shape c (length newest.words) % shape.block_words

-- the cycles that a load is still to stall, of a method with so many words
abbrev pub load_left : Shape → Core → (words : ℕ) → ℕ
load_left shape c words =
    if nat_lt 0 c.header then c.header + words * (2 + shape.read_wait)
    else if nat_lt 0 c.left then (c.left - 1) * (2 + shape.read_wait) + c.turn + 1
    else 0

-- what the ring and the tags hold
abbrev pub HasRing : (loads : Bool) → Shape → Core → MachineState → Type 0
HasRing true shape c s = IsLoading shape c s
HasRing false shape c s = HasCache shape c s

-- ---- all of it

-- The circuit stands for this state of a machine of its shape.
pub record Stands (shape : Shape) (c : Core) (s : MachineState) : Type 0 where
  pub has_shape : HasShape shape s
  pub is_ring : IsRing shape c.ring c.tags s.cache
  pub is_cache : IsCache s.cache
  pub places : HasPlaces shape.on_chip_words c
  pub address : c.mpc < 2048
  pub registers : HasRegisters c s
  pub read : HasRead shape.on_chip_words c s
  pub stall : s.stall ≡ c.refill + load_left shape c (code_words s.port.words s.method)
  pub one : (c.refill ≡ 0) ⊎ (loads c ≡ false)
  pub ring : HasRing (loads c) shape c s
