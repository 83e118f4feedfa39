-- What the method cache and the main memory do in a cycle, and the nets that stand for it.
use Rattle.std.specs.Prelude.{◌≡◌, ℕ, ◌*◌, ◌<◌, Bool, true, false, Option, Some, None}
use Rattle.netlist.specs.Meaning.{Words, word_on, bit_of}
use Rattle.netlist.specs.declared.net.Net.{Net}
use Rattle.circuit_core.specs.declared.cycle.Cycle.{Cycle}
use Rattle.circuit_core.specs.declared.registers.Method.{Method}
use Rattle.circuit_cycles.specs.Shape.{Shape}
use Rattle.circuit_cycles.specs.Core.{Core, found, switches, misses, has_words, has_entries, fills_word}
use Rattle.circuit_core.specs.Standing.{Stands}
use Rattle.machine_circuit.specs.declared.nets.Found.{Found}
use Rattle.machine_circuit.specs.declared.nets.Switch.{Switch}

-- ---- what a look-up finds: the number of the block in which the method begins, and its words

abbrev pub is_hit : Option (ℕ × ℕ) → Bool
is_hit found = elim found [ None ↦ false | Some _ ↦ true ]

abbrev pub base_found : Shape → Option (ℕ × ℕ) → ℕ
base_found shape found = elim found [ None ↦ 0 | Some f ↦ f.0 * shape.block_words ]

abbrev pub words_found : Option (ℕ × ℕ) → ℕ
words_found found = elim found [ None ↦ 0 | Some f ↦ f.1 ]

-- The nets have this.
pub record HasFound (shape : Shape) (ws : Words) (nets : Found) (found : Option (ℕ × ℕ)) : Type 0 where
  pub is_hit : word_on ws nets.is_hit ≡ bit_of (is_hit found)
  pub base : word_on ws nets.base ≡ base_found shape found
  pub words : word_on ws nets.words ≡ words_found found

-- They have what a look-up of A finds.
abbrev pub Finds : (shape : Shape) (ws : Words) (nets : Found) (core : Core) → Type 0
Finds shape ws nets core = HasFound shape ws nets (found core)

-- ---- what a cycle does to the cache

pub record Loads (shape : Shape) (ws : Words) (nets : Switch) (core : Core) : Type 0 where
  pub switches : word_on ws nets.switches ≡ bit_of (switches core)
  pub misses : word_on ws nets.misses ≡ bit_of (misses core)
  pub has_words : word_on ws nets.has_words ≡ bit_of (has_words core)
  pub has_entries : word_on ws nets.has_entries ≡ bit_of (has_entries core)
  pub writes : word_on ws nets.writes ≡ bit_of (fills_word shape core)

-- The counters of a load are within what they count.
pub record IsWithin (shape : Shape) (core : Core) : Type 0 where
  pub next_block : core.next_block < shape.blocks
  pub target : core.target < shape.ring_words
  pub in_block : core.in_block < shape.block_words

-- The registers of the current method are as wide as the shape says.
pub record HasShape (shape : Shape) (nets : Method) : Type 0 where
  pub place : nets.place.width ≡ shape.memory_bits
  pub base : nets.base.width ≡ shape.ring_bits
  pub in_block : nets.in_block.width ≡ shape.in_block_bits
  pub next_block : nets.next_block.width ≡ shape.block_bits

-- The net has this word of the core for which the nets of a cycle stand, and those of what the cycle does to the cache.
abbrev pub Moves : Shape → Cycle → Switch → Net → (Core → ℕ) → Words → Type 0
Moves shape nets s net word ws = (n : ℕ) (core : Core) → Stands n ws nets core → Loads shape ws s core → word_on ws net ≡ word core
