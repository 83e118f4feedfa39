-- The registers behind a cycle that decide where memories are read, and the nets that hold them.
use Rattle.std.specs.Prelude.{◌≡◌, ℕ, ◌^◌, ◌<◌}
use Rattle.netlist.specs.Meaning.{Words, word_on}
use Rattle.netlist.specs.declared.net.Net.{Net}
use Rattle.circuit_core.specs.declared.cycle.Cycle.{Cycle}
use Rattle.circuit_cycles.specs.Core.{Core, byte, next_ar, next_jpc, next_operand, next_sp, next_vp, next_word}
use Rattle.circuit_core.specs.Decoding.{Decodes}
use Rattle.circuit_core.specs.Standing.{Stands}
use Rattle.machine_circuit.specs.declared.nets.Next.{Next}

-- The nets hold them; the on-chip memory has n words.
pub record HoldsNext (n : ℕ) (ws : Words) (nets : Next) (core : Core) : Type 0 where
  pub places : 2 ^ nets.vp.width ≡ n
  pub word : Decodes ws nets.word (next_word core)
  pub sp : word_on ws nets.sp ≡ next_sp n core
  pub vp : word_on ws nets.vp ≡ next_vp n core
  pub vp_fits : next_vp n core < n
  pub ar : word_on ws nets.ar ≡ next_ar n core
  pub operand : word_on ws nets.operand ≡ next_operand core
  pub jpc : word_on ws nets.jpc ≡ next_jpc core

-- Where this net has the byte that the cycle takes, those nets hold the registers behind it.
abbrev pub MovesOn : (cycle : Cycle) (byte_net : Net) (nets : Next) → Words → Type 0
MovesOn cycle byte_net nets ws = (n : ℕ) (core : Core) → Stands n ws cycle core → word_on ws byte_net ≡ byte core → HoldsNext n ws nets core
