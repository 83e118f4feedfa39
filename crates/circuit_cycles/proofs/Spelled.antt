-- A circuit in which a plain word runs, and the machine and the shape that it has, written so that what the word does computes.
use Rattle.std.proofs.Common.{◌≡◌, ℕ, ◌+◌, ◌*◌, ◌%◌, ◌^◌, ◌<◌, ◌≤◌, Bool, length}
use Rattle.std.specs.Prelude.{◌==◌, slice_index}
use Rattle.microcode.specs.declared.isa.operation.Operation.{Operation}
use Rattle.microcode.specs.declared.isa.Body.TheVariants.{Plain}
use Rattle.microcode.specs.declared.isa.Micro.{Micro}
use Rattle.microcode.specs.Isa.Words.{bit}
use Rattle.machine_memory.specs.Timing.Port.{Port}
use Rattle.jop_core.specs.declared.halt.Halt.TheVariants.{Running}
use Rattle.jop_core.specs.State.{MachineState}
use Rattle.jop_core.specs.Cycle.{code_byte, counted, performed}
use Rattle.circuit_cycles.specs.Shape.{Shape}
use Rattle.circuit_cycles.specs.Words.{place_of}
use Rattle.circuit_cycles.specs.Core.{Core, Given, next, below, loaded, byte, byte_place}
use Rattle.circuit_cycles.specs.Stands.{HasRegisters, HasValue}
use Rattle.circuit_cycles.proofs.Signals.{code_of}

-- the word of an operation with these flags
abbrev pub spelled : Operation → (opd nxt : Bool) → ℕ
spelled op opd nxt = bit nxt * 2 ^ 15 + bit opd * 2 ^ 14 + code_of op

abbrev pub micro : Operation → (opd nxt : Bool) → Micro
micro op opd nxt = record { body = Plain (code_of op); opd = opd; nxt = nxt }

-- the core where this word runs, and the port counts so far
abbrev pub running : (word count : ℕ) → Core → Core
running word count c = record c { word = word; refill = 0; starting = 0; halt = 0; header = 0; left = 0; count = count }

-- the core whose block RAM gives the word below B
abbrev pub settled : Core → Core
settled c = record c { below_passed = 0; below_out = slice_index c.on_chip (c.sp % length c.on_chip) }

-- the machine with the registers of a core
abbrev pub machine : Core → MachineState → MachineState
machine c s = record s {
  a = c.a;
  b = c.b;
  sp = c.sp;
  vp = c.vp;
  ar = c.ar;
  jpc = c.jpc;
  mpc = c.mpc;
  operand = c.operand;
  opcode = c.opcode;
  halt = Running;
  stack = c.on_chip;
  port = record s.port { words = c.main; count = c.count };
  write_address = c.write_address;
}

-- the shape of a core and a port
abbrev pub shaped : Shape → Core → Port → Shape
shaped shape c port = record shape { on_chip_words = length c.on_chip; memory_words = length c.main; read_wait = port.read; write_wait = port.write }

-- what was read ahead for the word that runs
pub record IsReady (shape : Shape) (c : Core) (s : MachineState) : Type 0 where
  pub below : below c ≡ slice_index c.on_chip (c.sp % length c.on_chip)
  pub loaded : loaded c ≡ slice_index c.on_chip (place_of (length c.on_chip) c.word c.vp c.ar c.operand)
  pub byte : byte c ≡ code_byte s (byte_place c.word c.a c.jpc)
  pub vp : c.vp < length c.on_chip
  pub ar : c.ar < length c.on_chip
  pub bits : length c.main ≤ 2 ^ shape.memory_bits
  pub value : HasValue (c.reading == 1) c s.port

-- the registers of the clock are those of the machine behind this microinstruction
abbrev pub Follows : Given → Micro → Shape → Core → MachineState → Type 0
Follows given m shape c s = IsReady shape c s → HasRegisters (next shape given c) (performed given.input m (counted s))
