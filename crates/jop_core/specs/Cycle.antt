-- One cycle of the machine.
use Rattle.std.specs.Prelude.{ℕ, ◌+◌, ◌-◌, ◌*◌, ◌/◌, ◌%◌, ◌^◌, Bool, true, false, ◌==◌, ◌&&◌, ◌||◌, nat_lt, if◌then◌else◌, List, [], ◌∷◌, Some, None}
use Rattle.std.specs.Prelude.{slice_index}
use Rattle.std.specs.declared.option.Option.{Option}
use Rattle.microcode.specs.declared.isa.Body.{Body}
use Rattle.microcode.specs.declared.isa.Body.TheVariants.{Plain, Stm, Ldm, Ldi, Bz, Bnz, Jmp}
use Rattle.microcode.specs.declared.isa.Micro.{Micro}
use Rattle.microcode.specs.declared.isa.operation.Operation.{Operation}
use Rattle.microcode.specs.declared.isa.operation.Operation.TheVariants.{Wait, Ldin, Stout}
use Rattle.microcode.specs.Isa.Operations.{operation_of}
use Rattle.microcode.specs.Isa.Words.{micro_of}
use Rattle.microcode.specs.declared.TheConstants.{WORDS, ENTRIES, RAISE}
use Rattle.machine_memory.specs.Timing.Port.{ticked}
use Rattle.method_cache.specs.Contents.{word_of}
use Rattle.jop_core.specs.declared.halt.Halt.{Halt}
use Rattle.jop_core.specs.declared.halt.Halt.TheVariants.{Running, Ended, Uncaught}
use Rattle.jop_core.specs.State.{MachineState}
pub use Rattle.base.specs.Packed.{byte_of}
use Rattle.jop_core.specs.Operations.{pushed, popped, stored, word_at, operated}

-- a byte of the current method; past its words, and where the cache doesn't hold it, it is 0
abbrev pub code_byte : MachineState → ℕ → ℕ
code_byte s place = byte_of (word_of s.method (place / 4) s.cache) (place % 4)

-- the byte at jpc
abbrev pub byte_at : MachineState → ℕ
byte_at s = code_byte s s.jpc

-- where the row of an opcode begins
abbrev pub entry_of : ℕ → ℕ
entry_of op = slice_index ENTRIES op

-- the next address
abbrev pub advanced : MachineState → MachineState
advanced s = record s { mpc = (s.mpc + 1) % 2048 }

-- a branch of the microcode, and the stall of one that is taken
abbrev pub branched : Bool → ℕ → MachineState → MachineState
branched true to s = record s { mpc = to; stall = 2 }
branched false to s = advanced s

-- the flag opd: the byte at jpc is shifted into the operand register
abbrev pub with_opd : Bool → MachineState → MachineState
with_opd true s = record s { operand = (s.operand * 2 ^ 8 + byte_at s) % 2 ^ 32; jpc = (s.jpc + 1) % 2 ^ 16 }
with_opd false s = s

-- the flag nxt: the byte at jpc is the next opcode, and its row the next to run
abbrev pub with_nxt : Bool → MachineState → MachineState
with_nxt true s = record s { operand = 0; opcode = byte_at s; jpc = (s.jpc + 1) % 2 ^ 16; mpc = entry_of (byte_at s) }
with_nxt false s = advanced s

abbrev pub with_flags : Micro → MachineState → MachineState
with_flags m s = with_nxt m.nxt (with_opd m.opd s)

-- what a microinstruction does
abbrev pub performed : (input : Option ℕ) → Micro → MachineState → MachineState
performed input m s =
    elim m.body [
      | Plain code ↦ with_flags m (operated input (operation_of code) s)
      | Stm place ↦ with_flags m (stored place s)
      | Ldm place ↦ with_flags m (pushed (word_at s place) s)
      | Ldi number ↦ with_flags m (pushed (word_at s (32 + number)) s)
      | Bz to ↦ branched (s.a == 0) to (popped s)
      | Bnz to ↦ branched (nat_lt 0 s.a) to (popped s)
      | Jmp to ↦ branched true to s
    ]

abbrev pub is_wait : Operation → Bool
is_wait Wait = true
is_wait _ = false

abbrev pub body_waits : Body → Bool
body_waits (Plain code) = is_wait (operation_of code)
body_waits _ = false

-- a wait at a port that isn't ready does nothing at all
abbrev pub waits : Micro → MachineState → Bool
waits m s = body_waits m.body && nat_lt 0 s.port.count

abbrev pub ran : (input : Option ℕ) → Option Micro → MachineState → MachineState
ran input None s = s
ran input (Some m) s = if waits m s then s else performed input m s

-- the microinstruction at mpc
abbrev pub micro_at : MachineState → Option Micro
micro_at s = micro_of (slice_index WORDS s.mpc)

-- the clock rises, and a port that is busy comes nearer to ready
abbrev pub counted : MachineState → MachineState
counted s = record s { clock = s.clock + 1; port = ticked s.port }

-- A cycle of a machine that hasn't halted: a pending stall falls, and without one a microinstruction runs. The input is the answer to `ldin`.
unfoldable pub cycle_of : (input : Option ℕ) → MachineState → MachineState
cycle_of input s = if nat_lt 0 s.stall then record (counted s) { stall = s.stall - 1 } else ran input (micro_at s) (counted s)

abbrev pub is_ldin : Operation → Bool
is_ldin Ldin = true
is_ldin _ = false

abbrev pub body_asks : Body → Bool
body_asks (Plain code) = is_ldin (operation_of code)
body_asks _ = false

abbrev pub asks : Option Micro → Bool
asks None = false
asks (Some m) = body_asks m.body

-- whether the cycle asks for the next byte of the input
unfoldable pub asks_input : MachineState → Bool
asks_input s = if nat_lt 0 s.stall then false else asks (micro_at s)

abbrev pub is_stout : Operation → Bool
is_stout Stout = true
is_stout _ = false

abbrev pub body_outputs : Body → Bool
body_outputs (Plain code) = is_stout (operation_of code)
body_outputs _ = false

-- the low byte of A, where it is put out
abbrev pub puts : Option Micro → ℕ → List ℕ
puts None a = []
puts (Some m) a = if body_outputs m.body then a % 2 ^ 8 ∷ [] else []

-- the byte that the cycle puts out, if it puts one
unfoldable pub output_of : MachineState → List ℕ
output_of s = if nat_lt 0 s.stall then [] else puts (micro_at s) s.a

abbrev pub is_running : Halt → Bool
is_running Running = true
is_running Ended = false
is_running Uncaught = false

-- about to run the first microinstruction of a bytecode or of the raise routine, or halted
abbrev pub at_boundary : MachineState → Bool
at_boundary s = if is_running s.halt then s.stall == 0 && (s.mpc == entry_of s.opcode || s.mpc == RAISE) else true
