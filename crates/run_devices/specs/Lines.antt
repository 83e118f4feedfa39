-- The lines of a trace.
use Rattle.std.specs.Prelude.{ℕ, Bool, true, false, List, [], ◌∷◌, codes, decimal, drop, Some, None}
use Rattle.std.specs.declared.option.Option.{Option}
use Rattle.std.specs.List.{concat}
use Rattle.opcodes.specs.Row.{row_of}
use Rattle.device_traits.specs.declared.seen.Seen.{Seen}
use Rattle.device_traits.specs.Told.{DeviceNote, Wrote, Saw}
use Rattle.run_devices.specs.declared.lines.AtBoundary.{AtBoundary}
use Rattle.ascii_text.specs.Hex.{hex, short_hex}

-- the mnemonic of the instruction, or that an object is raised
abbrev pub step_name : Option ℕ → List ℕ
step_name (Some opcode) = (row_of opcode).mnemonic
step_name None = codes "raise"

-- CLOCK METHOD PC NAME frames=F operands=W
abbrev pub step_line : (clock : ℕ) → (method : List ℕ) → (pc : ℕ) → (name : List ℕ) → (frames operands : ℕ) → List ℕ
step_line clock method pc name frames operands = concat (
    decimal clock ∷ codes " " ∷ method ∷ codes " " ∷ decimal pc ∷ codes " " ∷ name ∷ codes " frames=" ∷ decimal frames ∷ codes " operands=" ∷ decimal operands
    ∷ codes "\n" ∷ [])

abbrev pub boundary_line : AtBoundary → List ℕ
boundary_line at = step_line at.clock at.method.now at.pc (step_name at.opcode) at.frames at.operands

-- write XX
abbrev pub write_line : (byte : ℕ) → List ℕ
write_line byte = concat (codes "write " ∷ drop 6 (hex 8 byte) ∷ codes "\n" ∷ [])

-- CLOCK MPC A B SP VP
abbrev pub registers_line : (clock : ℕ) → (mpc a b sp vp : List ℕ) → List ℕ
registers_line clock mpc a b sp vp = concat (decimal clock ∷ codes " " ∷ mpc ∷ codes " " ∷ a ∷ codes " " ∷ b ∷ codes " " ∷ sp ∷ codes " " ∷ vp ∷ codes "\n"
    ∷ [])

abbrev pub cycle_line : Seen → List ℕ
cycle_line at = registers_line at.clock (short_hex at.mpc) (hex 8 at.a) (hex 8 at.b) (short_hex at.sp) (short_hex at.vp)

-- ---- of what the devices note

-- what a trace has of the bytes that a step writes and, with its cycles, of the states from which these are done
abbrev pub note_line : (cycles : Bool) → DeviceNote → List ℕ
note_line cycles (Wrote byte) = write_line byte
note_line true (Saw at) = cycle_line at
note_line false (Saw at) = []
