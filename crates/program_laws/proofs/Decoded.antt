-- The first operand of an instruction is an int.
use Rattle.std.proofs.Common.{◌≡◌, ℕ, zero, suc, ◌+◌, ◌^◌, ◌<◌, Bool, true, false, List, [], ◌∷◌, length, pos, subst, arith}
use Rattle.std.specs.Prelude.{Result, Ok, Err, FitsSigned, nat_le, nat_lt, if◌then◌else◌}
use Rattle.std.specs.Int.{w8, w16, w32}
use Rattle.std.specs.List.{AllByRecursion}
use Rattle.std.proofs.Math.Facts.{sfits_to_z, sfits_widen}
use Rattle.std.proofs.lemmas.Int.{fits_signed_from_abs}
use Rattle.opcodes.specs.declared.instruction.Instr.{Instr}
use Rattle.opcodes.specs.declared.instruction.DecodeFault.{DecodeFault}
use Rattle.opcodes.specs.declared.instruction.DecodeFault.TheVariants.{Short}
use Rattle.opcodes.specs.Bytes.{u1, u2, u4}
use Rattle.opcodes.specs.Form.{FixedOperand, Absent, UnsignedByte, UnsignedShort, SignedByte, SignedShort, Offset, WideOffset, Form, NotAnOpcode, Fixed, Widened, TableSwitch, LookupSwitch, Wide}
use Rattle.opcodes.specs.Instruction.{value_at, widened_at, spelled_at, within, decoded}
use Rattle.opcodes.specs.Row.{row_of}

abbrev pub AreBytes : List ℕ → Type 0
AreBytes code = AllByRecursion (λ byte. byte < 2 ^ 8) code

byte_at : (code : List ℕ) (place : ℕ) → AreBytes code → u1 code place < 2 ^ 8
byte_at [] place a = omega arith
byte_at (b ∷ code) zero a = a.0
byte_at (b ∷ code) (suc place) a = byte_at code place a.1

half_at : (code : List ℕ) (place : ℕ) → AreBytes code → u2 code place < 2 ^ 16
half_at code place a = let x = byte_at code place a in let y = byte_at code (place + 1) a in omega (arith, x, y)

word_at : (code : List ℕ) (place : ℕ) → AreBytes code → u4 code place < 2 ^ 32
word_at code place a = let x = half_at code place a in let y = half_at code (place + 2) a in omega (arith, x, y)

value_fits : (code : List ℕ) (place : ℕ) → AreBytes code → (o : FixedOperand) → FitsSigned w32 (value_at code place o)
value_fits code place a Absent = fits_signed_from_abs w32 (pos 0) (omega arith)
value_fits code place a UnsignedByte = let x = byte_at code place a in fits_signed_from_abs w32 (pos (u1 code place)) (omega (arith, x))
value_fits code place a UnsignedShort = let x = half_at code place a in fits_signed_from_abs w32 (pos (u2 code place)) (omega (arith, x))
value_fits code place a SignedByte = sfits_widen {w = w8} {w' = w32} tt (sfits_to_z {w = w8} {n = u1 code place} (record { fits = byte_at code place a }))
value_fits code place a SignedShort = sfits_widen {w = w16} {w' = w32} tt (sfits_to_z {w = w16} {n = u2 code place} (record { fits = half_at code place a }))
value_fits code place a Offset = sfits_widen {w = w16} {w' = w32} tt (sfits_to_z {w = w16} {n = u2 code place} (record { fits = half_at code place a }))
value_fits code place a WideOffset = sfits_to_z {w = w32} {n = u4 code place} (record { fits = word_at code place a })

abbrev Fits : Result Instr DecodeFault → Type 0
Fits (Ok i) = FitsSigned w32 i.first
Fits (Err e) = Unit {0}

widened_fits : (code : List ℕ) (pc : ℕ) → AreBytes code → (f : Form) → Fits (widened_at code pc f)
widened_fits code pc a NotAnOpcode = tt
widened_fits code pc a (Fixed o) = tt
widened_fits code pc a (Widened o w) = value_fits code (pc + 1 + 1) a w.first
widened_fits code pc a TableSwitch = tt
widened_fits code pc a LookupSwitch = tt
widened_fits code pc a Wide = tt

either_fits : (b : Bool) (x : Result Instr DecodeFault) → Fits x → Fits (if b then x else Err Short)
either_fits true x h = h
either_fits false x h = tt

spelled_fits : (code : List ℕ) (pc : ℕ) → AreBytes code → (f : Form) → Fits (spelled_at code pc f)
spelled_fits code pc a NotAnOpcode = tt
spelled_fits code pc a (Fixed o) = value_fits code (pc + 0 + 1) a o.first
spelled_fits code pc a (Widened o w) = value_fits code (pc + 0 + 1) a o.first
spelled_fits code pc a TableSwitch = sfits_to_z {w = w32} {n = u4 code _} (record { fits = word_at code _ a })
spelled_fits code pc a LookupSwitch = sfits_to_z {w = w32} {n = u4 code _} (record { fits = word_at code _ a })
spelled_fits code pc a Wide = either_fits (nat_lt (pc + 1) (length code)) (widened_at code pc (row_of (u1 code (pc + 1))).form) (widened_fits code pc a (row_of (u1 code (pc + 1))).form)

within_fits : (code : List ℕ) (pc : ℕ) (x : Result Instr DecodeFault) → Fits x → Fits (within code pc x)
within_fits code pc (Ok i) h = either_fits (nat_le (pc + i.length) (length code)) (Ok i) h
within_fits code pc (Err e) h = tt

pub first_fits : (code : List ℕ) (pc : ℕ) (i : Instr) → AreBytes code → decoded code pc ≡ Ok i → FitsSigned w32 i.first
unfolding decoded
first_fits code pc i a h = subst Fits h (within_fits code pc (spelled_at code pc (row_of (u1 code pc)).form) (spelled_fits code pc a (row_of (u1 code pc)).form))
