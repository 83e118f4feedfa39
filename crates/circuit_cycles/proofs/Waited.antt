-- A clock in which a wait runs at a port that is ready behind it: its registers.
use Rattle.std.proofs.Common.{◌≡◌, ℕ, zero, suc, ◌+◌, ◌*◌, ◌%◌, ◌^◌, Bool, true, false, refl, ap, arith, ltb-false}
use Rattle.std.specs.Prelude.{nat_lt}
use Rattle.microcode.specs.declared.isa.operation.Operation.TheVariants.{Wait}
use Rattle.jop_core.specs.State.{MachineState}
use Rattle.circuit_cycles.specs.Shape.{Shape}
use Rattle.circuit_cycles.specs.Rom.{has_fit_flags}
use Rattle.circuit_cycles.specs.Core.{Core, Given, next, entry_of}
use Rattle.circuit_cycles.specs.Stands.{HasRegisters}
use Rattle.circuit_cycles.proofs.Spelled.{spelled}
use Rattle.circuit_cycles.proofs.Straight.{clock, behind, Ready}

-- the core at whose port so many cycles are left
abbrev pub counting : ℕ → Core → Core
counting k c = record c { count = k }

module _ (shape : Shape) (given : Given) (c : Core) (s : MachineState) where
  pub waited : (k : ℕ) (opd nxt : Bool) → nat_lt 1 k ≡ false → has_fit_flags (spelled Wait opd nxt) ≡ true → Ready shape given (counting k c) s Wait opd nxt
      → HasRegisters (clock shape given (counting k c) s Wait opd nxt) (behind shape given (counting k c) s Wait opd nxt)
  unfolding next
  waited zero false false few fit r = record { a = refl; b = refl; sp = refl; vp = refl; ar = refl; jpc = refl; mpc = refl; operand = refl; opcode = refl; halt = refl; on_chip = refl; main = refl; write_address = refl; count = refl; begun = refl }
  waited zero true false few fit r = record { a = refl; b = refl; sp = refl; vp = refl; ar = refl; jpc = refl; mpc = refl; operand = ap (λ k. (c.operand * 2 ^ 8 + k) % 2 ^ 32) r.byte; opcode = refl; halt = refl; on_chip = refl; main = refl; write_address = refl; count = refl; begun = refl }
  waited zero false true few fit r = record { a = refl; b = refl; sp = refl; vp = refl; ar = refl; jpc = refl; mpc = ap entry_of r.byte; operand = refl; opcode = r.byte; halt = refl; on_chip = refl; main = refl; write_address = refl; count = refl; begun = refl }
  waited zero true true few fit r = let bad : ⊥ = cc in absurd bad
  waited (suc zero) false false few fit r = record { a = refl; b = refl; sp = refl; vp = refl; ar = refl; jpc = refl; mpc = refl; operand = refl; opcode = refl; halt = refl; on_chip = refl; main = refl; write_address = refl; count = refl; begun = refl }
  waited (suc zero) true false few fit r = record { a = refl; b = refl; sp = refl; vp = refl; ar = refl; jpc = refl; mpc = refl; operand = ap (λ k. (c.operand * 2 ^ 8 + k) % 2 ^ 32) r.byte; opcode = refl; halt = refl; on_chip = refl; main = refl; write_address = refl; count = refl; begun = refl }
  waited (suc zero) false true few fit r = record { a = refl; b = refl; sp = refl; vp = refl; ar = refl; jpc = refl; mpc = ap entry_of r.byte; operand = refl; opcode = r.byte; halt = refl; on_chip = refl; main = refl; write_address = refl; count = refl; begun = refl }
  waited (suc zero) true true few fit r = let bad : ⊥ = cc in absurd bad
  waited (suc (suc k)) opd nxt few fit r = let h = ltb-false 1 (suc (suc k)) few in absurd (omega (arith, h))
