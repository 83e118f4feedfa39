-- A clock in which a word runs that halts or branches by a test: its registers, by what the test says.
use Rattle.std.proofs.Common.{◌≡◌, ◌+◌, ◌-◌, ◌*◌, ◌%◌, ◌^◌, Bool, true, false, refl, sym, ap}
use Rattle.std.specs.Prelude.{◌==◌, if◌then◌else◌}
use Rattle.base.specs.Signed.{holds}
use Rattle.microcode.specs.declared.isa.operation.Operation.TheVariants.{Stbc, Jbr, Hltb, Hltu}
use Rattle.jop_core.specs.declared.halt.Halt.TheVariants.{Ended, Uncaught}
use Rattle.method_cache.specs.Contents.{is_cached}
use Rattle.jop_core.specs.State.{MachineState}
use Rattle.jop_core.specs.Operations.{popped, branch_target, looked_up, can_switch}
use Rattle.jop_core.specs.Cycle.{counted, with_flags}
use Rattle.circuit_cycles.specs.Shape.{Shape}
use Rattle.circuit_cycles.specs.Rom.{has_fit_flags}
use Rattle.circuit_cycles.specs.Core.{Core, Given, next, entry_of, target}
use Rattle.circuit_cycles.specs.Stands.{HasRegisters}
use Rattle.circuit_cycles.proofs.Spelled.{spelled, micro, machine}
use Rattle.circuit_cycles.proofs.Straight.{clock, behind, Ready, low_same}

module _ (shape : Shape) (given : Given) (c : Core) (s : MachineState) where
  ended : (b opd nxt : Bool) → has_fit_flags (spelled Hltb opd nxt) ≡ true → Ready shape given c s Hltb opd nxt
      → HasRegisters (record (clock shape given c s Hltb opd nxt) { halt = if b then 1 else 0 })
      (with_flags (micro Hltb opd nxt) (if b then record (counted (machine c s)) { halt = Ended } else counted (machine c s)))
  unfolding next
  ended true false false fit r = record { a = refl; b = refl; sp = refl; vp = refl; ar = refl; jpc = refl; mpc = refl; operand = refl; opcode = refl; halt = refl; on_chip = refl; main = refl; write_address = refl; count = refl; begun = refl }
  ended true true false fit r = record { a = refl; b = refl; sp = refl; vp = refl; ar = refl; jpc = refl; mpc = refl; operand = ap (λ k. (c.operand * 2 ^ 8 + k) % 2 ^ 32) r.byte; opcode = refl; halt = refl; on_chip = refl; main = refl; write_address = refl; count = refl; begun = refl }
  ended true false true fit r = record { a = refl; b = refl; sp = refl; vp = refl; ar = refl; jpc = refl; mpc = ap entry_of r.byte; operand = refl; opcode = r.byte; halt = refl; on_chip = refl; main = refl; write_address = refl; count = refl; begun = refl }
  ended true true true fit r = let bad : ⊥ = cc in absurd bad
  ended false false false fit r = record { a = refl; b = refl; sp = refl; vp = refl; ar = refl; jpc = refl; mpc = refl; operand = refl; opcode = refl; halt = refl; on_chip = refl; main = refl; write_address = refl; count = refl; begun = refl }
  ended false true false fit r = record { a = refl; b = refl; sp = refl; vp = refl; ar = refl; jpc = refl; mpc = refl; operand = ap (λ k. (c.operand * 2 ^ 8 + k) % 2 ^ 32) r.byte; opcode = refl; halt = refl; on_chip = refl; main = refl; write_address = refl; count = refl; begun = refl }
  ended false false true fit r = record { a = refl; b = refl; sp = refl; vp = refl; ar = refl; jpc = refl; mpc = ap entry_of r.byte; operand = refl; opcode = r.byte; halt = refl; on_chip = refl; main = refl; write_address = refl; count = refl; begun = refl }
  ended false true true fit r = let bad : ⊥ = cc in absurd bad

  uncaught : (b opd nxt : Bool) → has_fit_flags (spelled Hltu opd nxt) ≡ true → Ready shape given c s Hltu opd nxt
      → HasRegisters (record (clock shape given c s Hltu opd nxt) { halt = if b then 2 else 0 })
      (with_flags (micro Hltu opd nxt) (if b then record (counted (machine c s)) { halt = Uncaught } else counted (machine c s)))
  unfolding next
  uncaught true false false fit r = record { a = refl; b = refl; sp = refl; vp = refl; ar = refl; jpc = refl; mpc = refl; operand = refl; opcode = refl; halt = refl; on_chip = refl; main = refl; write_address = refl; count = refl; begun = refl }
  uncaught true true false fit r = record { a = refl; b = refl; sp = refl; vp = refl; ar = refl; jpc = refl; mpc = refl; operand = ap (λ k. (c.operand * 2 ^ 8 + k) % 2 ^ 32) r.byte; opcode = refl; halt = refl; on_chip = refl; main = refl; write_address = refl; count = refl; begun = refl }
  uncaught true false true fit r = record { a = refl; b = refl; sp = refl; vp = refl; ar = refl; jpc = refl; mpc = ap entry_of r.byte; operand = refl; opcode = r.byte; halt = refl; on_chip = refl; main = refl; write_address = refl; count = refl; begun = refl }
  uncaught true true true fit r = let bad : ⊥ = cc in absurd bad
  uncaught false false false fit r = record { a = refl; b = refl; sp = refl; vp = refl; ar = refl; jpc = refl; mpc = refl; operand = refl; opcode = refl; halt = refl; on_chip = refl; main = refl; write_address = refl; count = refl; begun = refl }
  uncaught false true false fit r = record { a = refl; b = refl; sp = refl; vp = refl; ar = refl; jpc = refl; mpc = refl; operand = ap (λ k. (c.operand * 2 ^ 8 + k) % 2 ^ 32) r.byte; opcode = refl; halt = refl; on_chip = refl; main = refl; write_address = refl; count = refl; begun = refl }
  uncaught false false true fit r = record { a = refl; b = refl; sp = refl; vp = refl; ar = refl; jpc = refl; mpc = ap entry_of r.byte; operand = refl; opcode = r.byte; halt = refl; on_chip = refl; main = refl; write_address = refl; count = refl; begun = refl }
  uncaught false true true fit r = let bad : ⊥ = cc in absurd bad

  branched : (b : Bool) → HasRegisters (record (clock shape given c s Jbr false false) { jpc = if b then target c else c.jpc })
      (with_flags (micro Jbr false false) (if b then record (popped (counted (machine c s))) { jpc = branch_target (counted (machine c s)) } else popped (counted (machine c s))))
  unfolding next
  branched true = record { a = refl; b = refl; sp = refl; vp = refl; ar = refl; jpc = sym (ap (λ k. (c.jpc + (2 ^ 16 - 3) + k) % 2 ^ 16) (low_same c.operand)); mpc = refl; operand = refl; opcode = refl; halt = refl; on_chip = refl; main = refl; write_address = refl; count = refl; begun = refl }
  branched false = record { a = refl; b = refl; sp = refl; vp = refl; ar = refl; jpc = refl; mpc = refl; operand = refl; opcode = refl; halt = refl; on_chip = refl; main = refl; write_address = refl; count = refl; begun = refl }

  looked : (can hit : Bool) → HasRegisters (clock shape given c s Stbc false false)
      (with_flags (micro Stbc false false) (if can then looked_up hit c.a (popped (counted (machine c s))) else popped (counted (machine c s))))
  unfolding next
  looked true true = record { a = refl; b = refl; sp = refl; vp = refl; ar = refl; jpc = refl; mpc = refl; operand = refl; opcode = refl; halt = refl; on_chip = refl; main = refl; write_address = refl; count = refl; begun = refl }
  looked true false = record { a = refl; b = refl; sp = refl; vp = refl; ar = refl; jpc = refl; mpc = refl; operand = refl; opcode = refl; halt = refl; on_chip = refl; main = refl; write_address = refl; count = refl; begun = refl }
  looked false hit = record { a = refl; b = refl; sp = refl; vp = refl; ar = refl; jpc = refl; mpc = refl; operand = refl; opcode = refl; halt = refl; on_chip = refl; main = refl; write_address = refl; count = refl; begun = refl }

  -- the registers of a clock in which such a word runs
  pub halts_ended : (opd nxt : Bool) → has_fit_flags (spelled Hltb opd nxt) ≡ true → Ready shape given c s Hltb opd nxt → HasRegisters (clock shape given c s Hltb opd nxt) (behind shape given c s Hltb opd nxt)
  unfolding next
  halts_ended false false fit r = ended (c.vp == 64) false false fit r
  halts_ended true false fit r = ended (c.vp == 64) true false fit r
  halts_ended false true fit r = ended (c.vp == 64) false true fit r
  halts_ended true true fit r = let bad : ⊥ = cc in absurd bad

  pub halts_uncaught : (opd nxt : Bool) → has_fit_flags (spelled Hltu opd nxt) ≡ true → Ready shape given c s Hltu opd nxt → HasRegisters (clock shape given c s Hltu opd nxt) (behind shape given c s Hltu opd nxt)
  unfolding next
  halts_uncaught false false fit r = uncaught (c.vp == 64) false false fit r
  halts_uncaught true false fit r = uncaught (c.vp == 64) true false fit r
  halts_uncaught false true fit r = uncaught (c.vp == 64) false true fit r
  halts_uncaught true true fit r = let bad : ⊥ = cc in absurd bad

  pub branches : (opd nxt : Bool) → has_fit_flags (spelled Jbr opd nxt) ≡ true → HasRegisters (clock shape given c s Jbr opd nxt) (behind shape given c s Jbr opd nxt)
  unfolding next
  branches false false fit = branched (holds c.opcode c.b c.a)
  branches true false fit = let bad : ⊥ = cc in absurd bad
  branches false true fit = let bad : ⊥ = cc in absurd bad
  branches true true fit = let bad : ⊥ = cc in absurd bad

  pub switches_method : (opd nxt : Bool) → has_fit_flags (spelled Stbc opd nxt) ≡ true → HasRegisters (clock shape given c s Stbc opd nxt) (behind shape given c s Stbc opd nxt)
  switches_method false false fit = looked (can_switch (counted (machine c s)) c.a) (is_cached c.a s.cache)
  switches_method true false fit = let bad : ⊥ = cc in absurd bad
  switches_method false true fit = let bad : ⊥ = cc in absurd bad
  switches_method true true fit = let bad : ⊥ = cc in absurd bad
