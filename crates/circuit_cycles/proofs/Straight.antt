-- A clock in which a plain word runs that neither waits, nor switches, nor halts, nor branches by a test: its registers.
use Rattle.std.proofs.Common.{◌≡◌, ℕ, ◌+◌, ◌-◌, ◌*◌, ◌%◌, ◌^◌, ◌<◌, ◌≤◌, Bool, true, false, List, length, Option, Some, None, refl, sym, ap, inl, inr, mod-eq_of_lt, ◌∙◌, arith}
use Rattle.std.specs.Prelude.{◌==◌, nat_lt, if◌then◌else◌, slice_set, slice_index}
use Rattle.std.proofs.lemmas.Bool.{cases_lt}
use Rattle.std.proofs.lemmas.List.{set_past}
use Rattle.microcode.specs.declared.isa.operation.Operation.{Operation}
use Rattle.microcode.specs.declared.isa.operation.Operation.TheVariants.{St0, Stmi, Ldl, Ld0, Ld1, Ld2, Ld3, Ldmi, Ldmrd, Ldin, Stmwd, Wait, Stbc, Jbr, Hltb, Hltu, Jbg, Stjpc}
use Rattle.machine_memory.specs.Timing.Port.{Port}
use Rattle.jop_core.specs.State.{MachineState}
use Rattle.base.specs.Signed.{sign_extended16}
use Rattle.jop_core.specs.Operations.{input_word}
use Rattle.jop_core.specs.Cycle.{counted, performed}
use Rattle.circuit_cycles.specs.Shape.{Shape}
use Rattle.circuit_cycles.specs.Rom.{has_fit_flags}
use Rattle.circuit_cycles.specs.Core.{Core, Given, next, pushed_plain, entry_of}
use Rattle.circuit_cycles.specs.Stands.{HasRegisters, HasValue, halt_code}
use Rattle.circuit_cycles.proofs.Signals.{lt_is, ge_is}
use Rattle.circuit_cycles.proofs.Spelled.{spelled, micro, running, settled, machine, shaped, IsReady}

-- the operations that don't wait, switch the method or test anything
abbrev pub is_untested : Operation → Bool
is_untested Wait = false
is_untested Stbc = false
is_untested Jbr = false
is_untested Hltb = false
is_untested Hltu = false
is_untested _ = true

-- a port that isn't read gives the value that it has
value_is : (c : Core) (port : Port) (b : Bool) → HasValue b c port → (b ≡ true → HasValue true c port → ⊥) → c.value ≡ port.value
value_is c port true h none = absurd (none refl h)
value_is c port false h none = h

-- the next byte of the input, and all bits at its end
input_is : (input : Option ℕ) (c : Core) → pushed_plain Ldin input c ≡ input_word input
input_is None c = refl
input_is (Some byte) c = refl

-- the low half of a word whose low half is extended is that half
pub low_same : (x : ℕ) → sign_extended16 x % 2 ^ 16 ≡ x % 2 ^ 16
low_same x = by (nat_lt (x % 2 ^ 16) (2 ^ 15))
  where
    by : (b : Bool) → (if b then x % 2 ^ 16 else x % 2 ^ 16 + (2 ^ 32 - 2 ^ 16)) % 2 ^ 16 ≡ x % 2 ^ 16
    by true = omega arith
    by false = omega arith

-- a write past the end writes nothing
write_is : (words : List ℕ) (bits to v : ℕ) → length words ≤ 2 ^ bits
    → (if nat_lt to (length words) then slice_set words (to % 2 ^ bits) v else words) ≡ slice_set words to v
write_is words bits to v h = elim (cases_lt to (length words)) [
  | inl low ↦
      ap (λ b. if b then slice_set words (to % 2 ^ bits) v else words) (lt_is to (length words) low)
      ∙ ap (λ k. slice_set words k v) (mod-eq_of_lt (let e : to < 2 ^ bits = omega (arith, low, h) in e))
  | inr past ↦ ap (λ b. if b then slice_set words (to % 2 ^ bits) v else words) (ge_is to (length words) past) ∙ sym (set_past words to v past)
]

module _ (shape : Shape) (given : Given) (c : Core) (s : MachineState) where
  abbrev pub core : (op : Operation) (opd nxt : Bool) → Core
  core op opd nxt = running (spelled op opd nxt) c.count (settled c)

  abbrev pub own : Shape
  own = shaped shape c s.port

  abbrev pub clock : (op : Operation) (opd nxt : Bool) → Core
  clock op opd nxt = next own given (core op opd nxt)

  abbrev pub behind : (op : Operation) (opd nxt : Bool) → MachineState
  behind op opd nxt = performed given.input (micro op opd nxt) (counted (machine c s))

  abbrev pub Ready : (op : Operation) (opd nxt : Bool) → Type 0
  Ready op opd nxt = IsReady own (core op opd nxt) (machine c s)

  a_is : (op : Operation) (opd nxt : Bool) → is_untested op ≡ true → Ready op opd nxt → (clock op opd nxt).a ≡ (behind op opd nxt).a
  unfolding next
  a_is Wait opd nxt straight r = let bad : ⊥ = cc in absurd bad
  a_is Stbc opd nxt straight r = let bad : ⊥ = cc in absurd bad
  a_is Jbr opd nxt straight r = let bad : ⊥ = cc in absurd bad
  a_is Hltb opd nxt straight r = let bad : ⊥ = cc in absurd bad
  a_is Hltu opd nxt straight r = let bad : ⊥ = cc in absurd bad
  a_is Ldl false false straight r = r.loaded
  a_is Ldl true false straight r = r.loaded
  a_is Ldl false true straight r = r.loaded
  a_is Ldl true true straight r = r.loaded
  a_is Ld1 false false straight r = r.loaded
  a_is Ld1 true false straight r = r.loaded
  a_is Ld1 false true straight r = r.loaded
  a_is Ld1 true true straight r = r.loaded
  a_is Ld2 false false straight r = r.loaded
  a_is Ld2 true false straight r = r.loaded
  a_is Ld2 false true straight r = r.loaded
  a_is Ld2 true true straight r = r.loaded
  a_is Ld3 false false straight r = r.loaded
  a_is Ld3 true false straight r = r.loaded
  a_is Ld3 false true straight r = r.loaded
  a_is Ld3 true true straight r = r.loaded
  a_is Ld0 false false straight r = r.loaded ∙ sym (ap (λ k. slice_index c.on_chip k) (mod-eq_of_lt r.vp))
  a_is Ld0 true false straight r = r.loaded ∙ sym (ap (λ k. slice_index c.on_chip k) (mod-eq_of_lt r.vp))
  a_is Ld0 false true straight r = r.loaded ∙ sym (ap (λ k. slice_index c.on_chip k) (mod-eq_of_lt r.vp))
  a_is Ld0 true true straight r = r.loaded ∙ sym (ap (λ k. slice_index c.on_chip k) (mod-eq_of_lt r.vp))
  a_is Ldmi false false straight r = r.loaded ∙ sym (ap (λ k. slice_index c.on_chip k) (mod-eq_of_lt r.ar))
  a_is Ldmi true false straight r = r.loaded ∙ sym (ap (λ k. slice_index c.on_chip k) (mod-eq_of_lt r.ar))
  a_is Ldmi false true straight r = r.loaded ∙ sym (ap (λ k. slice_index c.on_chip k) (mod-eq_of_lt r.ar))
  a_is Ldmi true true straight r = r.loaded ∙ sym (ap (λ k. slice_index c.on_chip k) (mod-eq_of_lt r.ar))
  a_is Ldmrd false false straight r = value_is (core Ldmrd false false) (machine c s).port (c.reading == 1) r.value (λ e h. let off : false ≡ true = h.1 in let bad : ⊥ = cc in bad)
  a_is Ldmrd true false straight r = value_is (core Ldmrd true false) (machine c s).port (c.reading == 1) r.value (λ e h. let off : false ≡ true = h.1 in let bad : ⊥ = cc in bad)
  a_is Ldmrd false true straight r = value_is (core Ldmrd false true) (machine c s).port (c.reading == 1) r.value (λ e h. let off : false ≡ true = h.1 in let bad : ⊥ = cc in bad)
  a_is Ldmrd true true straight r = value_is (core Ldmrd true true) (machine c s).port (c.reading == 1) r.value (λ e h. let off : false ≡ true = h.1 in let bad : ⊥ = cc in bad)
  a_is Ldin false false straight r = input_is given.input (core Ldin false false)
  a_is Ldin true false straight r = input_is given.input (core Ldin true false)
  a_is Ldin false true straight r = input_is given.input (core Ldin false true)
  a_is Ldin true true straight r = input_is given.input (core Ldin true true)
  a_is _ false false straight r = refl
  a_is _ true false straight r = refl
  a_is _ false true straight r = refl
  a_is _ true true straight r = refl

  on_chip_is : (op : Operation) (opd nxt : Bool) → is_untested op ≡ true → Ready op opd nxt → (clock op opd nxt).on_chip ≡ (behind op opd nxt).stack
  unfolding next
  on_chip_is Wait opd nxt straight r = let bad : ⊥ = cc in absurd bad
  on_chip_is Stbc opd nxt straight r = let bad : ⊥ = cc in absurd bad
  on_chip_is Jbr opd nxt straight r = let bad : ⊥ = cc in absurd bad
  on_chip_is Hltb opd nxt straight r = let bad : ⊥ = cc in absurd bad
  on_chip_is Hltu opd nxt straight r = let bad : ⊥ = cc in absurd bad
  on_chip_is St0 false false straight r = sym (ap (λ k. slice_set c.on_chip k c.a) (mod-eq_of_lt r.vp))
  on_chip_is St0 true false straight r = sym (ap (λ k. slice_set c.on_chip k c.a) (mod-eq_of_lt r.vp))
  on_chip_is St0 false true straight r = sym (ap (λ k. slice_set c.on_chip k c.a) (mod-eq_of_lt r.vp))
  on_chip_is St0 true true straight r = sym (ap (λ k. slice_set c.on_chip k c.a) (mod-eq_of_lt r.vp))
  on_chip_is Stmi false false straight r = sym (ap (λ k. slice_set c.on_chip k c.a) (mod-eq_of_lt r.ar))
  on_chip_is Stmi true false straight r = sym (ap (λ k. slice_set c.on_chip k c.a) (mod-eq_of_lt r.ar))
  on_chip_is Stmi false true straight r = sym (ap (λ k. slice_set c.on_chip k c.a) (mod-eq_of_lt r.ar))
  on_chip_is Stmi true true straight r = sym (ap (λ k. slice_set c.on_chip k c.a) (mod-eq_of_lt r.ar))
  on_chip_is _ false false straight r = refl
  on_chip_is _ true false straight r = refl
  on_chip_is _ false true straight r = refl
  on_chip_is _ true true straight r = refl

  main_is : (op : Operation) (opd nxt : Bool) → is_untested op ≡ true → Ready op opd nxt → (clock op opd nxt).main ≡ (behind op opd nxt).port.words
  unfolding next
  main_is Wait opd nxt straight r = let bad : ⊥ = cc in absurd bad
  main_is Stbc opd nxt straight r = let bad : ⊥ = cc in absurd bad
  main_is Jbr opd nxt straight r = let bad : ⊥ = cc in absurd bad
  main_is Hltb opd nxt straight r = let bad : ⊥ = cc in absurd bad
  main_is Hltu opd nxt straight r = let bad : ⊥ = cc in absurd bad
  main_is Stmwd false false straight r = write_is c.main shape.memory_bits c.write_address c.a r.bits
  main_is Stmwd true false straight r = write_is c.main shape.memory_bits c.write_address c.a r.bits
  main_is Stmwd false true straight r = write_is c.main shape.memory_bits c.write_address c.a r.bits
  main_is Stmwd true true straight r = write_is c.main shape.memory_bits c.write_address c.a r.bits
  main_is _ false false straight r = refl
  main_is _ true false straight r = refl
  main_is _ false true straight r = refl
  main_is _ true true straight r = refl

  record Others (d : Core) (t : MachineState) : Type 0 where
    b : d.b ≡ t.b
    sp : d.sp ≡ t.sp
    vp : d.vp ≡ t.vp
    ar : d.ar ≡ t.ar
    jpc : d.jpc ≡ t.jpc
    mpc : d.mpc ≡ t.mpc
    operand : d.operand ≡ t.operand
    opcode : d.opcode ≡ t.opcode
    halt : d.halt ≡ halt_code t.halt
    write_address : d.write_address ≡ t.write_address
    count : d.count ≡ t.port.count
    begun : d.starting ≡ 0

  others : (op : Operation) (opd nxt : Bool) → is_untested op ≡ true → has_fit_flags (spelled op opd nxt) ≡ true → Ready op opd nxt → Others (clock op opd nxt) (behind op opd nxt)
  unfolding next
  others Wait opd nxt straight fit r = let bad : ⊥ = cc in absurd bad
  others Stbc opd nxt straight fit r = let bad : ⊥ = cc in absurd bad
  others Jbr opd nxt straight fit r = let bad : ⊥ = cc in absurd bad
  others Hltb opd nxt straight fit r = let bad : ⊥ = cc in absurd bad
  others Hltu opd nxt straight fit r = let bad : ⊥ = cc in absurd bad
  others Jbg false false straight fit r = record { b = refl; sp = refl; vp = refl; ar = refl; jpc = sym (ap (λ k. (c.jpc + (2 ^ 16 - 3) + k) % 2 ^ 16) (low_same c.operand)); mpc = refl; operand = refl; opcode = refl; halt = refl; write_address = refl; count = refl; begun = refl }
  others Jbg true false straight fit r = let bad : ⊥ = cc in absurd bad
  others Jbg false true straight fit r = let bad : ⊥ = cc in absurd bad
  others Stjpc true false straight fit r = let bad : ⊥ = cc in absurd bad
  others _ false false straight fit r = record { b = refl; sp = refl; vp = refl; ar = refl; jpc = refl; mpc = refl; operand = refl; opcode = refl; halt = refl; write_address = refl; count = refl; begun = refl }
  others _ true false straight fit r = record { b = refl; sp = refl; vp = refl; ar = refl; jpc = refl; mpc = refl; operand = ap (λ k. (c.operand * 2 ^ 8 + k) % 2 ^ 32) r.byte; opcode = refl; halt = refl; write_address = refl; count = refl; begun = refl }
  others _ false true straight fit r = record { b = refl; sp = refl; vp = refl; ar = refl; jpc = refl; mpc = ap entry_of r.byte; operand = refl; opcode = r.byte; halt = refl; write_address = refl; count = refl; begun = refl }
  others _ true true straight fit r = let bad : ⊥ = cc in absurd bad

  -- the registers of a clock in which this word runs
  pub straight : (op : Operation) (opd nxt : Bool) → is_untested op ≡ true → has_fit_flags (spelled op opd nxt) ≡ true → Ready op opd nxt
      → HasRegisters (clock op opd nxt) (behind op opd nxt)
  straight op opd nxt easy fit r =
      let rest = others op opd nxt easy fit r in
      record {
        a = a_is op opd nxt easy r;
        b = rest.b;
        sp = rest.sp;
        vp = rest.vp;
        ar = rest.ar;
        jpc = rest.jpc;
        mpc = rest.mpc;
        operand = rest.operand;
        opcode = rest.opcode;
        halt = rest.halt;
        on_chip = on_chip_is op opd nxt easy r;
        main = main_is op opd nxt easy r;
        write_address = rest.write_address;
        count = rest.count;
        begun = rest.begun;
      }
