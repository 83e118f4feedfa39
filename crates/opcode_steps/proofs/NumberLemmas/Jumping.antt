-- Where the machine goes on an offset that stands in the code, and which offset the sketch reads there (JVM Specification SE 8, 6.5).
use Rattle.std.proofs.Common.{◌≡◌, ℕ, ◌+◌, ◌-◌, ◌*◌, ◌%◌, ◌^◌, ◌<◌, ◌≤◌, List, Option, Some, None, refl, ◌∙◌, ap, arith}
use Rattle.std.specs.Prelude.{ℤ, pos, ◌+ℤ◌, slice_index}
use Rattle.opcodes.specs.declared.instruction.Instr.{Instr}
use Rattle.opcodes.specs.Bytes.{u1, u2, u4, s2, s4}
use Rattle.jop_core.specs.Operations.{sign_extended16}
use Rattle.jop_core.specs.State as machine
use Rattle.micro_sketch.specs.Sketch.{Sketch, abyte}
use Rattle.micro_sketch.specs.Operand.{past, two_byte_operand, four_byte_operand, jump_place, wide_jump_place}
use Rattle.bytecode_model.specs.declared.Value.{Value}
use Rattle.bytecode_model.specs.Lists.{natural}
use Rattle.bytecode_model.specs.State.{State}
use Rattle.bytecode_model.specs.Program.{Program}
use Rattle.bytecode_model.specs.Rows.{Row}
use Rattle.bytecode_model.specs.Effects.{Effect, Stuck, Go, on, effect, at_offset}
use Rattle.image_facts.specs.Places.{Places}
use Rattle.machine_stands.specs.StandsFor.{StandsFor, limits_of}
use Rattle.opcode_steps.proofs.NumberLemmas.Landing.{natural_is, near_place, far_place, short_left}
use Rattle.opcode_steps.proofs.NumberLemmas.Scenes.{Scene}

on_found : (o : Option ℕ) (go : ℕ → Effect) → (on o go ≡ Stuck → ⊥) → (t : ℕ) × (o ≡ Some t)
on_found None go defined = absurd (defined refl)
on_found (Some t) go defined = (t, refl)

two_bytes : (code : List ℕ) → ((k : ℕ) → slice_index code k < 2 ^ 8) → (place : ℕ) → u2 code place < 2 ^ 16
two_bytes code bytes place = omega (arith, bytes place, bytes (place + 1))

pub four_bytes : (code : List ℕ) → ((k : ℕ) → slice_index code k < 2 ^ 8) → (place : ℕ) → u4 code place < 2 ^ 32
four_bytes code bytes place = omega (arith, two_bytes code bytes place, two_bytes code bytes (place + 2))

module _ (P : Program) (pl : Places) (n size : ℕ) (m : machine.MachineState) (answer : Option ℕ) (s s' : State) (st : StandsFor P pl n size m s) (i : Instr) (r : Row) (x : Sketch)
    (at : Scene P pl n size m answer s s' st i r x) where
  -- the place that an offset leads to
  pub record Landed (offset : ℤ) (ops : List Value) : Type 0 where
    pub place : ℕ
    pub goes : effect P (limits_of P pl n size) s st.top (st.top.pc + i.length) r ≡ Go place st.top.locals ops
    pub is : pos st.top.pc +ℤ offset ≡ pos place
    pub inside : place < 2 ^ 16

  pub landed : (offset : ℤ) (ops : List Value) → effect P (limits_of P pl n size) s st.top (st.top.pc + i.length) r ≡ at_offset st.top offset ops → Landed offset ops
  landed offset ops e =
      let o = natural (pos st.top.pc +ℤ offset) in
      let (t, f) = on_found o (λ pc. Go pc st.top.locals ops) (λ stuck. at.defined (e ∙ stuck)) in
      let goes : effect P (limits_of P pl n size) s st.top (st.top.pc + i.length) r ≡ Go t st.top.locals ops = e ∙ ap (λ (p : Option ℕ). on p (λ pc. Go pc st.top.locals ops)) f in
      record { place = t; goes = goes; is = natural_is (pos st.top.pc +ℤ offset) t f; inside = omega (arith, at.lands t st.top.locals ops goes, at.shows.code) }

  -- the bytes behind the opcode
  pub jpc_is : 1 ≤ i.length → x.jpc ≡ st.top.pc + 1
  jpc_is some = at.shows.jpc 0 (omega (arith, at.instruction.within))

  two_is : 3 ≤ i.length → two_byte_operand x ≡ u2 st.body.code (st.top.pc + 1)
  two_is some =
      let code = st.body.code in
      let at_two : st.top.pc + 2 ≡ st.top.pc + 1 + 1 = omega arith in
      ap (λ (k : ℕ). k * 2 ^ 8 + abyte (past 1 x)) (at.shows.bytes 0 (omega (arith, at.instruction.within)))
      ∙ ap (λ (k : ℕ). u1 code (st.top.pc + 1) * 2 ^ 8 + k) (at.shows.bytes 1 (omega (arith, at.instruction.within)) ∙ ap (u1 code) at_two)

  four_is : 5 ≤ i.length → four_byte_operand x ≡ u4 st.body.code (st.top.pc + 1)
  four_is some =
      let code = st.body.code in
      let pc = st.top.pc in
      let within = at.instruction.within in
      let b0 : abyte x ≡ u1 code (pc + 1) = at.shows.bytes 0 (omega arith) in
      let b1 : abyte (past 1 x) ≡ u1 code (pc + 1 + 1) = at.shows.bytes 1 (omega arith) ∙ ap (u1 code) (omega arith) in
      let b2 : abyte (past 2 x) ≡ u1 code (pc + 1 + 2) = at.shows.bytes 2 (omega arith) ∙ ap (u1 code) (omega arith) in
      let b3 : abyte (past 3 x) ≡ u1 code (pc + 1 + 2 + 1) = at.shows.bytes 3 (omega arith) ∙ ap (u1 code) (omega arith) in
      omega (arith, b0, b1, b2, b3)

  pub jump_is : (t : ℕ) → 3 ≤ i.length → t < 2 ^ 16 → pos st.top.pc +ℤ s2 st.body.code (st.top.pc + 1) ≡ pos t → jump_place x ≡ t
  jump_is t some inside e =
      let v = u2 st.body.code (st.top.pc + 1) in
      let small : v < 2 ^ 16 = two_bytes st.body.code at.code.bytes (st.top.pc + 1) in
      ap (λ (k : ℕ). (x.jpc + (2 ^ 16 - 1) + sign_extended16 k % 2 ^ 16) % 2 ^ 16) (two_is some)
      ∙ ap (λ (k : ℕ). (x.jpc + (2 ^ 16 - 1) + k) % 2 ^ 16) (short_left v small)
      ∙ ap (λ (k : ℕ). (k + (2 ^ 16 - 1) + v) % 2 ^ 16) (jpc_is (omega arith))
      ∙ near_place st.top.pc v t small inside e

  pub wide_jump_is : (t : ℕ) → 5 ≤ i.length → t < 2 ^ 16 → pos st.top.pc +ℤ s4 st.body.code (st.top.pc + 1) ≡ pos t → wide_jump_place x ≡ t
  wide_jump_is t some inside e =
      let v = u4 st.body.code (st.top.pc + 1) in
      let small : v < 2 ^ 32 = four_bytes st.body.code at.code.bytes (st.top.pc + 1) in
      ap (λ (k : ℕ). (x.jpc + (2 ^ 16 - 1) + k) % 2 ^ 16) (four_is some)
      ∙ ap (λ (k : ℕ). (k + (2 ^ 16 - 1) + v) % 2 ^ 16) (jpc_is (omega arith))
      ∙ far_place st.top.pc v t small inside e
