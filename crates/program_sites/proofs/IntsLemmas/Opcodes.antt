-- An instruction's opcode is the byte at its place, but behind `wide`, where only loads, stores, iinc and ret stand (JVM Specification SE 8, 6.5).
use Rattle.std.proofs.Common.{◌≡◌, ◌≢◌, ◌⊎◌, ℕ, ◌+◌, ◌<◌, ◌≤◌, Bool, true, false, List, Some, refl, sym, ap, ◌∙◌, subst, inl, inr, arith}
use Rattle.std.specs.Prelude.{Ok, Err, if◌then◌else◌, nat_le, nat_lt, length}
use Rattle.std.proofs.lemmas.Bool.{both_ways, cases_lt}
use Rattle.lists.proofs.Lemmas.{none≢some, some_same}
use Rattle.opcodes.specs.declared.instruction.Instr.{Instr}
use Rattle.opcodes.specs.declared.instruction.DecodeFault.{DecodeFault}
use Rattle.opcodes.specs.declared.instruction.DecodeFault.TheVariants.{Short}
use Rattle.opcodes.specs.Bytes.{u1}
use Rattle.opcodes.specs.Form.{Form, NotAnOpcode, Fixed, Widened, TableSwitch, LookupSwitch, Wide}
use Rattle.opcodes.specs.Instruction.{decoded, fixed_at, lookup_switch_at, spelled_at, table_switch_at, widened_at, within}
use Rattle.opcodes.specs.Row.{row_of}
use Rattle.bytecode_model.specs.Program.{as_instr}
use Rattle.program_sites.proofs.IntsLemmas.Counting.{AllFrom, each_from, ◌&◌}

abbrev is_widened : Form → Bool
is_widened (Widened plain widened) = true
is_widened form = false

-- the opcode may stand behind `wide`
abbrev MayBeWide : ℕ → Type 0
MayBeWide op = is_widened (row_of op).form ≡ true

-- an instruction that is whole is the one that was read
whole_is : (b : Bool) (x i : Instr) → as_instr {E = DecodeFault} (if b then Ok x else Err Short) ≡ Some i → x ≡ i
whole_is true x i h = some_same x i h
whole_is false x i h = absurd (none≢some i h)

wide_op : (code : List ℕ) (pc : ℕ) (i : Instr) (b : Bool) (form : Form) → (row_of (u1 code (pc + 1))).form ≡ form → as_instr (within code pc (if b then widened_at code pc form else Err Short)) ≡ Some i → MayBeWide i.op
wide_op code pc i false form is h = absurd (none≢some i h)
wide_op code pc i true (Widened plain widened) is h =
    let x = fixed_at code pc true widened in
    let same : x ≡ i = whole_is (nat_le (pc + x.length) (length code)) x i h in
    subst (λ (y : Instr). MayBeWide y.op) same (ap is_widened is)
wide_op code pc i true NotAnOpcode is h = absurd (none≢some i h)
wide_op code pc i true (Fixed plain) is h = absurd (none≢some i h)
wide_op code pc i true TableSwitch is h = absurd (none≢some i h)
wide_op code pc i true LookupSwitch is h = absurd (none≢some i h)
wide_op code pc i true Wide is h = absurd (none≢some i h)

read_op : (code : List ℕ) (pc : ℕ) (i x : Instr) → x.op ≡ u1 code pc → as_instr {E = DecodeFault} (if nat_le (pc + x.length) (length code) then Ok x else Err Short) ≡ Some i → (i.op ≡ u1 code pc) ⊎ MayBeWide i.op
read_op code pc i x op h = let same = whole_is (nat_le (pc + x.length) (length code)) x i h in inl (ap (λ (y : Instr). y.op) (sym same) ∙ op)

spelled_op : (code : List ℕ) (pc : ℕ) (i : Instr) (form : Form) → as_instr (within code pc (spelled_at code pc form)) ≡ Some i → (i.op ≡ u1 code pc) ⊎ MayBeWide i.op
spelled_op code pc i NotAnOpcode h = absurd (none≢some i h)
spelled_op code pc i (Fixed plain) h = read_op code pc i (fixed_at code pc false plain) (ap (λ (n : ℕ). u1 code n) (let e : pc + 0 ≡ pc = omega arith in e)) h
spelled_op code pc i (Widened plain widened) h = read_op code pc i (fixed_at code pc false plain) (ap (λ (n : ℕ). u1 code n) (let e : pc + 0 ≡ pc = omega arith in e)) h
spelled_op code pc i TableSwitch h = read_op code pc i (table_switch_at code pc) refl h
spelled_op code pc i LookupSwitch h = read_op code pc i (lookup_switch_at code pc) refl h
spelled_op code pc i Wide h = inr (wide_op code pc i (nat_lt (pc + 1) (length code)) (row_of (u1 code (pc + 1))).form refl h)

opcode_is : (code : List ℕ) (pc : ℕ) (i : Instr) → as_instr (decoded code pc) ≡ Some i → (i.op ≡ u1 code pc) ⊎ MayBeWide i.op
unfolding decoded
opcode_is code pc i h = spelled_op code pc i (row_of (u1 code pc)).form h

-- ---- opcodes that never stand behind `wide`

abbrev IsNeverWide : ℕ → Type 0
IsNeverWide op = is_widened (row_of op).form ≡ false

never_loads : AllFrom IsNeverWide 0 20
unfolding row_of
never_loads = refl & refl & refl & refl & refl & refl & refl & refl & refl & refl & refl & refl & refl & refl & refl & refl & refl & refl & refl & refl & tt

never_get : IsNeverWide 178
unfolding row_of
never_get = refl

never_put : IsNeverWide 179
unfolding row_of
never_put = refl

module _ (code : List ℕ) (pc : ℕ) (i : Instr) (is : as_instr (decoded code pc) ≡ Some i) where
  other_op : (op : ℕ) → IsNeverWide op → u1 code pc ≢ op → i.op ≢ op
  other_op op never other same =
      elim (opcode_is code pc i is) [
        | inl at ↦ other (sym at ∙ same)
        | inr wide ↦ both_ways (is_widened (row_of i.op).form) (ap (λ (n : ℕ). is_widened (row_of n).form) same ∙ never) wide
      ]

  pub not_get : u1 code pc ≢ 178 → i.op ≢ 178
  not_get = other_op 178 never_get

  pub not_put : u1 code pc ≢ 179 → i.op ≢ 179
  not_put = other_op 179 never_put

  pub past_loads : 19 < u1 code pc → 20 ≤ i.op
  past_loads past =
      elim (opcode_is code pc i is) [
        | inl at ↦ omega arith
        | inr wide ↦
            elim (cases_lt i.op 20) [
              | inl low ↦ absurd (both_ways (is_widened (row_of i.op).form) (each_from IsNeverWide 0 20 never_loads i.op (omega arith) (omega arith)) wide)
              | inr high ↦ high
            ]
      ]
