-- An instruction's opcode is the byte at its place, but behind `wide`, where only loads, stores, iinc and ret stand (JVM Specification SE 8, 6.5).
use Rattle.std.proofs.Common.{◌≡◌, ℕ, ◌+◌, ◌⊎◌, Bool, true, false, ◌&&◌, not, List, [], ◌∷◌, length, refl, sym, ap, ◌∙◌, subst, inl, inr, arith}
use Rattle.std.specs.Prelude.{Result, Ok, Err, if◌then◌else◌, nat_lt, ◌==◌}
use Rattle.opcodes.specs.declared.instruction.Instr.{Instr}
use Rattle.opcodes.specs.declared.instruction.DecodeFault.{DecodeFault}
use Rattle.opcodes.specs.declared.instruction.DecodeFault.TheVariants.{Short}
use Rattle.opcodes.specs.Bytes.{u1}
use Rattle.opcodes.specs.Form.{Form, NotAnOpcode, Fixed, Widened, TableSwitch, LookupSwitch, Wide}
use Rattle.opcodes.specs.Instruction.{decoded, fixed_at, lookup_switch_at, spelled_at, table_switch_at, widened_at, within}
use Rattle.opcodes.specs.Row.{OpcodeRow, find_row, no_row, row_of, rows}
use Rattle.opcodes.proofs.FaultLemmas.{is_widened}
use Rattle.opcodes.proofs.ReadLemmas.{within-Ok}
use Rattle.flow_graph.specs.Edges.{is_return, raises_in, returns_in}

-- ---- what holds of each row holds of an opcode's

each_row : (OpcodeRow → Bool) → List OpcodeRow → Bool
each_row test [] = true
each_row test (r ∷ rs) = test r && each_row test rs

first_true : (a b : Bool) → (a && b) ≡ true → a ≡ true
first_true true b h = refl
first_true false b h = h

second_true : (a b : Bool) → (a && b) ≡ true → b ≡ true
second_true true b h = h
second_true false b h = absurd (let e : ⊥ = cc in e)

either_row : (test : OpcodeRow → Bool) (b : Bool) (r other : OpcodeRow) → test r ≡ true → test other ≡ true → test (if b then r else other) ≡ true
either_row test true r other here there = here
either_row test false r other here there = there

found_row : (test : OpcodeRow → Bool) (byte : ℕ) (rs : List OpcodeRow) → each_row test rs ≡ true → test (no_row byte) ≡ true → test (find_row byte rs) ≡ true
unfolding each_row
found_row test byte [] all none = none
found_row test byte (r ∷ rs) all none =
    either_row test (r.number == byte) r (find_row byte rs) (first_true (test r) (each_row test rs) all) (found_row test byte rs (second_true (test r) (each_row test rs) all) none)

-- none that may stand behind `wide` raises or returns
abbrev is_quiet : OpcodeRow → Bool
is_quiet r = if is_widened r.form then not r.raises && not (is_return r.kind) else true

quiet_rows : each_row is_quiet rows ≡ true
unfolding each_row
quiet_rows = refl

quiet : (op : ℕ) → is_quiet (row_of op) ≡ true
unfolding row_of
quiet op = found_row is_quiet op rows quiet_rows refl

not_true : (b : Bool) → not b ≡ true → b ≡ false
not_true true h = absurd (let e : ⊥ = cc in e)
not_true false h = refl

module _ (op : ℕ) (wide : is_widened (row_of op).form ≡ true) where
  both : (not (row_of op).raises && not (is_return (row_of op).kind)) ≡ true
  both = sym (ap (λ (b : Bool). if b then not (row_of op).raises && not (is_return (row_of op).kind) else true) wide) ∙ quiet op

  raises_not : (row_of op).raises ≡ false
  raises_not = not_true (row_of op).raises (first_true (not (row_of op).raises) (not (is_return (row_of op).kind)) both)

  returns_not : is_return (row_of op).kind ≡ false
  returns_not = not_true (is_return (row_of op).kind) (second_true (not (row_of op).raises) (not (is_return (row_of op).kind)) both)

-- ---- the opcode of an instruction

never : (f : DecodeFault) (i : Instr) → Err f ≡ Ok i → ⊥
never f i e = cc

module _ (code : List ℕ) (pc : ℕ) (i : Instr) where
  wide_op : (form : Form) → (row_of (u1 code (pc + 1))).form ≡ form → within code pc (widened_at code pc form) ≡ Ok i → is_widened (row_of i.op).form ≡ true
  wide_op (Widened plain widened) is h =
      let same = (within-Ok code pc (fixed_at code pc true widened) i h).1 in
      subst (λ (x : Instr). is_widened (row_of x.op).form ≡ true) same (ap is_widened is)
  wide_op NotAnOpcode is h = absurd (let e : ⊥ = cc in e)
  wide_op (Fixed plain) is h = absurd (let e : ⊥ = cc in e)
  wide_op TableSwitch is h = absurd (let e : ⊥ = cc in e)
  wide_op LookupSwitch is h = absurd (let e : ⊥ = cc in e)
  wide_op Wide is h = absurd (let e : ⊥ = cc in e)

  behind_wide : (b : Bool) → within code pc (if b then widened_at code pc (row_of (u1 code (pc + 1))).form else Err Short) ≡ Ok i → is_widened (row_of i.op).form ≡ true
  behind_wide true h = wide_op (row_of (u1 code (pc + 1))).form refl h
  behind_wide false h = absurd (let e : ⊥ = cc in e)

  read_op : (x : Instr) → x.op ≡ u1 code pc → within code pc (Ok x) ≡ Ok i → i.op ≡ u1 code pc
  read_op x op h = ap (λ (y : Instr). y.op) (sym (within-Ok code pc x i h).1) ∙ op

  spelled_op : (form : Form) → within code pc (spelled_at code pc form) ≡ Ok i → (i.op ≡ u1 code pc) ⊎ (is_widened (row_of i.op).form ≡ true)
  spelled_op NotAnOpcode h = absurd (let e : ⊥ = cc in e)
  spelled_op (Fixed plain) h = inl (read_op (fixed_at code pc false plain) (ap (λ (n : ℕ). u1 code n) (let e : pc + 0 ≡ pc = omega arith in e)) h)
  spelled_op (Widened plain widened) h = inl (read_op (fixed_at code pc false plain) (ap (λ (n : ℕ). u1 code n) (let e : pc + 0 ≡ pc = omega arith in e)) h)
  spelled_op TableSwitch h = inl (read_op (table_switch_at code pc) refl h)
  spelled_op LookupSwitch h = inl (read_op (lookup_switch_at code pc) refl h)
  spelled_op Wide h = inr (behind_wide (nat_lt (pc + 1) (length code)) h)

  opcode_is : decoded code pc ≡ Ok i → (i.op ≡ u1 code pc) ⊎ (is_widened (row_of i.op).form ≡ true)
  unfolding decoded
  opcode_is h = spelled_op (row_of (u1 code pc)).form h

-- ---- where the byte says that it doesn't raise or return, the instruction doesn't

module _ (code : List ℕ) (pc : ℕ) where
  pub no_raise : (row_of (u1 code pc)).raises ≡ false → raises_in (decoded code pc) ≡ false
  no_raise h = by (decoded code pc) refl
    where
      by : (r : Result Instr DecodeFault) → decoded code pc ≡ r → raises_in r ≡ false
      by (Ok i) e = elim (opcode_is code pc i e) [
        | inl same ↦ ap (λ (op : ℕ). (row_of op).raises) same ∙ h
        | inr wide ↦ raises_not i.op wide
      ]
      by (Err f) e = refl

  pub no_return : is_return (row_of (u1 code pc)).kind ≡ false → returns_in (decoded code pc) ≡ false
  no_return h = by (decoded code pc) refl
    where
      by : (r : Result Instr DecodeFault) → decoded code pc ≡ r → returns_in r ≡ false
      by (Ok i) e = elim (opcode_is code pc i e) [
        | inl same ↦ ap (λ (op : ℕ). is_return (row_of op).kind) same ∙ h
        | inr wide ↦ returns_not i.op wide
      ]
      by (Err f) e = refl
