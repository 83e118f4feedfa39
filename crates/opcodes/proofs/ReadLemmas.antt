-- An instruction depends on its own bytes alone.
use Rattle.std.proofs.Common.{◌≡◌, ℕ, zero, suc, ◌+◌, ◌-◌, ◌<◌, ◌≤◌, Bool, true, false, nat_le, List, ◌++◌, length, get_or, replicate, refl, sym, ◌∙◌, ap, subst, arith, Result, Ok, Err, OnOk, cond, inl, inr, length-append}
use Rattle.std.proofs.lemmas.Bool.{cases_lt, leb-true, le-leb, lt-leb}
use Rattle.std.proofs.lemmas.List.{get_or_append_left, get_or-append_right, get_or_past}
use Rattle.opcodes.specs.declared.instruction.Instr.{Instr}
use Rattle.opcodes.specs.declared.instruction.DecodeFault.{DecodeFault}
use Rattle.opcodes.specs.declared.instruction.DecodeFault.TheVariants.{Short}
use Rattle.opcodes.specs.Bytes.{u1, u2, s4}
use Rattle.opcodes.specs.Form.{FixedOperand, Absent, UnsignedByte, UnsignedShort, SignedByte, SignedShort, Offset, WideOffset, Operands, Form, NotAnOpcode, Fixed, Widened, TableSwitch, LookupSwitch, Wide}
use Rattle.opcodes.specs.Instruction.{decoded, spelled_at, widened_at, within, fixed_at, table_switch_at, lookup_switch_at, value_at, width, operands_width, prefix_width, default_place}
use Rattle.opcodes.specs.Row.{row_of}
use Rattle.opcodes.proofs.DecodeLemmas.{decoded-form, wide-inside, wide-end}

-- the two codes have the same bytes from one place up to another
pub record Agree (from n : ℕ) (old new : List ℕ) : Type 0 where
  pub same : (k : ℕ) → from ≤ k → k < n → get_or new k 0 ≡ get_or old k 0

pub agree-append : (from : ℕ) (code more : List ℕ) → Agree from (length code) code (code ++ more)
agree-append from code more = record { same = λ k low h. get_or_append_left code more 0 k h }

zero_among : (n k : ℕ) → ◌≡◌ {A = ℕ} (get_or (replicate n 0) k 0) 0
zero_among zero k = refl
zero_among (suc n) zero = refl
zero_among (suc n) (suc k) = zero_among n k

-- zeros behind a code change no byte, as a byte past the end counts as 0
pub agree-zeros : (n m : ℕ) (code : List ℕ) → Agree 0 n code (code ++ replicate m 0)
agree-zeros n m code = record {
  same = λ k low h. elim (cases_lt k (length code)) [
    | inl below ↦ get_or_append_left code (replicate m 0) 0 k below
    | inr past ↦ get_or-append_right code (replicate m 0) (length code) k 0 refl past ∙ zero_among m (k - length code) ∙ sym (get_or_past code k 0 past)
  ];
}

module _ (from n : ℕ) (old new : List ℕ) (agree : Agree from n old new) where
  same_u2 : (place : ℕ) → from ≤ place → place + 2 ≤ n → u2 new place ≡ u2 old place
  same_u2 place low h =
      let first = agree.same place (omega arith) (omega arith) in
      let second = agree.same (place + 1) (omega arith) (omega arith) in
      cc

  pub same_s4 : (place : ℕ) → from ≤ place → place + 4 ≤ n → s4 new place ≡ s4 old place
  same_s4 place low h =
      let first = same_u2 place (omega arith) (omega arith) in
      let second = same_u2 (place + 2) (omega arith) (omega arith) in
      cc

  same_value : (o : FixedOperand) (place : ℕ) → from ≤ place → place + width o ≤ n → value_at new place o ≡ value_at old place o
  same_value Absent place low h = refl
  same_value UnsignedByte place low h = let e = agree.same place low (omega arith) in cc
  same_value UnsignedShort place low h = let e = same_u2 place low (omega arith) in cc
  same_value SignedByte place low h = let e = agree.same place low (omega arith) in cc
  same_value SignedShort place low h = let e = same_u2 place low (omega arith) in cc
  same_value Offset place low h = let e = same_u2 place low (omega arith) in cc
  same_value WideOffset place low h = same_s4 place low h

  pub same_fixed : (pc : ℕ) (wide : Bool) (o : Operands) → from ≤ pc → pc + (prefix_width wide + 1 + operands_width o) ≤ n → fixed_at new pc wide o ≡ fixed_at old pc wide o
  same_fixed pc wide o low h =
      let opcode = agree.same (pc + prefix_width wide) (omega arith) (omega arith) in
      let first = same_value o.first (pc + prefix_width wide + 1) (omega arith) (omega arith) in
      let second = same_value o.second (pc + prefix_width wide + 1 + width o.first) (omega arith) (omega arith) in
      cc

  pub same_table_switch : (pc : ℕ) → from ≤ pc → pc < n → default_place pc + 12 ≤ n → table_switch_at new pc ≡ table_switch_at old pc
  same_table_switch pc low inside h =
      let opcode = agree.same pc low inside in
      let default = same_s4 (default_place pc) (omega arith) (omega arith) in
      let least = same_s4 (default_place pc + 4) (omega arith) (omega arith) in
      let high = same_s4 (default_place pc + 8) (omega arith) (omega arith) in
      cc

  pub same_lookup_switch : (pc : ℕ) → from ≤ pc → pc < n → default_place pc + 8 ≤ n → lookup_switch_at new pc ≡ lookup_switch_at old pc
  same_lookup_switch pc low inside h =
      let opcode = agree.same pc low inside in
      let default = same_s4 (default_place pc) (omega arith) (omega arith) in
      let pairs = same_s4 (default_place pc + 4) (omega arith) (omega arith) in
      cc

-- a test that gave an instruction was true
ok_test : (test : Bool) (found instr : Instr) → cond test (Ok found) (Err Short) ≡ Ok instr → (test ≡ true) × (found ≡ instr)
ok_test true found instr e = (refl, cc)
ok_test false found instr e = absurd (cc)

-- an instruction that is within a code
pub within-Ok : (code : List ℕ) (pc : ℕ) (found instr : Instr) → within code pc (Ok found) ≡ Ok instr → (pc + found.length ≤ length code) × (found ≡ instr)
within-Ok code pc found instr e =
    let parts = ok_test (nat_le (pc + found.length) (length code)) found instr e in
    (leb-true (pc + found.length) (length code) parts.0, parts.1)

pub Ok-within : (code : List ℕ) (pc : ℕ) (found : Instr) → pc + found.length ≤ length code → within code pc (Ok found) ≡ Ok found
Ok-within code pc found h =
    let otherwise : Result Instr DecodeFault = Err Short in
    ap (λ (test : Bool). cond test (Ok found) otherwise) (le-leb (pc + found.length) (length code) h)

-- one that passes the end
pub passes : (code : List ℕ) (pc : ℕ) (found : Instr) → length code < pc + found.length → within code pc (Ok found) ≡ Err Short
passes code pc found h =
    let otherwise : Result Instr DecodeFault = Err Short in
    ap (λ (test : Bool). cond test (Ok found) otherwise) (lt-leb (pc + found.length) (length code) h)

-- what passes no end has its header within the code
pub front_fits : (pc front rest n : ℕ) → pc + (front + rest - pc) ≤ n → front ≤ n
front_fits pc front rest n h = omega arith

-- a whole instruction ends within the code
ends_within : (code : List ℕ) (pc : ℕ) (instr : Instr) (r : Result Instr DecodeFault) → within code pc r ≡ Ok instr → pc + instr.length ≤ length code
ends_within code pc instr (Ok found) e =
    let parts = within-Ok code pc found instr e in
    subst (λ (i : Instr). pc + i.length ≤ length code) parts.1 parts.0
ends_within code pc instr (Err fault) e = absurd (cc)

module _ (old new : List ℕ) (pc n : ℕ) (agree : Agree pc n old new) (inside : pc < n) (enough : n ≤ length new) where
  -- an instruction that the other code spells too
  keeps : (found other instr : Instr) → (pc + found.length ≤ n → other ≡ found) → pc + instr.length ≤ n → within old pc (Ok found) ≡ Ok instr → within new pc (Ok other) ≡ Ok instr
  keeps found other instr same fits e =
      let parts = within-Ok old pc found instr e in
      let short : pc + found.length ≤ n = subst (λ (i : Instr). pc + i.length ≤ n) (sym parts.1) fits in
      let equal : other ≡ instr = same short ∙ parts.1 in
      ap (λ (i : Instr). within new pc (Ok i)) equal ∙ Ok-within new pc instr (omega (arith, fits, enough))

  keeps_wide : (form : Form) (instr : Instr) → pc + instr.length ≤ n → within old pc (widened_at old pc form) ≡ Ok instr
      → (pc + 1 < n) × (within new pc (widened_at new pc form) ≡ Ok instr)
  keeps_wide NotAnOpcode instr fits e = absurd (cc)
  keeps_wide (Fixed o) instr fits e = absurd (cc)
  keeps_wide (Widened o w) instr fits e =
      let parts = within-Ok old pc (fixed_at old pc true w) instr e in
      let short : pc + (fixed_at old pc true w).length ≤ n = subst (λ (i : Instr). pc + i.length ≤ n) (sym parts.1) fits in
      (omega arith, keeps (fixed_at old pc true w) (fixed_at new pc true w) instr (λ h. same_fixed pc n old new agree pc true w (omega arith) h) fits e)
  keeps_wide TableSwitch instr fits e = absurd (cc)
  keeps_wide LookupSwitch instr fits e = absurd (cc)
  keeps_wide Wide instr fits e = absurd (cc)

  keeps_form : (form : Form) (instr : Instr) → pc + instr.length ≤ n → within old pc (spelled_at old pc form) ≡ Ok instr → within new pc (spelled_at new pc form) ≡ Ok instr
  keeps_form NotAnOpcode instr fits e = absurd (cc)
  keeps_form (Fixed o) instr fits e = keeps (fixed_at old pc false o) (fixed_at new pc false o) instr (λ h. same_fixed pc n old new agree pc false o (omega arith) h) fits e
  keeps_form (Widened o w) instr fits e = keeps (fixed_at old pc false o) (fixed_at new pc false o) instr (λ h. same_fixed pc n old new agree pc false o (omega arith) h) fits e
  keeps_form TableSwitch instr fits e =
      keeps (table_switch_at old pc) (table_switch_at new pc) instr
      (λ h. same_table_switch pc n old new agree pc (omega arith) inside (front_fits pc (default_place pc + 12) _ n h)) fits e
  keeps_form LookupSwitch instr fits e =
      keeps (lookup_switch_at old pc) (lookup_switch_at new pc) instr
      (λ h. same_lookup_switch pc n old new agree pc (omega arith) inside (front_fits pc (default_place pc + 8) _ n h)) fits e
  keeps_form Wide instr fits e = elim (cases_lt (pc + 1) (length old)) [
    | inl h ↦
        let form = (row_of (u1 old (pc + 1))).form in
        let rest = keeps_wide form instr fits (wide-inside old pc form h refl ∙ e) in
        let same : form ≡ (row_of (u1 new (pc + 1))).form = ap (λ (byte : ℕ). (row_of byte).form) (sym (agree.same (pc + 1) (omega arith) rest.0)) in
        sym (wide-inside new pc form (omega (arith, rest.0, enough)) same) ∙ rest.1
    | inr h ↦ let short = wide-end old pc h ∙ e in absurd (cc)
  ]

  pub decoded-same : (instr : Instr) → pc + instr.length ≤ n → decoded old pc ≡ Ok instr → decoded new pc ≡ Ok instr
  decoded-same instr fits e =
      let form = (row_of (u1 old pc)).form in
      let same : form ≡ (row_of (u1 new pc)).form = ap (λ (byte : ℕ). (row_of byte).form) (sym (agree.same pc (omega arith) inside)) in
      sym (decoded-form new pc form same) ∙ keeps_form form instr fits (decoded-form old pc form refl ∙ e)

-- what follows an instruction does not change it
pub decoded-append : (code more : List ℕ) (pc : ℕ) → pc < length code → (instr : Instr) → decoded code pc ≡ Ok instr → decoded (code ++ more) pc ≡ Ok instr
decoded-append code more pc inside instr e =
    let ends = ends_within code pc instr (spelled_at code pc (row_of (u1 code pc)).form) (decoded-form code pc (row_of (u1 code pc)).form refl ∙ e) in
    decoded-same code (code ++ more) pc (length code) (agree-append pc code more) inside (omega (arith, length-append code more)) instr ends e

pub no_further : (code more : List ℕ) (pc : ℕ) → pc < length code → (r : Result Instr DecodeFault) → r ≡ decoded code pc → OnOk r (decoded (code ++ more) pc ≡ r)
no_further code more pc inside (Ok instr) e = decoded-append code more pc inside instr (sym e)
no_further code more pc inside (Err fault) e = tt
