-- A whole instruction lies within the code.
use Rattle.std.proofs.Common.{◌≡◌, ℕ, ◌+◌, ◌<◌, Bool, true, false, List, length, refl, sym, ◌∙◌, ap, subst, arith, add-zero, Result, Ok, Err, IfOk, inl, inr}
use Rattle.std.proofs.lemmas.Bool.{cases_lt}
use Rattle.opcodes.specs.declared.instruction.Instr.{Instr}
use Rattle.opcodes.specs.declared.instruction.DecodeFault.{DecodeFault}
use Rattle.opcodes.specs.Bytes.{u1}
use Rattle.opcodes.specs.Form.{Operands, Form, NotAnOpcode, Fixed, Widened, TableSwitch, LookupSwitch, Wide}
use Rattle.opcodes.specs.Instruction.{decoded, spelled_at, widened_at, within, fixed_at, table_switch_at, lookup_switch_at}
use Rattle.opcodes.specs.Row.{row_of}
use Rattle.opcodes.specs.Target.{EndsWithin, WholeIsWithin}
use Rattle.opcodes.proofs.DecodeLemmas.{decoded-form, wide-inside, wide-end}
use Rattle.opcodes.proofs.ReadLemmas.{within-Ok}

-- no switch, so nothing is said of a table
fixed_within : (code : List ℕ) (pc : ℕ) (wide : Bool) (o : Operands) (form : Form) (instr : Instr)
    → ((row_of (fixed_at code pc wide o).op).form ≡ form) → (form ≡ TableSwitch → ⊥) → (form ≡ LookupSwitch → ⊥)
    → within code pc (Ok (fixed_at code pc wide o)) ≡ Ok instr → EndsWithin code pc instr
fixed_within code pc wide o form instr op not_table not_lookup e =
    let found = within-Ok code pc (fixed_at code pc wide o) instr e in
    subst (EndsWithin code pc) found.1 (record {
      not_empty = omega arith;
      ends = found.0;
      table_switch = λ same. absurd (not_table (sym op ∙ same));
      lookup_switch = λ same. absurd (not_lookup (sym op ∙ same));
    })

module _ (code : List ℕ) (pc : ℕ) (instr : Instr) where
  widened_within : (form : Form) → within code pc (widened_at code pc form) ≡ Ok instr → (row_of (u1 code (pc + 1))).form ≡ form → EndsWithin code pc instr
  widened_within NotAnOpcode e op = absurd (cc)
  widened_within (Fixed o) e op = absurd (cc)
  widened_within (Widened o w) e op = fixed_within code pc true w (Widened o w) instr op (λ same. cc) (λ same. cc) e
  widened_within TableSwitch e op = absurd (cc)
  widened_within LookupSwitch e op = absurd (cc)
  widened_within Wide e op = absurd (cc)

  at_pc : (row_of (u1 code (pc + 0))).form ≡ (row_of (u1 code pc)).form
  at_pc = ap (λ (place : ℕ). (row_of (u1 code place)).form) (add-zero pc)

  spelled_within : (form : Form) → within code pc (spelled_at code pc form) ≡ Ok instr → (row_of (u1 code pc)).form ≡ form → EndsWithin code pc instr
  spelled_within NotAnOpcode e op = absurd (cc)
  spelled_within (Fixed o) e op = fixed_within code pc false o (Fixed o) instr (at_pc ∙ op) (λ same. cc) (λ same. cc) e
  spelled_within (Widened o w) e op = fixed_within code pc false o (Widened o w) instr (at_pc ∙ op) (λ same. cc) (λ same. cc) e
  spelled_within TableSwitch e op =
      let found = within-Ok code pc (table_switch_at code pc) instr e in
      subst (EndsWithin code pc) found.1 (record {
        not_empty = omega arith;
        ends = found.0;
        table_switch = λ same. omega arith;
        lookup_switch = λ same. absurd (let wrong = sym op ∙ same in cc);
      })
  spelled_within LookupSwitch e op =
      let found = within-Ok code pc (lookup_switch_at code pc) instr e in
      subst (EndsWithin code pc) found.1 (record {
        not_empty = omega arith;
        ends = found.0;
        table_switch = λ same. absurd (let wrong = sym op ∙ same in cc);
        lookup_switch = λ same. omega arith;
      })
  spelled_within Wide e op = elim (cases_lt (pc + 1) (length code)) [
    | inl h ↦ widened_within (row_of (u1 code (pc + 1))).form (wide-inside code pc (row_of (u1 code (pc + 1))).form h refl ∙ e) refl
    | inr h ↦ let short = wide-end code pc h ∙ e in absurd (cc)
  ]

pub IsWithin-decoded : (code : List ℕ) (pc : ℕ) → WholeIsWithin code pc
IsWithin-decoded code pc instr e =
    spelled_within code pc instr (row_of (u1 code pc)).form (decoded-form code pc (row_of (u1 code pc)).form refl ∙ e) refl

-- an instruction has at least one byte
pub decoded_length : (code : List ℕ) (pc : ℕ) (instr : Instr) → decoded code pc ≡ Ok instr → 0 < instr.length
decoded_length code pc instr e = (IsWithin-decoded code pc instr e).not_empty

pub within_if_ok : (code : List ℕ) (pc : ℕ) (r : Result Instr DecodeFault) → r ≡ decoded code pc → IfOk r (EndsWithin code pc)
within_if_ok code pc (Ok instr) e = IsWithin-decoded code pc instr (sym e)
within_if_ok code pc (Err fault) e = tt
