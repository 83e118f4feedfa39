-- The length of an instruction by its opcode.
use Rattle.std.proofs.Common.{◌≡◌, ℕ, ◌+◌, ◌<◌, ◌≤◌, false, List, length, refl, sym, ◌∙◌, ap, arith, Option, Some, None, Result, Ok, Err}
use Rattle.std.specs.Option.{option_map}
use Rattle.std.specs.Result.{result_ok}
use Rattle.opcodes.specs.declared.instruction.Instr.{Instr}
use Rattle.opcodes.specs.declared.instruction.DecodeFault.{DecodeFault}
use Rattle.opcodes.specs.Bytes.{u1}
use Rattle.opcodes.specs.Entry.{length_by}
use Rattle.opcodes.specs.Form.{Operands, Form, NotAnOpcode, Fixed, Widened, TableSwitch, LookupSwitch, Wide}
use Rattle.opcodes.specs.Instruction.{decoded, spelled_at, within, fixed_at, operands_width}
use Rattle.opcodes.specs.Row.{row_of}
use Rattle.opcodes.proofs.DecodeLemmas.{decoded-form}
use Rattle.opcodes.proofs.ReadLemmas.{Ok-within, passes}
use Rattle.opcodes.proofs.WithinLemmas.{IsWithin-decoded}

abbrev pub length_in : Result Instr DecodeFault → Option ℕ
length_in r = option_map (λ (instr : Instr). instr.length) (result_ok r)

abbrev some_length : ℕ → Option ℕ
some_length n = Some n

module _ (code : List ℕ) (pc : ℕ) where
  fixed_fits : (o : Operands) → pc + (1 + operands_width o) ≤ length code → length_in (within code pc (Ok (fixed_at code pc false o))) ≡ Some (1 + operands_width o)
  fixed_fits o h = ap length_in (Ok-within code pc (fixed_at code pc false o) h)

  fixed_passes : (o : Operands) → length code < pc + (1 + operands_width o) → length_in (within code pc (Ok (fixed_at code pc false o))) ≡ None
  fixed_passes o h = ap length_in (passes code pc (fixed_at code pc false o) h)

  by_form : (form : Form) → 0 < length_by form → pc + length_by form ≤ length code → length_in (within code pc (spelled_at code pc form)) ≡ Some (length_by form)
  by_form NotAnOpcode given h = absurd (omega (arith, given))
  by_form (Fixed o) given h = fixed_fits o h
  by_form (Widened o w) given h = fixed_fits o h
  by_form TableSwitch given h = absurd (omega (arith, given))
  by_form LookupSwitch given h = absurd (omega (arith, given))
  by_form Wide given h = absurd (omega (arith, given))

  none_by_form : (form : Form) → 0 < length_by form → length code < pc + length_by form → length_in (within code pc (spelled_at code pc form)) ≡ None
  none_by_form NotAnOpcode given h = absurd (omega (arith, given))
  none_by_form (Fixed o) given h = fixed_passes o h
  none_by_form (Widened o w) given h = fixed_passes o h
  none_by_form TableSwitch given h = absurd (omega (arith, given))
  none_by_form LookupSwitch given h = absurd (omega (arith, given))
  none_by_form Wide given h = absurd (omega (arith, given))

  abbrev form_here : Form
  form_here = (row_of (u1 code pc)).form

  pub fits : (n : ℕ) → n ≡ length_by form_here → 0 < n → pc + n ≤ length code → Some n ≡ length_in (decoded code pc)
  fits n e given h =
      ap some_length e
      ∙ sym (by_form form_here (omega (arith, e)) (omega (arith, e)))
      ∙ ap length_in (decoded-form code pc form_here refl)

  pub passes_end : (n : ℕ) → n ≡ length_by form_here → 0 < n → length code < pc + n → None ≡ length_in (decoded code pc)
  passes_end n e given h =
      sym (none_by_form form_here (omega (arith, e)) (omega (arith, e)))
      ∙ ap length_in (decoded-form code pc form_here refl)

  -- a length ends within the code
  ends_by : (n : ℕ) (r : Result Instr DecodeFault) → decoded code pc ≡ r → Some n ≡ length_in r → pc + n ≤ length code
  ends_by n (Ok instr) whole e =
      let same : n ≡ instr.length = cc in
      let ends = (IsWithin-decoded code pc instr whole).ends in
      omega (arith, same, ends)
  ends_by n (Err fault) whole e = absurd (cc)

  pub length_ends : (n : ℕ) → Some n ≡ length_in (decoded code pc) → pc + n ≤ length code
  length_ends n e = ends_by n (decoded code pc) refl e
