-- An instruction where its opcode is known.
use Rattle.std.proofs.Common.{◌≡◌, ℕ, ◌+◌, Bool, true, false, List, length, refl, sym, ◌∙◌, ap, add-zero, arith, Ok, inl, inr}
use Rattle.std.proofs.lemmas.Bool.{cases_lt}
use Rattle.opcodes.specs.declared.instruction.Instr.{Instr}
use Rattle.opcodes.specs.Bytes.{u1}
use Rattle.opcodes.specs.Form.{Operands, Form, NotAnOpcode, Fixed, Widened, TableSwitch, LookupSwitch, Wide}
use Rattle.opcodes.specs.Instruction.{decoded, spelled_at, widened_at, within, fixed_at, value_at, width, operands_width, table_switch_at, lookup_switch_at}
use Rattle.opcodes.specs.Row.{row_of}
use Rattle.opcodes.specs.Reading.{plain_instr, wide_instr, IsOfForm, InstructionsAreOfTheirForm, WideOnesMayBeWide, WideOnesAreOfTheirForm}
use Rattle.opcodes.proofs.DecodeLemmas.{decoded-form, wide-inside, wide-end}
use Rattle.opcodes.proofs.ReadLemmas.{within-Ok}
use Rattle.opcodes.proofs.FaultLemmas.{is_widened, widened_where_wide, form_196}

module _ (code : List ℕ) (pc op : ℕ) (instr : Instr) where
  -- at a place, with an opcode
  placed : (wide : Bool) (length opcode place : ℕ) → Operands → Instr
  placed wide length opcode place o = record {
    op = opcode;
    wide = wide;
    length = length;
    first = value_at code (place + 1) o.first;
    second = value_at code (place + 1 + width o.first) o.second;
    count = 0;
    table = 0;
  }

  plain-is : (o : Operands) → u1 code pc ≡ op → within code pc (Ok (fixed_at code pc false o)) ≡ Ok instr → instr ≡ plain_instr op code pc o
  unfolding placed
  plain-is o is e =
      sym (within-Ok code pc (fixed_at code pc false o) instr e).1
      ∙ ap (λ (place : ℕ). placed false (1 + operands_width o) (u1 code place) place o) (add-zero pc)
      ∙ ap (λ (opcode : ℕ). placed false (1 + operands_width o) opcode pc o) is

  by_form : (form : Form) → u1 code pc ≡ op → within code pc (spelled_at code pc form) ≡ Ok instr → IsOfForm form op code pc instr
  by_form NotAnOpcode is e = let wrong : ⊥ = cc in wrong
  by_form (Fixed o) is e = plain-is o is e
  by_form (Widened o w) is e = plain-is o is e
  by_form TableSwitch is e =
      sym (within-Ok code pc (table_switch_at code pc) instr e).1 ∙ ap (λ (opcode : ℕ). let i : Instr = record (table_switch_at code pc) { op = opcode } in i) is
  by_form LookupSwitch is e =
      sym (within-Ok code pc (lookup_switch_at code pc) instr e).1 ∙ ap (λ (opcode : ℕ). let i : Instr = record (lookup_switch_at code pc) { op = opcode } in i) is
  by_form Wide is e = tt

pub of_its_form : InstructionsAreOfTheirForm
of_its_form code pc op form instr e is f =
    by_form code pc op instr form is (decoded-form code pc form (sym f ∙ ap (λ (byte : ℕ). (row_of byte).form) (sym is)) ∙ e)

-- behind `wide`

inside_wide : (code : List ℕ) (pc : ℕ) (form : Form) (instr : Instr) → decoded code pc ≡ Ok instr → u1 code pc ≡ 196 → form ≡ (row_of (u1 code (pc + 1))).form
    → within code pc (widened_at code pc form) ≡ Ok instr
inside_wide code pc form instr e is f =
    let whole = decoded-form code pc Wide (sym form_196 ∙ ap (λ (byte : ℕ). (row_of byte).form) (sym is)) ∙ e in
    elim (cases_lt (pc + 1) (length code)) [
      | inl h ↦ wide-inside code pc form h f ∙ whole
      | inr h ↦ let short = wide-end code pc h ∙ whole in absurd (cc)
    ]

has_wide : (code : List ℕ) (pc : ℕ) (form : Form) (instr : Instr) → within code pc (widened_at code pc form) ≡ Ok instr → is_widened form ≡ true
has_wide code pc (Widened o w) instr e = refl
has_wide code pc NotAnOpcode instr e = absurd (cc)
has_wide code pc (Fixed o) instr e = absurd (cc)
has_wide code pc TableSwitch instr e = absurd (cc)
has_wide code pc LookupSwitch instr e = absurd (cc)
has_wide code pc Wide instr e = absurd (cc)

pub may_stand_wide : WideOnesMayBeWide
may_stand_wide code pc instr e is small =
    let form = (row_of (u1 code (pc + 1))).form in
    sym (widened_where_wide (u1 code (pc + 1)) small) ∙ has_wide code pc form instr (inside_wide code pc form instr e is refl)

pub wide_of_its_form : WideOnesAreOfTheirForm
wide_of_its_form code pc op plain widened instr e is under f =
    let form : Form = Widened plain widened in
    let inside = inside_wide code pc form instr e is (sym f ∙ ap (λ (byte : ℕ). (row_of byte).form) (sym under)) in
    sym (within-Ok code pc (fixed_at code pc true widened) instr inside).1
    ∙ ap (λ (opcode : ℕ). let i : Instr = record (fixed_at code pc true widened) { op = opcode } in i) under
    ∙ ap (λ (place : ℕ). behind place) (let there : pc + 1 + 1 ≡ pc + 2 = omega arith in there)
  where
    behind : (place : ℕ) → Instr
    behind place = record (wide_instr op code pc widened) { first = value_at code place widened.first; second = value_at code (place + width widened.first) widened.second }
