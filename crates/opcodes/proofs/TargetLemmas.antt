-- The targets by the kind of the opcode.
use Rattle.std.proofs.Common.{◌≡◌, ◌≢◌, ℕ, ◌<◌, Bool, true, false, not, List, [], ◌∷◌, ◌++◌, map, refl, sym, ◌∙◌, ap, ℤ, pos, inl, inr, eqb-true}
use Rattle.std.specs.Prelude.{◌==◌, ◌+ℤ◌}
use Rattle.std.proofs.lemmas.Bool.{cases_Bool, false≢true}
use Rattle.opcodes.specs.declared.instruction.Instr.{Instr}
use Rattle.opcodes.specs.declared.table.Kind.{Kind}
use Rattle.opcodes.specs.declared.table.Kind.TheVariants.{Plain, Branch, Jump, Switch, Return, Throw, Invoke}
use Rattle.opcodes.specs.Form.{FixedOperand, Absent, UnsignedByte, UnsignedShort, SignedByte, SignedShort, Offset, WideOffset, Form, NotAnOpcode, Fixed, Widened, TableSwitch, LookupSwitch, Wide}
use Rattle.opcodes.specs.Row.{row_of}
use Rattle.opcodes.specs.declared.instruction.Case.{Case}
use Rattle.opcodes.specs.Target.{cases_by, operand_offset, first_offset_by, targets_of, is_offset, leads, TargetsFitKind}
use Rattle.opcodes.proofs.FaultLemmas.{same_at}

abbrev has_offset : Form → Bool
has_offset (Fixed plain) = is_offset plain.first
has_offset _ = false

abbrev has_cases : Form → Bool
has_cases TableSwitch = true
has_cases LookupSwitch = true
has_cases _ = false

abbrev branches : Kind → ℕ → Bool
branches Branch byte = true
branches Jump byte = not (byte == 169)
branches _ byte = false

abbrev switches : Kind → Bool
switches Switch = true
switches _ = false

-- computed over all bytes
offset_where_branches : (byte : ℕ) → byte < 256 → has_offset (row_of byte).form ≡ branches (row_of byte).kind byte
unfolding row_of
offset_where_branches = same_at (λ byte. has_offset (row_of byte).form) (λ byte. branches (row_of byte).kind byte) refl

cases_where_switches : (byte : ℕ) → byte < 256 → has_cases (row_of byte).form ≡ switches (row_of byte).kind
unfolding row_of
cases_where_switches = same_at (λ byte. has_cases (row_of byte).form) (λ byte. switches (row_of byte).kind) refl

form_169 : (byte : ℕ) → byte < 256 → byte ≡ 169 → has_offset (row_of byte).form ≡ false
unfolding row_of
form_169 byte h e = ap (λ (b : ℕ). has_offset (row_of b).form) e

kind_169 : (byte : ℕ) → byte ≡ 169 → (row_of byte).kind ≡ Jump
unfolding row_of
kind_169 byte e = ap (λ (b : ℕ). (row_of b).kind) e

module _ (code : List ℕ) (pc : ℕ) (instr : Instr) where
  abbrev targets_by : Form → List ℤ
  targets_by form = map (λ offset. pos pc +ℤ offset) (first_offset_by form instr ++ map (λ (c : Case). c.offset) (cases_by form code instr))

  one_offset : (o : FixedOperand) → is_offset o ≡ true → operand_offset o instr ≡ instr.first ∷ []
  one_offset Absent e = absurd (false≢true e)
  one_offset UnsignedByte e = absurd (false≢true e)
  one_offset UnsignedShort e = absurd (false≢true e)
  one_offset SignedByte e = absurd (false≢true e)
  one_offset SignedShort e = absurd (false≢true e)
  one_offset Offset e = refl
  one_offset WideOffset e = refl

  no_offset : (o : FixedOperand) → is_offset o ≡ false → operand_offset o instr ≡ []
  no_offset Absent e = refl
  no_offset UnsignedByte e = refl
  no_offset UnsignedShort e = refl
  no_offset SignedByte e = refl
  no_offset SignedShort e = refl
  no_offset Offset e = absurd (false≢true (sym e))
  no_offset WideOffset e = absurd (false≢true (sym e))

  abbrev placed : List ℤ → List ℤ
  placed offsets = map (λ offset. pos pc +ℤ offset) (offsets ++ [])

  one_target : (form : Form) → has_offset form ≡ true → targets_by form ≡ (pos pc +ℤ instr.first) ∷ []
  one_target NotAnOpcode e = absurd (false≢true e)
  one_target (Fixed plain) e = ap placed (one_offset plain.first e)
  one_target (Widened plain widened) e = absurd (false≢true e)
  one_target TableSwitch e = absurd (false≢true e)
  one_target LookupSwitch e = absurd (false≢true e)
  one_target Wide e = absurd (false≢true e)

  no_target : (form : Form) → has_offset form ≡ false → has_cases form ≡ false → targets_by form ≡ []
  no_target NotAnOpcode e f = refl
  no_target (Fixed plain) e f = ap placed (no_offset plain.first e)
  no_target (Widened plain widened) e f = refl
  no_target TableSwitch e f = absurd (false≢true (sym f))
  no_target LookupSwitch e f = absurd (false≢true (sym f))
  no_target Wide e f = refl

  all_targets : (form : Form) → has_cases form ≡ true
      → targets_by form ≡ map (λ offset. pos pc +ℤ offset) (instr.first ∷ map (λ (c : Case). c.offset) (cases_by form code instr))
  all_targets NotAnOpcode e = absurd (false≢true e)
  all_targets (Fixed plain) e = absurd (false≢true e)
  all_targets (Widened plain widened) e = absurd (false≢true e)
  all_targets TableSwitch e = refl
  all_targets LookupSwitch e = refl
  all_targets Wide e = absurd (false≢true e)

other_byte : (byte : ℕ) → byte ≢ 169 → not (byte == 169) ≡ true
other_byte byte h = elim (cases_Bool (byte == 169)) [
  | inl e ↦ absurd (h (eqb-true byte 169 e))
  | inr e ↦ ap not e
]

pub TargetsFitKind-targets_of : (code : List ℕ) (pc : ℕ) (instr : Instr) → instr.op < 256 → TargetsFitKind code pc instr
TargetsFitKind-targets_of code pc instr range =
    let form = (row_of instr.op).form in
    let offsets = offset_where_branches instr.op range in
    let cases = cases_where_switches instr.op range in
    let by_kind : (kind : Kind) → (row_of instr.op).kind ≡ kind → has_offset form ≡ branches kind instr.op = λ kind k. offsets ∙ ap (λ (x : Kind). branches x instr.op) k in
    record {
      branch = λ k. one_target code pc instr form (by_kind Branch k);
      jump = λ k other. one_target code pc instr form (by_kind Jump k ∙ other_byte instr.op other);
      ret = λ e. no_target code pc instr form (form_169 instr.op range e) (cases ∙ ap switches (kind_169 instr.op e));
      switch = λ k. all_targets code pc instr form (cases ∙ ap switches k);
      plain = λ k. no_target code pc instr form (by_kind Plain k) (cases ∙ ap switches k);
      return = λ k. no_target code pc instr form (by_kind Return k) (cases ∙ ap switches k);
      throw = λ k. no_target code pc instr form (by_kind Throw k) (cases ∙ ap switches k);
      invoke = λ k. no_target code pc instr form (by_kind Invoke k) (cases ∙ ap switches k);
    }

-- ---- the first target, and those of the cases

module _ (code : List ℕ) (pc : ℕ) (instr : Instr) where
  abbrev of_cases : Form → List ℤ
  of_cases form = map (λ (c : Case). pos pc +ℤ c.offset) (cases_by form code instr)

  case_targets : (cs : List Case) → map (λ offset. pos pc +ℤ offset) (map (λ (c : Case). c.offset) cs) ≡ map (λ (c : Case). pos pc +ℤ c.offset) cs
  case_targets [] = refl
  case_targets (c ∷ cs) = ap (λ (places : List ℤ). (pos pc +ℤ c.offset) ∷ places) (case_targets cs)

  first_target : (form : Form) → leads form ≡ true → targets_by code pc instr form ≡ (pos pc +ℤ instr.first) ∷ of_cases form
  first_target NotAnOpcode e = absurd (false≢true e)
  first_target (Fixed plain) e = ap (placed code pc instr) (one_offset code pc instr plain.first e)
  first_target (Widened plain widened) e = absurd (false≢true e)
  first_target TableSwitch e = ap (λ (places : List ℤ). (pos pc +ℤ instr.first) ∷ places) (case_targets (cases_by TableSwitch code instr))
  first_target LookupSwitch e = ap (λ (places : List ℤ). (pos pc +ℤ instr.first) ∷ places) (case_targets (cases_by LookupSwitch code instr))
  first_target Wide e = absurd (false≢true e)

  no_first_target : (form : Form) → leads form ≡ false → targets_by code pc instr form ≡ of_cases form
  no_first_target NotAnOpcode e = refl
  no_first_target (Fixed plain) e = ap (placed code pc instr) (no_offset code pc instr plain.first e)
  no_first_target (Widened plain widened) e = refl
  no_first_target TableSwitch e = absurd (false≢true (sym e))
  no_first_target LookupSwitch e = absurd (false≢true (sym e))
  no_first_target Wide e = refl

  pub with_target : leads (row_of instr.op).form ≡ true → targets_of code pc instr ≡ (pos pc +ℤ instr.first) ∷ of_cases (row_of instr.op).form
  with_target e = first_target (row_of instr.op).form e

  pub without_target : leads (row_of instr.op).form ≡ false → targets_of code pc instr ≡ of_cases (row_of instr.op).form
  without_target e = no_first_target (row_of instr.op).form e
