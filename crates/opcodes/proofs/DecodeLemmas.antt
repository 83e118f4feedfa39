-- Decoding by the form of the opcode.
use Rattle.std.proofs.Common.{◌≡◌, ℕ, ◌+◌, ◌<◌, ◌≤◌, List, length, refl, ◌∙◌, ap, Err}
use Rattle.std.proofs.lemmas.Bool.{cond_below, cond_above}
use Rattle.opcodes.specs.declared.instruction.DecodeFault.TheVariants.{NoOpcode, Short}
use Rattle.opcodes.specs.declared.table.Form.{Form as FormCode}
use Rattle.opcodes.specs.declared.table.Form.TheVariants as forms
use Rattle.opcodes.specs.Bytes.{u1}
use Rattle.opcodes.specs.Entry.{entry_form}
use Rattle.opcodes.specs.Form.{Form, Wide}
use Rattle.opcodes.specs.Instruction.{decoded, spelled_at, widened_at, within}
use Rattle.opcodes.specs.Row.{row_of}

-- the form is that of the opcode at pc
pub decoded-form : (code : List ℕ) (pc : ℕ) (form : Form) → form ≡ (row_of (u1 code pc)).form → within code pc (spelled_at code pc form) ≡ decoded code pc
unfolding decoded
decoded-form code pc form e = ap (λ (f : Form). within code pc (spelled_at code pc f)) e

-- behind `wide`
pub wide-inside : (code : List ℕ) (pc : ℕ) (form : Form) → pc + 1 < length code → form ≡ (row_of (u1 code (pc + 1))).form
    → within code pc (widened_at code pc form) ≡ within code pc (spelled_at code pc Wide)
wide-inside code pc form h e =
    ap (λ (f : Form). within code pc (widened_at code pc f)) e
    ∙ ap (within code pc) (cond_below (pc + 1) (length code) (widened_at code pc (row_of (u1 code (pc + 1))).form) (Err Short) h)

pub wide-end : (code : List ℕ) (pc : ℕ) → length code ≤ pc + 1 → Err Short ≡ within code pc (spelled_at code pc Wide)
wide-end code pc h = ap (within code pc) (cond_above (pc + 1) (length code) (widened_at code pc (row_of (u1 code (pc + 1))).form) (Err Short) (Err Short) h refl)

-- a form that has none behind `wide`
pub not_widened : (code : List ℕ) (pc : ℕ) (form : FormCode) → ((x y : _) → form ≡ forms.Widened x y → ⊥)
    → Err (NoOpcode (u1 code (pc + 1))) ≡ within code pc (widened_at code pc (entry_form form))
not_widened code pc forms.NotAnOpcode none = refl
not_widened code pc (forms.Fixed x) none = refl
not_widened code pc (forms.Widened x y) none = absurd (none x y refl)
not_widened code pc forms.TableSwitch none = refl
not_widened code pc forms.LookupSwitch none = refl
not_widened code pc forms.Wide none = refl
