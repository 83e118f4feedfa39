-- An instruction that names nothing is no call: so a program of a bare image has one frame.
use Rattle.std.proofs.Common.{◌≡◌, ℕ, ◌+◌, ℤ, pos, negsuc, ◌==◌, ◌&&◌, Bool, true, false, not, List, [], ◌∷◌, Option, Some, None, if◌then◌else◌, refl, sym, ap, ◌∙◌}
use Rattle.std.specs.Prelude.{IsSomeAnd}
use Rattle.std.specs.List.{list_all, list_any}
use Rattle.std.proofs.lemmas.Bool.{and_parts}
use Rattle.lists.proofs.Lemmas.{onto_some, some_is, some_same}
use Rattle.opcodes.specs.declared.instruction.Instr.{Instr}
use Rattle.bytecode_model.specs.Lists.{onto}
use Rattle.bytecode_model.specs.Types.{t_boolean, t_char, t_byte, t_short, t_int, t_long}
use Rattle.bytecode_model.specs.Rows.{Row, NewNumbers}
use Rattle.bytecode_model.specs.State.{Frame}
use Rattle.bytecode_model.specs.Program.{Program, Body, NoOperand, body_of, instr_at}
use Rattle.bytecode_model.specs.Table.{Meaning, instructions, row_among, row_of}
use Rattle.bytecode_model.specs.Steps.{row_at}
use Rattle.bytecode_model.specs.WellFormed.{is_call, AreCallers}

abbrev calls : Option Row → Bool
calls None = false
calls (Some r) = is_call r

-- the row of the opcode is no call, where nothing is named
abbrev is_calm : List ℕ → Instr → Meaning → Bool
is_calm code i m = not (calls (m.row code i NoOperand))

abbrev is_code : ℕ → Bool
is_code a = list_any (λ c. c == a) (t_boolean ∷ t_char ∷ t_byte ∷ t_short ∷ t_int ∷ t_long ∷ [])

-- of the rows, that of an array of numbers alone depends on more than its form
with_code : (b : Bool) (a : ℕ) → (not (calls (if b then Some (NewNumbers a) else None)) && true) ≡ true
with_code true a = refl
with_code false a = refl

all_calm : (code : List ℕ) (i : Instr) (first second : ℤ) → list_all (is_calm code (record i { first = first; second = second })) instructions ≡ true
all_calm code i (pos a) (pos b) = with_code (is_code a) a
all_calm code i (pos a) (negsuc b) = with_code (is_code a) a
all_calm code i (negsuc a) (pos b) = refl
all_calm code i (negsuc a) (negsuc b) = refl

calm_among : (code : List ℕ) (i : Instr) (ms : List Meaning) → list_all (is_calm code i) ms ≡ true → calls (row_among ms code i NoOperand) ≡ false
calm_among code i [] h = refl
calm_among code i (m ∷ ms) h =
    let parts = and_parts (is_calm code i m) (list_all (is_calm code i) ms) h in
    by (m.opcode == i.op) (none (calls (m.row code i NoOperand)) parts.0) (calm_among code i ms parts.1)
  where
    none : (b : Bool) → not b ≡ true → b ≡ false
    none true e = cc
    none false e = refl

    by : (b : Bool) → calls (m.row code i NoOperand) ≡ false → calls (row_among ms code i NoOperand) ≡ false → calls (if b then m.row code i NoOperand else row_among ms code i NoOperand) ≡ false
    by true e rest = e
    by false e rest = rest

names_nothing : (code : List ℕ) (i : Instr) (r : Row) → row_of code i NoOperand ≡ Some r → is_call r ≡ false
unfolding row_of
names_nothing code i r h = sym (ap calls h) ∙ calm_among code i instructions (all_calm code i i.first i.second)

-- no frame waits at an instruction that names nothing
pub none_calls : (P : Program) (f : Frame) (fs : List Frame) → P.operand f.method f.pc ≡ NoOperand → AreCallers P (f ∷ fs) → ⊥
none_calls P f fs bare h =
    let y = some_is (row_at P f) (λ (x : ℕ × Row). is_call x.1 ≡ true) h.0 in
    let b = onto_some (body_of P f.method) (λ (b : Body). onto (instr_at P f.method f.pc) (λ i. onto (row_of b.code i (P.operand f.method f.pc)) (λ r. Some (f.pc + i.length, r)))) y.0 y.1 in
    let i = onto_some (instr_at P f.method f.pc) (λ i. onto (row_of b.0.code i (P.operand f.method f.pc)) (λ r. Some (f.pc + i.length, r))) y.0 b.2 in
    let r = onto_some (row_of b.0.code i.0 (P.operand f.method f.pc)) (λ r. Some (f.pc + i.0.length, r)) y.0 i.2 in
    let same : r.0 ≡ y.0.1 = ap (λ (x : ℕ × Row). x.1) (some_same (f.pc + i.0.length, r.0) y.0 r.2) in
    let none = names_nothing b.0.code i.0 r.0 (sym (ap (λ o. row_of b.0.code i.0 o) bare) ∙ r.1) in
    let clash : true ≡ false = sym y.2 ∙ ap is_call (sym same) ∙ none in
    cc
