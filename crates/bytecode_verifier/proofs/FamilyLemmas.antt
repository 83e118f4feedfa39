-- The code's table of families against the list of instructions: computed over all bytes, then read at each.
use Rattle.std.proofs.Common.{◌≡◌, ℕ, ◌<◌, List, [], ◌∷◌, Option, None, get_or, map, refl, sym, ◌∙◌, ap, arith}
use Rattle.std.specs.Prelude.{◌==◌, if◌then◌else◌}
use Rattle.std.specs.Option.{option_map}
use Rattle.std.specs.List.{range_with_len}
use Rattle.std.proofs.Math.ListN.{get_or-map}
use Rattle.std.proofs.lemmas.List.FromFn.{get_or-map-range_with_len}
use Rattle.opcodes.specs.declared.instruction.Instr.{Instr}
use Rattle.bytecode_model.specs.Program.{Operand}
use Rattle.bytecode_model.specs.Rows.{Row}
use Rattle.bytecode_model.specs.Table.{Meaning, instructions, row_among, row_of}
use Rattle.bytecode_verifier.specs.declared.family.Family.{Family}
use Rattle.bytecode_verifier.specs.Family.{family_row, IsFamilyOf}
use Rattle.bytecode_verifier.specs.Plain.{plain}

abbrev pub Rows : Type 0
Rows = List ℕ → Instr → Operand → Option Row

-- by an opcode that is given apart
abbrev pub row_by : List Meaning → ℕ → Rows
row_by [] op code i o = None
row_by (m ∷ ms) op code i o = if m.opcode == op then m.row code i o else row_by ms op code i o

by_opcode : (ms : List Meaning) (code : List ℕ) (i : Instr) (o : Operand) → row_among ms code i o ≡ row_by ms i.op code i o
by_opcode [] code i o = refl
by_opcode (m ∷ ms) code i o = ap (λ r. if m.opcode == i.op then m.row code i o else r) (by_opcode ms code i o)

abbrev pub plain_by : ℕ → Rows
plain_by op = λ code i o. option_map plain (row_by instructions op code i o)

abbrev pub plain_of : Family → Rows
plain_of f = λ code i o. option_map plain (family_row f code i o)

pub family_at : (families : List Family) (d : Family) → map plain_of families ≡ map plain_by (range_with_len 0 256) → (op : ℕ) → op < 256 → IsFamilyOf op (get_or families op d)
unfolding IsFamilyOf row_of
family_at families d e op h = λ code i o same.
    let at : plain_of (get_or families op d) ≡ plain_by op =
    sym (get_or-map plain_of families op d) ∙ (ap (λ (list : List Rows). get_or list op (plain_of d)) e ∙ get_or-map-range_with_len plain_by 0 256 op op (plain_of d) (omega arith) (omega arith)) in
    ap (option_map plain) (by_opcode instructions code i o)
    ∙ (ap (λ n. option_map plain (row_by instructions n code i o)) same
    ∙ ap (λ (r : Rows). r code i o) (sym at))
