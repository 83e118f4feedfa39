-- Lines are read off the code.
use Rattle.std.proofs.Common.{◌≡◌, ℕ, ◌+◌, Option, Some, Result, Ok, Err, sym, ap, ◌∙◌}
use Rattle.opcodes.specs.declared.instruction.Instr.{Instr}
use Rattle.opcodes.specs.declared.instruction.DecodeFault.{DecodeFault}
use Rattle.opcodes.specs.Instruction.{decoded}
use Rattle.opcodes.specs.Start.{IsStart}
use Rattle.lists.specs.Lists.{onto}
use Rattle.lists.proofs.Lemmas.{onto_some, some_same, some_in, holds_at}
use Rattle.bytecode_model.specs.Program.{Program, Body, as_instr, body_of, instr_at}
use Rattle.bytecode_model.specs.Rows.{Row}
use Rattle.bytecode_model.specs.Table.{row_of}
use Rattle.code_lines.specs.Lines.{IsLine}
use Rattle.code_lines.specs.Laws.{IsReadAs, LinesAreRead, LinesAreOne}

ok_of : (x : Result Instr DecodeFault) (i : Instr) → as_instr x ≡ Some i → x ≡ Ok i
ok_of (Ok j) i e = let same = some_same j i e in cc
ok_of (Err fault) i e = absurd (cc)

module _ (P : Program) (m p next : ℕ) (r : Row) (b : Body) (body : body_of P m ≡ Some b) where
  instr_read : (i : Instr) → instr_at P m p ≡ Some i → decoded b.code p ≡ Ok i
  instr_read i e = ok_of (decoded b.code p) i (sym (ap (λ (o : Option Body). onto o (λ (x : Body). as_instr (decoded x.code p))) body) ∙ e)

  instr_there : (i : Instr) → decoded b.code p ≡ Ok i → instr_at P m p ≡ Some i
  instr_there i e = ap (λ (o : Option Body). onto o (λ (x : Body). as_instr (decoded x.code p))) body ∙ ap as_instr e

  pub read_as : IsLine P m p next r → IsReadAs P m b p next r
  read_as h =
      let found = onto_some (body_of P m) _ (next, r) h.is in
      let instr = onto_some (instr_at P m p) _ (next, r) found.2 in
      let row = onto_some (row_of found.0.code instr.0 (P.operand m p)) _ (next, r) instr.2 in
      let same : found.0 ≡ b = some_same found.0 b (sym found.1 ∙ body) in
      let pair : (p + instr.0.length, row.0) ≡ (next, r) = some_same (p + instr.0.length, row.0) (next, r) row.2 in
      record {
        start = holds_at (body_of P m) b (λ (x : Body). IsStart x.code p) body h.start;
        instr = instr.0;
        is = instr_read instr.0 instr.1;
        behind = sym (ap (λ (x : ℕ × Row). x.0) pair);
        row = ap (λ (x : Body). row_of x.code instr.0 (P.operand m p)) (sym same) ∙ (row.1 ∙ ap (λ (x : ℕ × Row). Some x.1) pair);
      }

  pub line_of : IsReadAs P m b p next r → IsLine P m p next r
  line_of h =
      let place : ℕ → Row → Option (ℕ × Row) = λ n x. Some (n, x) in
      let e1 = ap (λ (o : Option Body). onto o (λ (x : Body). onto (instr_at P m p) (λ (i : Instr). onto (row_of x.code i (P.operand m p)) (place (p + i.length))))) body in
      let e2 = ap (λ (o : Option Instr). onto o (λ (i : Instr). onto (row_of b.code i (P.operand m p)) (place (p + i.length)))) (instr_there h.instr h.is) in
      let e3 = ap (λ (o : Option Row). onto o (place (p + h.instr.length))) h.row in
      record {
        start = some_in (body_of P m) b (λ (x : Body). IsStart x.code p) body h.start;
        is = e1 ∙ (e2 ∙ (e3 ∙ ap (λ (n : ℕ). Some (n, r)) (sym h.behind)));
      }

pub lines_are_read : LinesAreRead
lines_are_read P m p next r b body = (read_as P m p next r b body, line_of P m p next r b body)

pub lines_are_one : LinesAreOne
lines_are_one P m p next other r s h g =
    let pair : (next, r) ≡ (other, s) = some_same (next, r) (other, s) (sym h.is ∙ g.is) in
    (ap (λ (x : ℕ × Row). x.0) pair, ap (λ (x : ℕ × Row). x.1) pair)
