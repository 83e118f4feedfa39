-- A frame that waits goes on by an edge of its method, behind its invoke or to the raise step there.
use Rattle.std.proofs.Common.{◌≡◌, ℕ, ◌+◌, true, sym, ◌∙◌, subst, IsSomeAnd}
use Rattle.opcodes.specs.declared.instruction.Instr.{Instr}
use Rattle.opcodes.specs.declared.table.Kind.{Kind}
use Rattle.opcodes.specs.declared.table.Kind.TheVariants.{Invoke}
use Rattle.opcodes.specs.Row as opcodes
use Rattle.opcodes.specs.Target as operands
use Rattle.lists.proofs.Lemmas.{onto_some, some_is, some_in, holds_at}
use Rattle.bytecode_model.specs.Program.{Program, body_of, instr_at}
use Rattle.bytecode_model.specs.Rows.{Row}
use Rattle.bytecode_model.specs.Steps.{row_in}
use Rattle.bytecode_model.specs.WellFormed.{is_call}
use Rattle.method_flow.specs.Nodes.{At, LeadsTo, IsEdge}
use Rattle.method_flow.specs.Calls.{IsCall}
use Rattle.method_flow.specs.Kinds.{LeadsByKind, RowsAreOfTheirKinds}

pub behind_call : RowsAreOfTheirKinds → (P : Program) (m p q : ℕ) → IsCall P m p → IsSomeAnd (instr_at P m p) (λ i. q ≡ p + i.length) → IsEdge P m (At p) (At q)
behind_call kinds P m p q call place =
    let row = some_is (row_in P m p) (λ (x : ℕ × Row). is_call x.1 ≡ true) call in
    let next = row.0.0 in
    let r = row.0.1 in
    let body = onto_some (body_of P m) _ row.0 row.1 in
    let instr = onto_some (instr_at P m p) _ row.0 body.2 in
    let is = kinds P m p next body.0 instr.0 r body.1 instr.1 row.1 in
    let at : q ≡ p + instr.0.length = holds_at (instr_at P m p) instr.0 (λ (i : Instr). q ≡ p + i.length) instr.1 place in
    let invoke : (opcodes.row_of instr.0.op).kind ≡ Invoke = is.1.calls.0 row.2 in
    let by_kind : LeadsByKind (opcodes.row_of instr.0.op).kind (operands.targets_of body.0.code p instr.0) next q =
    subst (λ (k : Kind). LeadsByKind k (operands.targets_of body.0.code p instr.0) next q) (sym invoke) (at ∙ sym is.0) in
    some_in (row_in P m p) row.0 (λ (x : ℕ × Row). LeadsTo p x.0 x.1 q) row.1 ((is.1.leads q).1 by_kind)
