use Rattle.std.proofs.Common.{◌≡◌, ◌<◌, ◌≤◌, List, ℕ, None, Some, length, false, sym, ap, ◌∙◌, subst}
use Rattle.std.specs.Prelude.{slice_get}
use Rattle.std.specs.Option.{option_map}
use Rattle.class_lookup.specs.Lookup.{Place}
use Rattle.opcodes.specs.declared.instruction.Instr.{Instr}
use Rattle.opcodes.specs.Instruction.{decoded}
use Rattle.bytecode_model.specs.Program.{as_instr, NoOperand}
use Rattle.program_tables.specs.Operands.{operand_in, guarded_in}
use Rattle.resolved_program.proofs.InstructionLemmas.{class_there, code_here, instr_told, class_of_method, none_past_end, said_at}
use Rattle.resolved_program.proofs.program.Program.instruction.Goals as goal

pub returns-in_err-code-clause-instr : goal.returns-in_err-code-clause-instr
returns-in_err-code-clause-instr c =
    let cs = c.args.self.now in
    let n = c.args.method in
    let p = c.method.result in
    ap (option_map (λ i. i.instr)) c.from_residual.ensures
    ∙ instr_told c.methods_stand_by_number.ensures cs n c.args.pc p None c.method.ensures (code_here cs n p None c.in_err-code.ensures.code c.method.ensures)

pub returns-then-pc-code-clause-instr : goal.returns-then-pc-code-clause-instr
returns-then-pc-code-clause-instr c =
    let cs = c.args.self.now in
    let n = c.args.method in
    let pc = c.args.pc in
    let p = c.method.result in
    let k = c.in_ok-code.field-0.now in
    let past = subst (λ (code : List ℕ). length code ≤ pc) c.as_slice-code.ensures c.if-pc-code.true in
    none_past_end k.code pc past (c.instructions_end_within.ensures k.code pc)
    ∙ instr_told c.methods_stand_by_number.ensures cs n pc p (Some k) c.method.ensures (code_here cs n p (Some k) c.in_ok-code.ensures.code c.method.ensures)

pub with_operand-requires : goal.with_operand-requires
with_operand-requires c =
    let cs = c.args.self.now in
    let p = c.method.result in
    let k = c.in_ok-code.field-0.now in
    let one : c.class.inside.class ≡ p.0 = ap (λ (q : Place). q.0) c.class.view_is in
    let there = class_there cs p k (code_here cs c.args.method p (Some k) c.in_ok-code.ensures.code c.method.ensures) in
    subst (λ (class : ℕ). class < length cs) (sym one) there

pub returns-in-Ok-clause-instr : goal.returns-in-Ok-clause-instr
returns-in-Ok-clause-instr c =
    let cs = c.args.self.now in
    let n = c.args.method in
    let pc = c.args.pc in
    let p = c.method.result in
    let k = c.in_ok-code.field-0.now in
    ap (λ (i : Instr). Some i) c.with_operand.ensures.instr
    ∙ ap as_instr (c.in-Ok.ensures.exact ∙ ap (λ (code : List ℕ). decoded code pc) c.as_slice-code.ensures)
    ∙ instr_told c.methods_stand_by_number.ensures cs n pc p (Some k) c.method.ensures (code_here cs n p (Some k) c.in_ok-code.ensures.code c.method.ensures)

pub returns-in-Ok-clause-operand : goal.returns-in-Ok-clause-operand
returns-in-Ok-clause-operand c =
    let cs = c.args.self.now in
    let n = c.args.method in
    let pc = c.args.pc in
    let p = c.method.result in
    let k = c.in_ok-code.field-0.now in
    let i = c.in-Ok.instr in
    let one : c.class.inside.class ≡ p.0 = ap (λ (q : Place). q.0) c.class.view_is in
    let here = code_here cs n p (Some k) c.in_ok-code.ensures.code c.method.ensures in
    let file = class_of_method cs p k here in
    let decodes = ap as_instr (sym (c.in-Ok.ensures.exact ∙ ap (λ (code : List ℕ). decoded code pc) c.as_slice-code.ensures)) in
    c.with_operand.ensures.operand file.0 (ap (slice_get cs) one ∙ file.1)
    ∙ (ap (λ (class : ℕ). operand_in cs class file.0 i) one ∙ said_at cs n pc p file.0 k i NoOperand (operand_in cs) c.method.ensures file.1 here decodes)

pub returns-in-Ok-clause-guarded : goal.returns-in-Ok-clause-guarded
returns-in-Ok-clause-guarded c =
    let cs = c.args.self.now in
    let n = c.args.method in
    let pc = c.args.pc in
    let p = c.method.result in
    let k = c.in_ok-code.field-0.now in
    let i = c.in-Ok.instr in
    let one : c.class.inside.class ≡ p.0 = ap (λ (q : Place). q.0) c.class.view_is in
    let here = code_here cs n p (Some k) c.in_ok-code.ensures.code c.method.ensures in
    let file = class_of_method cs p k here in
    let decodes = ap as_instr (sym (c.in-Ok.ensures.exact ∙ ap (λ (code : List ℕ). decoded code pc) c.as_slice-code.ensures)) in
    c.with_operand.ensures.guarded file.0 (ap (slice_get cs) one ∙ file.1)
    ∙ (ap (λ (class : ℕ). guarded_in cs class file.0 i) one ∙ said_at cs n pc p file.0 k i false (guarded_in cs) c.method.ensures file.1 here decodes)

pub returns-in-Err-clause-instr : goal.returns-in-Err-clause-instr
returns-in-Err-clause-instr c =
    let cs = c.args.self.now in
    let n = c.args.method in
    let pc = c.args.pc in
    let p = c.method.result in
    let k = c.in_ok-code.field-0.now in
    ap as_instr (c.in-Err.ensures.exact ∙ ap (λ (code : List ℕ). decoded code pc) c.as_slice-code.ensures)
    ∙ instr_told c.methods_stand_by_number.ensures cs n pc p (Some k) c.method.ensures (code_here cs n p (Some k) c.in_ok-code.ensures.code c.method.ensures)
