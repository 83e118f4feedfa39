use Rattle.std.proofs.Common.{Option, ap, ◌∙◌}
use Rattle.opcodes.specs.declared.instruction.Instr.{Instr}
use Rattle.lists.specs.Lists.{onto}
use Rattle.bytecode_model.specs.Program.{Operand}
use Rattle.program_tables.specs.Resolved.{resolved}
use Rattle.flow_table.specs.Invokes.{invoked_as}
use Rattle.flow_table.proofs.Invoking.{invoked_same}
use Rattle.flow_table.proofs.invokes.invoked_at.Goals as goal

pub returns : goal.returns
returns c =
    let P = resolved c.args.program.now in
    let m = c.args.method in
    let p = c.args.place in
    let op = c.in_ok-x.x.instr.op in
    c.invoked_as.ensures
    ∙ (ap (λ (o : Operand). invoked_as op o) c.in_ok-x.ensures.operand
    ∙ (ap (λ (o : Option Instr). onto o (λ i. invoked_as i.op (P.operand m p))) c.in_ok-x.ensures.instr ∙ invoked_same c.calls_are_invokes.ensures P m p))
