use Rattle.std.proofs.Common.{List, subst, sym}
use Rattle.std.specs.Prelude.{IfOk, IfErr}
use Rattle.class_pool.specs.declared.class.ClassFile.{ClassFile}
use Rattle.program_tables.specs.Resolved.{resolved}
use Rattle.method_flow.specs.Flow.{IsFlowOf}
use Rattle.node_costs.specs.Costs as table
use Rattle.analysis_commands.specs.Answers.{table_name}
use Rattle.memory_bound.specs.Causes.{IsNeedOf}
use Rattle.analysis_commands.specs.Memory.{IsNotMetBy}
use Rattle.analysis_commands.proofs.Needs.{need_ok, need_err}
use Rattle.analysis_commands.proofs.memory.need_given.Goals as goal

pub need_by-requires : goal.need_by-requires
need_by-requires c = let F : List ClassFile → Type 0 = λ cs. IsFlowOf (resolved cs) c.in-Ok.flow in subst F (sym c.program.ensures.program) c.in-Ok.ensures.flow

pub returns-in-Ok-clause-need : goal.returns-in-Ok-clause-need
returns-in-Ok-clause-need c =
    let f = c.in-Ok.flow in
    let given = c.args.given.now in
    let N : List ClassFile → Type 0 = λ cs. IfOk c.need_by.result (IsNeedOf (resolved cs) (table.bounds_of f given.bounds) (table.bounds_of f given.lengths)) in
    need_ok c.args.program.now f c.in-Ok.ensures.flow c.in-Ok.ensures.names given c.need_by.result (subst N c.program.ensures.program c.need_by.ensures.need)

pub returns-in-Ok-clause-fault : goal.returns-in-Ok-clause-fault
returns-in-Ok-clause-fault c =
    let f = c.in-Ok.flow in
    let given = c.args.given.now in
    let N : List ClassFile → Type 0 = λ cs. IfErr c.need_by.result (IsNotMetBy (resolved cs) (table.bounds_of f given.bounds) (table.bounds_of f given.lengths) (table_name f)) in
    need_err c.args.program.now f c.in-Ok.ensures.flow c.in-Ok.ensures.names given c.need_by.result (subst N c.program.ensures.program c.need_by.ensures.fault)
