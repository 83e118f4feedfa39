use Rattle.std.proofs.Common.{◌≡◌, ◌<◌, Some, None, length, arith}
use Rattle.method_flow.specs.Flow.{Coded}
use Rattle.analysis_commands.specs.Executive.{executive_name}
use Rattle.analysis_commands.specs.ExecutiveAnswers.{IsExecutiveIn}
use Rattle.analysis_commands.proofs.Executives.{within, executive_of_program}
use Rattle.analysis_commands.proofs.executive.executive_method.Goals as goal

pub returns-then-is_cyclic_main-clause-program : goal.returns-then-is_cyclic_main-clause-program
returns-then-is_cyclic_main-clause-program c =
    let first : IsExecutiveIn c.args.flow.now (Some c.loop-m.m) = (c.is_cyclic_main.ensures.0 c.if-is_cyclic_main.true, c.loop-m.invariant) in
    λ cs table. executive_of_program cs c.args.flow.now (Some c.loop-m.m) first table

pub returns-clause-first : goal.returns-clause-first
returns-clause-first c u h =
    let below : u < length c.args.flow.now.methods = within c.args.flow.now.methods u (λ (k : Coded). k.name ≡ executive_name) h in
    c.loop-m.invariant u (omega (arith, below)) h

pub returns-clause-program : goal.returns-clause-program
returns-clause-program c =
    let first : IsExecutiveIn c.args.flow.now None = returns-clause-first c in
    λ cs table. executive_of_program cs c.args.flow.now None first table
