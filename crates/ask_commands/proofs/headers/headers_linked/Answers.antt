use Rattle.std.proofs.Common.{◌≡◌, ℕ, List, Some, sym, subst}
use Rattle.std.specs.Prelude.{slice_get}
use Rattle.class_pool.specs.declared.class.ClassFile.{ClassFile}
use Rattle.program_tables.specs.Resolved.{resolved}
use Rattle.name_laws.specs.Written.{written_name}
use Rattle.method_flow.specs.Flow.{Coded, IsFlowOf}
use Rattle.ask_commands.specs.Headers.{AnswersHeaders}
use Rattle.ask_commands.proofs.headers.headers_linked.Goals as goal

pub headers_by-requires-clause-flow : goal.headers_by-requires-clause-flow
headers_by-requires-clause-flow c =
    let F : List ClassFile → Type 0 = λ cs. IsFlowOf (resolved cs) c.in-Ok.flow in
    subst F (sym c.program.ensures.program) c.in-Ok.ensures.flow

pub headers_by-requires-clause-names : goal.headers_by-requires-clause-names
headers_by-requires-clause-names c =
    let N : List ClassFile → Type 0 = λ cs. (m : ℕ) (k : Coded) → slice_get c.in-Ok.flow.methods m ≡ Some k → k.name ≡ written_name cs m in
    subst N (sym c.program.ensures.program) c.in-Ok.ensures.names

pub returns-in-Ok : goal.returns-in-Ok
returns-in-Ok c =
    let A : List ClassFile → Type 0 = λ cs. AnswersHeaders cs c.args.lines.now c.headers_by.result in
    subst A c.program-program.ensures.program (subst A c.program.ensures.program c.headers_by.ensures)
