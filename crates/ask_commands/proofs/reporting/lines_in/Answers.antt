use Rattle.std.proofs.Common.{List, sym, ◌∙◌, subst}
use Rattle.std.specs.Prelude.{IfOk}
use Rattle.class_pool.specs.declared.class.ClassFile.{ClassFile}
use Rattle.program_tables.specs.Resolved.{resolved}
use Rattle.method_flow.specs.Flow.{IsFlowOf}
use Rattle.analysis_commands.specs.Analysis.{IsAnalysisOf}
use Rattle.analysis_commands.proofs.Bounding.{refused_err}
use Rattle.ask_commands.specs.Reporting.{AreLinesBy}
use Rattle.ask_commands.proofs.Reported.{says_ok}
use Rattle.ask_commands.proofs.reporting.lines_in.Goals as goal

pub lines_by-requires-clause-flow : goal.lines_by-requires-clause-flow
lines_by-requires-clause-flow c =
    let F : List ClassFile → Type 0 = λ cs. IsFlowOf (resolved cs) c.in-Ok.analysis.flow in
    subst F (sym c.program.ensures.program) c.in-Ok.ensures.analysis.flow

pub returns-in-Ok-clause-lines : goal.returns-in-Ok-clause-lines
returns-in-Ok-clause-lines c =
    let A : List ClassFile → Type 0 = λ cs. IsAnalysisOf cs c.args.settings.now c.args.bounds.now c.in-Ok.analysis in
    let L : List ClassFile → Type 0 = λ cs. IfOk c.lines_by.result (λ text. AreLinesBy cs c.in-Ok.analysis c.args.name.now text.items) in
    let classes = c.program-verified.ensures.program in
    says_ok c.args.linked.now.classes c.args.settings.now c.args.bounds.now c.in-Ok.analysis (subst A classes c.in-Ok.ensures.analysis) c.args.name.now c.lines_by.result
    (subst L (c.program.ensures.program ∙ classes) c.lines_by.ensures.lines)

pub returns-in-Ok-clause-refused : goal.returns-in-Ok-clause-refused
returns-in-Ok-clause-refused c =
    let A : List ClassFile → Type 0 = λ cs. IsAnalysisOf cs c.args.settings.now c.args.bounds.now c.in-Ok.analysis in
    refused_err c.args.linked.now.classes c.args.settings.now c.args.bounds.now c.in-Ok.analysis (subst A c.program-verified.ensures.program c.in-Ok.ensures.analysis) c.args.name.now c.lines_by.result c.lines_by.ensures.refused
