use Rattle.std.proofs.Common.{List, subst}
use Rattle.class_pool.specs.declared.class.ClassFile.{ClassFile}
use Rattle.analysis_commands.specs.Analysis.{IsAnalysisOf, IsAnalysisFault}
use Rattle.ask_commands.proofs.BoundAnswers.{bounds_say}
use Rattle.ask_commands.proofs.all_bounds.bounds_linked.Goals as goal

pub returns-in-Ok : goal.returns-in-Ok
returns-in-Ok c =
    let A : List ClassFile → Type 0 = λ cs. IsAnalysisOf cs c.args.settings.now c.args.bounds.now c.in-Ok.analysis in
    bounds_say c.args.linked.now.classes c.args.settings.now c.args.bounds.now c.in-Ok.analysis (subst A c.program.ensures.program c.in-Ok.ensures.analysis) c.bound_lines.result c.line_answer.result c.bound_lines.ensures c.line_answer.ensures

pub returns-in-Err : goal.returns-in-Err
returns-in-Err c =
    let R : List ClassFile → Type 0 = λ cs. IsAnalysisFault cs c.args.settings.now c.args.bounds.now c.in-Err.fault in
    record { fault = c.in-Err.fault; is = subst R c.program.ensures.program c.in-Err.ensures.fault; says = c.fault_ending.ensures }
