use Rattle.std.proofs.Common.{List, subst}
use Rattle.class_pool.specs.declared.class.ClassFile.{ClassFile}
use Rattle.analysis_commands.specs.Analysis.{EachFits}
use Rattle.analysis_commands.proofs.Lifting.{analysed_ok}
use Rattle.analysis_commands.proofs.analysis.analysis_of.Goals as goal

pub returns-in-None-clause-analysis : goal.returns-in-None-clause-analysis
returns-in-None-clause-analysis c =
    let P : List ClassFile → Type 0 = λ cs. EachFits c.args.settings.now cs in
    analysed_ok c.args.program.now c.args.settings.now c.args.bounds.now c.in-Ok.flow c.timing_of.result c.analysis_with.result c.in-Ok.ensures.flow c.in-Ok.ensures.names (subst P c.program.ensures.program c.in-None.ensures) c.timing_of.ensures c.analysis_with.ensures.parts
