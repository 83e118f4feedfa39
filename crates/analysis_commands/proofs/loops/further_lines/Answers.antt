use Rattle.std.proofs.Common.{List, subst}
use Rattle.std.specs.Prelude.{IfOk}
use Rattle.class_pool.specs.declared.class.ClassFile.{ClassFile}
use Rattle.analysis_commands.specs.Loops.{AreFurtherLinesBy}
use Rattle.analysis_commands.proofs.FurtherLines.{further_lines_ok}
use Rattle.analysis_commands.proofs.loops.further_lines.Goals as goal

pub returns : goal.returns
returns c =
    let L : List ClassFile → Type 0 = λ cs. IfOk c.further_lines_by.result (λ text. AreFurtherLinesBy c.in_ok-flow.flow cs text.items) in
    further_lines_ok c.args.program.now c.in_ok-flow.flow c.in_ok-flow.ensures.flow c.in_ok-flow.ensures.names c.further_lines_by.result
    (subst L c.program.ensures.program c.further_lines_by.ensures)
