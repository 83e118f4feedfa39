use Rattle.std.proofs.Common.{List, subst}
use Rattle.std.specs.Prelude.{IfOk}
use Rattle.class_pool.specs.declared.class.ClassFile.{ClassFile}
use Rattle.analysis_commands.specs.Loops.{AreLoopLinesBy}
use Rattle.analysis_commands.proofs.LoopLines.{lines_ok}
use Rattle.analysis_commands.proofs.loops.loop_lines.Goals as goal

pub returns : goal.returns
returns c =
    let L : List ClassFile → Type 0 = λ cs. IfOk c.lines_by.result (λ text. AreLoopLinesBy c.in_ok-flow.flow cs text.items) in
    lines_ok c.args.program.now c.in_ok-flow.flow c.in_ok-flow.ensures.flow c.in_ok-flow.ensures.names c.lines_by.result (subst L c.program.ensures.program c.lines_by.ensures)
