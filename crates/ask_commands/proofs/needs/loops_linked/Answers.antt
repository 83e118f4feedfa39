use Rattle.std.proofs.Common.{Bool, List, sym, subst}
use Rattle.std.specs.Prelude.{IfOk}
use Rattle.class_pool.specs.declared.class.ClassFile.{ClassFile}
use Rattle.analysis_commands.specs.Loops.{AreLoopLines, AreFurtherLines}
use Rattle.ask_commands.specs.Needs.{AnswersLoops}
use Rattle.ask_commands.proofs.LoopAnswers.{further_answers, loop_answers}
use Rattle.ask_commands.proofs.needs.loops_linked.Goals as goal

pub returns-then-further : goal.returns-then-further
returns-then-further c =
    let cs = c.args.linked.now.classes in
    let L : List ClassFile → Type 0 = λ xs. IfOk c.further_lines.result (λ text. AreFurtherLines xs text.items) in
    subst (λ (b : Bool). AnswersLoops b cs c.line_answer.result) (sym c.if-further.true)
    (further_answers cs c.further_lines.result c.line_answer.result (subst L c.program.ensures.program c.further_lines.ensures) c.line_answer.ensures)

pub returns-else-further : goal.returns-else-further
returns-else-further c =
    let cs = c.args.linked.now.classes in
    let L : List ClassFile → Type 0 = λ xs. IfOk c.loop_lines.result (λ text. AreLoopLines xs text.items) in
    subst (λ (b : Bool). AnswersLoops b cs c.line_answer-else-further.result) (sym c.if-further.false)
    (loop_answers cs c.loop_lines.result c.line_answer-else-further.result (subst L c.program-else-further.ensures.program c.loop_lines.ensures) c.line_answer-else-further.ensures)
