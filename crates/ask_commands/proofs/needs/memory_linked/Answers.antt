use Rattle.std.proofs.Common.{List, subst}
use Rattle.class_pool.specs.declared.class.ClassFile.{ClassFile}
use Rattle.analysis_commands.specs.Memory.{IsNeed, IsMemoryRefusal}
use Rattle.ask_commands.proofs.NeedAnswers.{line_says}
use Rattle.ask_commands.proofs.needs.memory_linked.Goals as goal

pub returns-in-Ok : goal.returns-in-Ok
returns-in-Ok c =
    let N : List ClassFile → Type 0 = λ cs. IsNeed cs c.args.bounds.now c.args.sizes.now c.in-Ok.need in
    line_says c.args.linked.now c.args.bounds.now c.args.sizes.now c.in-Ok.need c.words_of.result c.memory_line.result c.line_answer.result (subst N c.program.ensures.program c.in-Ok.ensures.need) c.words_of.ensures c.memory_line.ensures
    c.line_answer.ensures

pub returns-in-Err : goal.returns-in-Err
returns-in-Err c =
    let R : List ClassFile → Type 0 = λ cs. IsMemoryRefusal cs c.args.bounds.now c.args.sizes.now c.in-Err.refusal in
    record { refusal = c.in-Err.refusal; is = subst R c.program.ensures.program c.in-Err.ensures.refused; says = c.memory_ending.ensures }
