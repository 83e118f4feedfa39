use Rattle.ask_commands.proofs.NeedAnswers.{bare_line_says}
use Rattle.ask_commands.proofs.needs.memory_bare.Goals as goal

pub returns-in-Ok : goal.returns-in-Ok
returns-in-Ok c =
    bare_line_says c.args.image.now c.args.bounds.now c.args.sizes.now _ c.bare_need.result c.memory_line.result c.line_answer.result c.in-Ok.ensures.given c.bare_need.ensures c.memory_line.ensures c.line_answer.ensures
