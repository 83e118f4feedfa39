use Rattle.std.proofs.Common.{◌≡◌, Ok, sym, ◌∙◌}
use Rattle.std.specs.declared.result.Result.{Result}
use Rattle.command_line.specs.declared.command.Command.{Command}
use Rattle.command_line.specs.Command.{texts, command_of}
use Rattle.jop_cli.proofs.Executing.{does_task, shows_output, takes_input}
use Rattle.jop_cli.proofs.top.execute.Goals as goal

pub returns-in-Ok-clause-executed : goal.returns-in-Ok-clause-executed
returns-in-Ok-clause-executed g c =
    let is : ◌≡◌ {A = Result Command _} (Ok c.in-Ok.command) (command_of (texts c.args.words.now)) = sym c.in-Ok.is ∙ c.read_words.ensures.exact in
    does_task (texts c.args.words.now) (command_of (texts c.args.words.now)) c.in-Ok.command c.task_of.result _ _ c.perform.result is c.task_of.ensures.task c.perform.ensures.does

pub returns-in-Ok-clause-watch : goal.returns-in-Ok-clause-watch
returns-in-Ok-clause-watch g c none =
    let is = sym c.read_words.ensures.exact ∙ c.in-Ok.is in
    c.perform.ensures.watch (λ shows. none (shows_output (texts c.args.words.now) c.in-Ok.command c.task_of.result is c.task_of.ensures.task shows))

pub returns-in-Ok-clause-input : goal.returns-in-Ok-clause-input
returns-in-Ok-clause-input g c none =
    let is = sym c.read_words.ensures.exact ∙ c.in-Ok.is in
    c.perform.ensures.input (λ takes. none (takes_input (texts c.args.words.now) c.in-Ok.command c.task_of.result _ _ is c.task_of.ensures.task takes))
