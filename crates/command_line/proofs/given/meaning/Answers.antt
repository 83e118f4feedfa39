use Rattle.std.proofs.Common.{◌∙◌, sym, ap}
use Rattle.command_line.specs.Table.{value_of_name}
use Rattle.command_line.specs.Command.{meaning}
use Rattle.command_line.proofs.given.meaning.Goals as goal

pub returns-in-Stack-clause-exact : goal.returns-in-Stack-clause-exact
returns-in-Stack-clause-exact c = c.stack_size.ensures.exact c.args.k ∙ ap (λ name. meaning (value_of_name name) c.args.k c.args.word.now) (sym c.in-Stack.is)
