use Rattle.std.proofs.Common.{◌∙◌, sym}
use Rattle.command_line.proofs.Numbers.{size-unread}
use Rattle.command_line.proofs.given.stack_size.Goals as goal

pub returns-in_err-number-clause-exact : goal.returns-in_err-number-clause-exact
returns-in_err-number-clause-exact c = λ k. c.from_residual.ensures ∙ size-unread k c.args.word.now (sym c.number_from.ensures ∙ c.in_err-number.was)
