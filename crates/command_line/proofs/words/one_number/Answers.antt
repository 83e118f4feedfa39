use Rattle.std.proofs.Common.{◌∙◌, sym}
use Rattle.command_line.specs.Command.{number_from}
use Rattle.command_line.proofs.WordLemmas.{number_followed}
use Rattle.command_line.proofs.words.one_number.Goals as goal

pub returns-else-is_empty : goal.returns-else-is_empty
returns-else-is_empty c =
    number_followed c.args.k c.in-Some.field-0 (number_from 1 1000 c.args.operand.now) c.args.rest.now (sym c.number_from.ensures ∙ c.in-Some.is) (sym c.is_empty.ensures ∙ c.if-is_empty.false)
