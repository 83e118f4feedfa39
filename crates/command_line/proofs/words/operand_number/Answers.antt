use Rattle.std.proofs.Common.{◌+◌, ◌∙◌, sym, ap}
use Rattle.command_line.specs.Table.{operands_of}
use Rattle.command_line.specs.Command.{texts, operand_number}
use Rattle.command_line.proofs.WordLemmas.{length_texts}
use Rattle.command_line.proofs.words.operand_number.Goals as goal

pub returns-in-Headers : goal.returns-in-Headers
returns-in-Headers c =
    ap (λ many. 1 + many) (sym (length_texts c.args.rest.now)) ∙ ap (λ verb. operand_number (operands_of verb) c.args.operand.now (texts c.args.rest.now)) (sym c.in-Headers.is)
