use Rattle.bytecode_model.proofs.Supported.{rows_are_of_their_opcodes}
use Rattle.bytecode_model.proofs.laws.rows_are_of_their_opcodes.Goals as goal

pub returns : goal.returns
returns c = rows_are_of_their_opcodes
