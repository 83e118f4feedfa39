use Rattle.bytecode_typing.proofs.Placed.{control_stays}
use Rattle.bytecode_typing.proofs.well_placed.control_stays_at_instructions.Goals as goal

pub returns : goal.returns
returns c = control_stays
