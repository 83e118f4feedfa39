use Rattle.bytecode_model.proofs.Raises.{only_marked_ones_raise}
use Rattle.bytecode_model.proofs.laws.only_marked_ones_raise.Goals as goal

pub returns : goal.returns
returns c = only_marked_ones_raise
