use Rattle.boundary.proofs.Lasting.{take_cycles}
use Rattle.boundary.proofs.laws.activations_take_cycles.Goals as goal

pub returns : goal.returns
returns c = take_cycles c.cycles_keep.ensures
