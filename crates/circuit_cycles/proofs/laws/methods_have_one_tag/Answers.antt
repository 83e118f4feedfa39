use Rattle.circuit_cycles.proofs.OneTag.{one_tag}
use Rattle.circuit_cycles.proofs.laws.methods_have_one_tag.Goals as goal

pub returns : goal.returns
returns c = one_tag
