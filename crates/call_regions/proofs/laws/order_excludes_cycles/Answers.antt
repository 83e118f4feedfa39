use Rattle.call_regions.proofs.Ordering.{order_excludes_cycles}
use Rattle.call_regions.proofs.laws.order_excludes_cycles.Goals as goal

pub returns : goal.returns
returns c = order_excludes_cycles
