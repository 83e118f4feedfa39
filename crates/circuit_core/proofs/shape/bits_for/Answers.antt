use Rattle.std.proofs.Common.{arith}
use Rattle.circuit_core.proofs.Telling.{tells_apart}
use Rattle.circuit_core.proofs.shape.bits_for.Goals as goal

pub returns : goal.returns
returns c = tells_apart c.args.places c.saturating_sub.result c.max.result (omega arith) c.saturating_sub.ensures c.max.ensures
