use Rattle.circuit_build.proofs.Settled.{added}
use Rattle.circuit_build.proofs.logic.Logic.wire.Goals as goal

pub returns-clause-gives : goal.returns-clause-gives
returns-clause-gives c = added _ _ _ _ c.added.ensures.adds
