use Rattle.circuit_build.proofs.Steps.{next, so}
use Rattle.circuit_core.proofs.running.runs.Goals as goal
use Rattle.std.proofs.Common.{◌∙◌}
use Rattle.circuit_cycles.specs.Core.{goes, is_stalled, waits}
use Rattle.circuit_core.proofs.Acting.{running}

pub returns-clause-gives : goal.returns-clause-gives
returns-clause-gives c =
    so (next (next (next (next c.is_stalled-stalled.ensures.gives c.waits-waits.ensures.gives) c.or-rests.ensures.gives) c.not-acts.ensures.gives) c.and.ensures.gives)
    (λ ws f n core h d g.
    running (goes core) (is_stalled core) (waits core) f.1 f.0.1 (c.or-rests.ensures.width ∙ c.is_stalled-stalled.ensures.width) f.0.0.1 g (f.0.0.0.0 n core h) (f.0.0.0.1 n core h d))
