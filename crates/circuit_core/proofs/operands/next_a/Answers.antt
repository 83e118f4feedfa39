use Rattle.circuit_build.proofs.Steps.{next, so}
use Rattle.circuit_core.proofs.operands.next_a.Goals as goal
use Rattle.circuit_cycles.specs.Core.{pops, pushes}
use Rattle.circuit_core.proofs.Choosing.{chosen}

pub returns-clause-gives : goal.returns-clause-gives
returns-clause-gives c =
    so (next (next (next c.pushed-pushed.ensures.gives c.top-top.ensures.gives) c.choose-popped.ensures.gives) c.choose.ensures.gives)
    (λ ws f n core given s i.
    chosen (pushes core) f.1 s.pushes (f.0.0.0 n core given s i) (chosen (pops core) f.0.1 s.pops (f.0.0.1 n core s) s.registers.machine.a))
