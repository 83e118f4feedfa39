use Rattle.circuit_build.proofs.Steps.{next, so}
use Rattle.circuit_code.proofs.branches.next_jpc.Goals as goal
use Rattle.std.specs.Prelude.{◌&&◌, ◌||◌}
use Rattle.circuit_cycles.specs.Words.{has_nxt, has_opd}
use Rattle.circuit_cycles.specs.Core.{moved, runs}
use Rattle.circuit_code.proofs.Addresses.{ahead}
use Rattle.circuit_core.proofs.Choosing.{both, chosen, either}

pub returns-clause-gives : goal.returns-clause-gives
returns-clause-gives c =
    so (next (next (next (next c.moved-moved.ensures.gives c.or-flagged.ensures.gives) c.and-takes.ensures.gives) c.plus-behind.ensures.gives) c.choose.ensures.gives)
    (λ ws f n core s.
    chosen (runs core && (has_opd core.word || has_nxt core.word)) f.1
    (both (runs core) (has_opd core.word || has_nxt core.word) f.0.0.1 s.runs (either (has_opd core.word) (has_nxt core.word) f.0.0.0.1 s.word.opd s.word.nxt))
    (ahead (moved core) 1 16 f.0.1 c.moved-moved.ensures.width (f.0.0.0.0 n core s)) (f.0.0.0.0 n core s))
