use Rattle.circuit_build.proofs.Steps.{next, so}
use Rattle.circuit_core.proofs.running.goes.Goals as goal
use Rattle.std.proofs.Common.{ap, ◌∙◌}
use Rattle.std.specs.Prelude.{◌==◌}
use Rattle.netlist.specs.Meaning.{bit_of}
use Rattle.circuit_core.proofs.Acting.{begun}
use Rattle.circuit_core.proofs.Choosing.{both}

pub returns-clause-gives : goal.returns-clause-gives
returns-clause-gives c =
    so (next (next c.is-is_running.ensures.gives c.not-has_begun.ensures.gives) c.and.ensures.gives)
    (λ ws f n core h.
    both (core.starting == 0) (core.halt == 0) f.1
    (begun core.starting f.0.1 c.args.registers.now.ahead.starting_width h.ahead.starting h.ahead.starting_fits) (f.0.0 ∙ ap (λ x. bit_of (x == 0)) h.machine.halt))
