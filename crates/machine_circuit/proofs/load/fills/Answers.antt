use Rattle.circuit_build.proofs.Steps.{next, so}
use Rattle.machine_circuit.proofs.load.fills.Goals as goal
use Rattle.std.proofs.Common.{ap, ◌∙◌, nat_lt}
use Rattle.netlist.specs.Meaning.{bit_of}
use Rattle.std.specs.Prelude.{◌==◌}
use Rattle.circuit_core.proofs.Choosing.{both, negated}
use Rattle.circuit_core.proofs.Acting.{some}

pub returns-clause-gives : goal.returns-clause-gives
returns-clause-gives c =
    so (next (next (next c.is-no_header.ensures.gives c.is-no_words.ensures.gives) c.not-some_words.ensures.gives) c.and.ensures.gives)
    (λ ws f n core s.
    both (core.header == 0) (nat_lt 0 core.left) f.1 (f.0.0.0 ∙ ap (λ x. bit_of (x == 0)) s.registers.method.header)
    (negated (core.left == 0) f.0.1 c.is-no_words.ensures.width (f.0.0.1 ∙ ap (λ x. bit_of (x == 0)) s.registers.method.left) ∙ ap bit_of (some core.left)))
