use Rattle.circuit_build.proofs.Steps.{next, so}
use Rattle.machine_circuit.proofs.load.behind.Goals as goal
use Rattle.std.proofs.Common.{ap, ◌∙◌}
use Rattle.std.specs.Prelude.{◌==◌}
use Rattle.netlist.specs.Meaning.{word_on, bit_of}
use Rattle.machine_circuit.proofs.Moving.{next_of}

pub returns-clause-gives : goal.returns-clause-gives
returns-clause-gives c =
    so (next (next c.is-is_last.ensures.gives c.plus-next.ensures.gives) c.choose.ensures.gives)
    (λ ws f h few.
    next_of (word_on ws c.args.place) c.args.places c.args.place.width h few f.1
    (f.0.0 ∙ ap (λ x. bit_of (word_on ws c.args.place == x)) (c.from.ensures ∙ c.saturating_sub.ensures)) f.0.1 (ap (λ x. word_on ws x) c.constant.ensures))
