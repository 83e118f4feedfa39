use Rattle.circuit_build.proofs.Steps.{so}
use Rattle.machine_circuit.proofs.port.is_within.Goals as goal
use Rattle.std.proofs.Common.{ap, ◌∙◌, nat_lt}
use Rattle.netlist.specs.Meaning.{word_on, bit_of}

pub returns-clause-gives : goal.returns-clause-gives
returns-clause-gives c =
    so c.less.ensures.gives
    (λ ws f.
    f ∙ ap (λ x. bit_of (nat_lt (word_on ws c.args.place) x)) (ap (λ x. word_on ws x) c.constant.ensures ∙ c.from.ensures))
