use Rattle.circuit_build.proofs.Steps.{next, so}
use Rattle.machine_circuit.proofs.load.code_place.Goals as goal
use Rattle.std.proofs.Common.{ap, ◌∙◌, ◌+◌, ◌%◌, ◌^◌}
use Rattle.netlist.specs.Meaning.{word_on}
use Rattle.machine_circuit.proofs.Moving.{code_at}

pub returns-clause-gives : goal.returns-clause-gives
returns-clause-gives c =
    so (next (next (next c.add-twice.ensures.gives c.add-table.ensures.gives) c.plus-record.ensures.gives) c.add.ensures.gives)
    (λ ws f.
    code_at (word_on ws c.args.place) (word_on ws c.args.entries) c.args.place.width f.1 f.0.1
    (f.0.0.1 ∙ ap (λ w. (word_on ws c.args.entries + word_on ws c.add-twice.result) % 2 ^ w) c.requires)
    (f.0.0.0 ∙ ap (λ w. (word_on ws c.args.entries + word_on ws c.args.entries) % 2 ^ w) c.requires) c.plus-record.ensures.width)
