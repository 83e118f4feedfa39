use Rattle.circuit_build.proofs.Steps.{next, so}
use Rattle.machine_circuit.proofs.nets.Tag.holds.Goals as goal
use Rattle.std.proofs.Common.{◌∙◌}
use Rattle.netlist.specs.Meaning.{word_on}
use Rattle.machine_circuit.proofs.Finding.{same_method}

pub returns-clause-gives : goal.returns-clause-gives
returns-clause-gives c =
    so (next (next (c.fit-method.ensures.kept c.args.self.now.few_places) c.equal-is_same.ensures.gives) c.and.ensures.gives)
    (λ ws f tag h. same_method (word_on ws c.args.place) tag h.begins_fits f.1 h.begins f.0.1 (f.0.0 ∙ h.method))
