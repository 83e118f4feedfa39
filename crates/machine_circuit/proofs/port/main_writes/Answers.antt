use Rattle.circuit_build.proofs.Steps.{next, so}
use Rattle.machine_circuit.proofs.port.main_writes.Goals as goal
use Rattle.std.proofs.Common.{ap, ◌∙◌, nat_lt}
use Rattle.netlist.specs.Meaning.{bit_of}
use Rattle.circuit_cycles.specs.Words.{stmwd}
use Rattle.circuit_cycles.specs.Core.{does}
use Rattle.circuit_core.proofs.Choosing.{both}

pub returns-clause-gives : goal.returns-clause-gives
returns-clause-gives c =
    so (next c.is_within-is_within.ensures.gives c.and.ensures.gives)
    (λ ws f n core s w.
    both (does stmwd core) (nat_lt core.write_address c.args.shape.now.memory_words) f.1 w (f.0 ∙ ap (λ x. bit_of (nat_lt x c.args.shape.now.memory_words)) s.registers.port.write_address))
