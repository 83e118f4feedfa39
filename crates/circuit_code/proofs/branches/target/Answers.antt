use Rattle.circuit_build.proofs.Steps.{next, so}
use Rattle.circuit_code.proofs.branches.target.Goals as goal
use Rattle.std.proofs.Common.{◌∙◌}
use Rattle.circuit_code.proofs.Conditions.{going}

pub returns-clause-gives : goal.returns-clause-gives
returns-clause-gives c =
    so (next (next c.part-offset.ensures.gives c.minus-opcode_place.ensures.gives) c.add.ensures.gives)
    (λ ws f n core s.
    going core.jpc core.operand f.1 f.0.1 f.0.0 (c.minus-opcode_place.ensures.width ∙ c.args.cycle.now.registers.machine.jpc_width) c.args.cycle.now.registers.machine.jpc_width s.registers.machine.jpc s.registers.machine.operand)
