use Rattle.circuit_build.proofs.Steps.{next, so}
use Rattle.circuit_core.proofs.combined.calculated.Goals as goal
use Rattle.std.proofs.Common.{[], ◌∷◌, ap, ◌∙◌}
use Rattle.jop_core.specs.Operations.{combined}
use Rattle.circuit_core.proofs.Choosing.{picks}
use Rattle.netlist.specs.Meaning.{word_on}
use Rattle.std.proofs.Common.{◌^◌}
use Rattle.circuit_core.proofs.Choosing.{pair, picks}
use Rattle.microcode.specs.declared.isa.operation.Operation.TheVariants.{Add, Sub, Mul}
use Rattle.std.proofs.Common.{◌+◌, ◌*◌, ◌-◌, ◌%◌}

pub returns-clause-gives : goal.returns-clause-gives
returns-clause-gives c =
    so (next (next (next (next c.add-sum.ensures.gives c.sub-difference.ensures.gives) c.mul-product.ensures.gives) c.choose-other.ensures.gives) c.choose.ensures.gives)
    (λ ws f n core s.
    picks (3 ∷ []) core.word (f.1 core.word s.word) (f.0.0.0.0 ∙ ap (λ w. (word_on ws c.args.cycle.now.registers.machine.b + word_on ws c.args.cycle.now.registers.machine.a) % 2 ^ w) c.args.cycle.now.registers.machine.b_width ∙ pair (combined Add) s.registers.machine.b s.registers.machine.a) (picks (4 ∷ []) core.word (f.0.1 core.word s.word) (f.0.0.0.1 ∙ ap (λ w. (word_on ws c.args.cycle.now.registers.machine.b + (2 ^ w - word_on ws c.args.cycle.now.registers.machine.a)) % 2 ^ w) c.args.cycle.now.registers.machine.b_width ∙ pair (combined Sub) s.registers.machine.b s.registers.machine.a) (f.0.0.1 ∙ ap (λ w. (word_on ws c.args.cycle.now.registers.machine.b * word_on ws c.args.cycle.now.registers.machine.a) % 2 ^ w) c.args.cycle.now.registers.machine.b_width ∙ pair (combined Mul) s.registers.machine.b s.registers.machine.a)))
