use Rattle.circuit_build.proofs.Steps.{next, so}
use Rattle.circuit_code.proofs.branches.choose.Goals as goal
use Rattle.std.proofs.Common.{refl}
use Rattle.netlist.specs.Meaning.{word_on}
use Rattle.std.specs.Prelude.{◌==◌}
use Rattle.std.specs.List.{list_any}
use Rattle.circuit_core.proofs.Choosing.{chosen}

pub returns-clause-gives : goal.returns-clause-gives
returns-clause-gives c =
    so (next c.is_any-is_any.ensures.gives c.choose.ensures.gives)
    (λ ws f.
    chosen (list_any (λ code. word_on ws c.args.opcode == code) c.args.codes.now) f.1 f.0 refl refl)
