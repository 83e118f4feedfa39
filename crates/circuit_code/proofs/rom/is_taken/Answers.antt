use Rattle.circuit_build.proofs.Steps.{next, so}
use Rattle.circuit_code.proofs.rom.is_taken.Goals as goal
use Rattle.std.proofs.Common.{ap, ◌∙◌}
use Rattle.netlist.specs.Meaning.{bit_of}
use Rattle.std.specs.Prelude.{◌==◌, not}
use Rattle.circuit_cycles.specs.Words.{is_bnz, is_bz}
use Rattle.circuit_cycles.specs.Core.{runs}
use Rattle.circuit_code.proofs.Taken.{taking}
use Rattle.circuit_core.proofs.Choosing.{both, negated}

pub returns-clause-gives : goal.returns-clause-gives
returns-clause-gives c =
    so (next (next (next (next (next (next c.is-is_zero.ensures.gives c.not-is_other.ensures.gives) c.and-on_zero.ensures.gives) c.and-on_other.ensures.gives) c.or-either.ensures.gives) c.or-goes.ensures.gives) c.and.ensures.gives)
    (λ ws f n core s.
    let zero = f.0.0.0.0.0.0 ∙ ap (λ x. bit_of (x == 0)) s.registers.machine.a in
    taking core.word core.a (runs core) f.1 s.runs f.0.1 s.word.is_jmp f.0.0.1 (both (is_bz core.word) (core.a == 0) f.0.0.0.0.1 s.word.is_bz zero)
    (both (is_bnz core.word) (not (core.a == 0)) f.0.0.0.1 s.word.is_bnz (negated (core.a == 0) f.0.0.0.0.0.1 c.is-is_zero.ensures.width zero)))
