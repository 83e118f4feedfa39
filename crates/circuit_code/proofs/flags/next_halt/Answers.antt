use Rattle.circuit_build.proofs.Steps.{next, so}
use Rattle.circuit_code.proofs.flags.next_halt.Goals as goal
use Rattle.std.proofs.Common.{ap, ◌∙◌}
use Rattle.netlist.specs.Meaning.{word_on, bit_of}
use Rattle.std.specs.Prelude.{◌==◌}
use Rattle.std.specs.Prelude.{◌&&◌}
use Rattle.circuit_cycles.specs.Words.{hltb, hltu}
use Rattle.circuit_cycles.specs.Core.{does}
use Rattle.circuit_core.proofs.Choosing.{both, chosen, pair}

pub returns-clause-gives : goal.returns-clause-gives
returns-clause-gives c =
    so (next (next (next (next (next (next c.is-is_boot.ensures.gives c.does-ends.ensures.gives) c.and-ends.ensures.gives) c.does-is_uncaught.ensures.gives) c.and-is_uncaught.ensures.gives) c.choose-ended.ensures.gives) c.choose.ensures.gives)
    (λ ws f n core s.
    let boot = f.0.0.0.0.0.0 ∙ pair (λ x y. bit_of (x == y)) s.registers.machine.vp c.from.ensures in
    chosen (does hltu core && core.vp == 64) f.1 (both (does hltu core) (core.vp == 64) f.0.0.1 (f.0.0.0.1 n core s) boot) (ap (λ x. word_on ws x) c.constant-2.ensures)
    (chosen (does hltb core && core.vp == 64) f.0.1 (both (does hltb core) (core.vp == 64) f.0.0.0.0.1 (f.0.0.0.0.0.1 n core s) boot) (ap (λ x. word_on ws x) c.constant.ensures) s.registers.machine.halt))
