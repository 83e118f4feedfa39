use Rattle.circuit_build.proofs.Steps.{next, so}
use Rattle.circuit_code.proofs.branches.holds_on_a.Goals as goal
use Rattle.std.proofs.Common.{ap, ◌∙◌, ◌/◌, ◌%◌, ◌^◌}
use Rattle.netlist.specs.Meaning.{bit_of}
use Rattle.std.specs.Prelude.{◌==◌}
use Rattle.std.specs.Prelude.{◌||◌}
use Rattle.base.specs.Signed.{is_negative}
use Rattle.circuit_core.proofs.Choosing.{either, negated}
use Rattle.circuit_code.proofs.Conditions.{on_a, sign_bit}

pub returns-clause-gives : goal.returns-clause-gives
returns-clause-gives c =
    so (next (next (next (next (next (next (next (next (next (next (next c.is-zero.ensures.gives c.part-negative.ensures.gives) c.or-least.ensures.gives) c.not-not_zero.ensures.gives) c.not-not_negative.ensures.gives) c.not-positive.ensures.gives) c.choose-holds.ensures.gives) c.choose-holds-2.ensures.gives) c.choose-holds-3.ensures.gives) c.choose-holds-4.ensures.gives) c.choose-holds-5.ensures.gives) c.choose.ensures.gives)
    (λ ws f rest r n core s.
    let zero = f.0.0.0.0.0.0.0.0.0.0.0 ∙ ap (λ x. bit_of (x == 0)) s.registers.machine.a in
    let negative = sign_bit core.a s.registers.machine.a_fits (f.0.0.0.0.0.0.0.0.0.0.1 ∙ ap (λ x. x / 2 ^ 31 % 2 ^ 1) s.registers.machine.a) in
    let least = either (core.a == 0) (is_negative core.a) f.0.0.0.0.0.0.0.0.0.1 zero negative in
    on_a core.opcode core.a rest s.registers.machine.a_fits f.1 f.0.1 f.0.0.1 f.0.0.0.1 f.0.0.0.0.1 f.0.0.0.0.0.1 s.registers.machine.opcode
    zero (negated (core.a == 0) f.0.0.0.0.0.0.0.0.1 c.is-zero.ensures.width zero) negative (negated (is_negative core.a) f.0.0.0.0.0.0.0.1 c.part-negative.ensures.width negative)
    (negated (core.a == 0 || is_negative core.a) f.0.0.0.0.0.0.1 (c.or-least.ensures.width ∙ c.is-zero.ensures.width) least) least r)
