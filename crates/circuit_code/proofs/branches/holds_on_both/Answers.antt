use Rattle.circuit_build.proofs.Steps.{next, so}
use Rattle.circuit_code.proofs.branches.holds_on_both.Goals as goal
use Rattle.std.proofs.Common.{ap, ◌∙◌, subst, sym, ◌^◌, ◌<◌}
use Rattle.netlist.specs.Meaning.{word_on, bit_of}
use Rattle.std.specs.Prelude.{◌==◌}
use Rattle.base.specs.Signed.{signed_lt}
use Rattle.circuit_core.proofs.Choosing.{negated, pair}
use Rattle.circuit_code.proofs.Conditions.{on_both}

pub returns-clause-gives : goal.returns-clause-gives
returns-clause-gives c =
    so (next (next (next (next (next (next (next (next (next (next (next c.equal-equal.ensures.gives c.signed_less-less.ensures.gives) c.signed_less-greater.ensures.gives) c.not-unlike.ensures.gives) c.not-at_least.ensures.gives) c.not-at_most.ensures.gives) c.choose-holds.ensures.gives) c.choose-holds-2.ensures.gives) c.choose-holds-3.ensures.gives) c.choose-holds-4.ensures.gives) c.choose-holds-5.ensures.gives) c.choose.ensures.gives)
    (λ ws f n core s.
    let a_fits = subst (λ x. x < 2 ^ 32) (sym s.registers.machine.a) s.registers.machine.a_fits in
    let b_fits = subst (λ x. x < 2 ^ 32) (sym s.registers.machine.b) s.registers.machine.b_fits in
    let equal = f.0.0.0.0.0.0.0.0.0.0.0 ∙ pair (λ x y. bit_of (x == y)) s.registers.machine.b s.registers.machine.a in
    let less = f.0.0.0.0.0.0.0.0.0.0.1 b_fits a_fits ∙ pair (λ x y. bit_of (signed_lt x y)) s.registers.machine.b s.registers.machine.a in
    let greater = f.0.0.0.0.0.0.0.0.0.1 a_fits b_fits ∙ pair (λ x y. bit_of (signed_lt x y)) s.registers.machine.a s.registers.machine.b in
    on_both core.opcode core.b core.a f.1 f.0.1 f.0.0.1 f.0.0.0.1 f.0.0.0.0.1 f.0.0.0.0.0.1 s.registers.machine.opcode
    equal (negated (core.b == core.a) f.0.0.0.0.0.0.0.0.1 c.equal-equal.ensures.width equal) less (negated (signed_lt core.b core.a) f.0.0.0.0.0.0.0.1 c.signed_less-less.ensures.width less)
    greater (negated (signed_lt core.a core.b) f.0.0.0.0.0.0.1 c.signed_less-greater.ensures.width greater) (ap (λ x. word_on ws x) c.never.ensures))
