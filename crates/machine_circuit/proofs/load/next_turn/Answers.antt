use Rattle.circuit_build.proofs.Steps.{next, so}
use Rattle.machine_circuit.proofs.load.next_turn.Goals as goal
use Rattle.std.proofs.Common.{ap, ◌∙◌, ◌+◌, nat_lt}
use Rattle.std.specs.Prelude.{◌==◌}
use Rattle.netlist.specs.Meaning.{word_on, bit_of}
use Rattle.circuit_cycles.specs.Core.{fills}
use Rattle.circuit_core.proofs.Choosing.{both, negated}
use Rattle.circuit_core.proofs.Acting.{some}
use Rattle.machine_circuit.proofs.Moving.{turned}

pub returns-clause-gives : goal.returns-clause-gives
returns-clause-gives c =
    so (next (next (next (next (next c.fills-fills.ensures.gives c.is-ends_turn.ensures.gives) c.not-goes_on.ensures.gives) c.and-is_within.ensures.gives) c.minus-less.ensures.gives) c.choose.ensures.gives)
    (λ ws f n core s.
    let ends = f.0.0.0.0.1 ∙ ap (λ x. bit_of (x == 0)) s.registers.method.turn in
    let goes = negated (core.turn == 0) f.0.0.0.1 c.is-ends_turn.ensures.width ends ∙ ap bit_of (some core.turn) in
    turned core.turn (c.args.shape.now.read_wait + 1) (fills core) s.registers.method.turn_fits f.1
    (both (fills core) (nat_lt 0 core.turn) f.0.0.1 (f.0.0.0.0.0 n core s) goes) s.registers.method.turn f.0.1
    c.args.cycle.now.registers.method.turn_width (ap (λ x. word_on ws x) c.constant.ensures ∙ c.from.ensures))
