use Rattle.circuit_build.proofs.Steps.{next, so}
use Rattle.machine_circuit.proofs.nets.Switch.new.Goals as goal
use Rattle.std.proofs.Common.{ap, ◌∙◌, ◌+◌}
use Rattle.netlist.specs.Meaning.{bit_of}
use Rattle.std.specs.Prelude.{◌==◌}
use Rattle.circuit_cycles.specs.Core.{fills, switches}
use Rattle.circuit_core.proofs.Choosing.{both, negated, pair}
use Rattle.circuit_cycles.specs.Core.{found}
use Rattle.machine_circuit.specs.Loading.{is_hit}
use Rattle.machine_circuit.proofs.Moving.{missing}

pub returns : goal.returns
returns c =
    so (next (next (next (next (next (next (next c.does-switches.ensures.gives c.not-is_miss.ensures.gives) c.is-is_turn.ensures.gives) c.fills-fills.ensures.gives) c.and.ensures.gives) c.is.ensures.gives) c.is-2.ensures.gives) c.and-2.ensures.gives)
    (λ ws f n core s t. record {
      switches = f.0.0.0.0.0.0.0 n core s;
      misses = both (switches core) _ f.0.0.0.1 (f.0.0.0.0.0.0.0 n core s) (negated (is_hit (found core)) f.0.0.0.0.0.0.1 c.args.found.now.is_hit_width t.is_hit ∙ ap bit_of (missing (found core)));
      has_words = (f.0.0.1 ∙ ap (λ x. bit_of (x == 4)) s.registers.method.header);
      has_entries = (f.0.1 ∙ ap (λ x. bit_of (x == 3)) s.registers.method.header);
      writes = both (fills core) (core.turn == c.args.shape.now.read_wait + 1) f.1 (f.0.0.0.0.1 n core s)
          (f.0.0.0.0.0.1 ∙ pair (λ x y. bit_of (x == y)) s.registers.method.turn c.from.ensures);
    })
