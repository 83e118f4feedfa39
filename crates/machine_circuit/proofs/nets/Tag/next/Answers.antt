use Rattle.circuit_build.proofs.Steps.{next, so}
use Rattle.machine_circuit.proofs.nets.Tag.next.Goals as goal
use Rattle.std.specs.Prelude.{◌==◌}
use Rattle.circuit_cycles.specs.Core.{tag_taken}
use Rattle.circuit_core.proofs.Choosing.{chosen}
use Rattle.machine_circuit.proofs.Finding.{behind_tag, bit_fits}

pub returns : goal.returns
returns c = record {
  gives =
      so (next (next c.choose.ensures.gives c.choose-2.ensures.gives) c.choose-3.ensures.gives)
      (λ ws f core tag taken m h t e.
      behind_tag taken (tag_taken core) tag (bit_fits (core.left == core.words)) h.begins_fits (chosen taken f.0.0 t e h.begins)
      (chosen taken f.0.1 t m.place h.method) (chosen taken f.1 t m.words h.words));
}
