use Rattle.std.proofs.Common.{◌≡◌, take}
use Rattle.netlist.specs.Meaning.{word_on}
use Rattle.circuit_build.specs.Wiring.{Gives}
use Rattle.circuit_cycles.specs.Tags.{find_tag}
use Rattle.circuit_cycles.specs.Core.{Core}
use Rattle.machine_circuit.specs.Shapes.{shape_of}
use Rattle.machine_circuit.specs.Tags.{HoldTags}
use Rattle.machine_circuit.proofs.Finding.{FoundAre}
use Rattle.machine_circuit.proofs.cache.look_up.Given as goal

abbrev pub invariant-loop-block : goal.invariant-loop-block
invariant-loop-block l = record {
  is_hit_width : l.found.0.width ≡ 1;
  width : l.found.1.0.width ≡ l.shape.ring_bits;
  words_width : l.found.1.1.0.width ≡ 16;
  gives :
      Gives l.fn.logic l.logic
      (λ ws. (core : Core) → HoldTags (shape_of l.shape) ws l.tags core → word_on ws l.place ≡ core.a
      → FoundAre (shape_of l.shape) ws l.found.0 l.found.1.0 l.found.1.1.0 (find_tag 0 core.a (take l.block core.tags)));
}
