-- Which shape of the definitions a machine's shape is.
use Rattle.circuit_core.specs.declared.shape.Shape as built
use Rattle.circuit_cycles.specs.Shape.{Shape}

abbrev pub shape_of : built.Shape → Shape
shape_of s = record {
  on_chip_words = s.on_chip_words;
  on_chip_bits = s.on_chip_bits;
  memory_words = s.memory_words;
  memory_bits = s.memory_bits;
  read_wait = s.read_wait;
  write_wait = s.write_wait;
  blocks = s.blocks;
  block_bits = s.block_bits;
  block_words = s.block_words;
  in_block_bits = s.in_block_bits;
  ring_words = s.ring_words;
  ring_bits = s.ring_bits;
}
