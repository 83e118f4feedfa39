use Rattle.std.proofs.Common.{arith}
use Rattle.circuit_core.proofs.Telling.{exact_places, few_bits, ring_range, size_range, some_bits}
use Rattle.circuit_core.proofs.shape.Shape.new.Goals as goal

pub invariant_of-result-clause-some_on_chip : goal.invariant_of-result-clause-some_on_chip
invariant_of-result-clause-some_on_chip c = (size_range c.args.on_chip_words c.requires).0

pub invariant_of-result-clause-on_chip : goal.invariant_of-result-clause-on_chip
invariant_of-result-clause-on_chip c = exact_places c.bits_for.result c.args.on_chip_words c.bits_for.ensures c.requires

pub invariant_of-result-clause-some_places : goal.invariant_of-result-clause-some_places
invariant_of-result-clause-some_places c = some_bits c.bits_for.ensures (size_range c.args.on_chip_words c.requires).0

pub invariant_of-result-clause-few_on_chip : goal.invariant_of-result-clause-few_on_chip
invariant_of-result-clause-few_on_chip c =
    few_bits 31 c.bits_for.ensures (omega arith) (omega (arith, (size_range c.args.on_chip_words c.requires).1))

pub invariant_of-result-clause-few_places : goal.invariant_of-result-clause-few_places
invariant_of-result-clause-few_places c = few_bits 32 c.bits_for-2.ensures (omega arith) (omega (arith, c.args.config.most_memory))

pub invariant_of-result-clause-few_ring : goal.invariant_of-result-clause-few_ring
invariant_of-result-clause-few_ring c =
    few_bits 31 c.bits_for-5.ensures (omega arith)
    (omega (arith, ring_range c.args.config.blocks c.args.config.block_words c.args.config.most_blocks c.args.config.most_block_words))
