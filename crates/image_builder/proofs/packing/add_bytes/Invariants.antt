use Rattle.image_builder.proofs.PackLemmas.{Packing}
use Rattle.image_builder.proofs.packing.add_bytes.Given as goal

abbrev pub invariant-loop-k : goal.invariant-loop-k
invariant-loop-k l = Packing l.bytes l.fn.words.items l.words.items l.k
