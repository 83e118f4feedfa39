use Rattle.std.proofs.Common.{◌≡◌, ◌++◌, replicate}
use Rattle.image_builder.proofs.writing.add_zeros.Given as goal

abbrev pub invariant-loop-index : goal.invariant-loop-index
invariant-loop-index l = l.words.items ≡ l.fn.words.items ++ replicate l._index 0
