use Rattle.std.proofs.Common.{◌≡◌, map, take}
use Rattle.image_words.specs.Layout.{pool_words}
use Rattle.image_words.proofs.item_sizes.pool_sizes.Given as goal

abbrev pub invariant-loop-number : goal.invariant-loop-number
invariant-loop-number l = l.sizes.items ≡ map pool_words (take l.number l.classes)
