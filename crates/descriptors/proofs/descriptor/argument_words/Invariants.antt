use Rattle.std.proofs.Common.{◌≡◌, ◌+◌, ◌≤◌, drop}
use Rattle.descriptors.specs.Descriptors.{argument_words}
use Rattle.descriptors.proofs.descriptor.argument_words.Given as goal

abbrev pub invariant-loop-t : goal.invariant-loop-t
invariant-loop-t l = (l.words + argument_words (drop l.t-index l.types) ≡ argument_words l.types) × (l.words ≤ 255)
