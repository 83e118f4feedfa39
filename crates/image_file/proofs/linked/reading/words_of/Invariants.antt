use Rattle.std.proofs.Common.{length}
use Rattle.image_file.specs.Linked.{IsWord, u4}
use Rattle.image_file.proofs.Sequences.{IsTaken}
use Rattle.image_file.proofs.linked.reading.words_of.Given as goal

abbrev pub invariant-loop-word : goal.invariant-loop-word
invariant-loop-word l = IsTaken u4 IsWord l.words.items l.bytes l.rest

abbrev pub decreases-loop-word : goal.decreases-loop-word
decreases-loop-word l = length l.rest
