use Rattle.image_words.proofs.SignatureLemmas.{AreAdded}
use Rattle.image_words.proofs.signatures.add_signatures.Given as goal

abbrev pub invariant-loop-index : goal.invariant-loop-index
invariant-loop-index l = AreAdded l.classes l.class l.index l.fn.signatures l.signatures
