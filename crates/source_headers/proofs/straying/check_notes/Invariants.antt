use Rattle.source_headers.proofs.StrayLemmas.{AreUsedBelow}
use Rattle.source_headers.proofs.straying.check_notes.Given as goal

abbrev pub invariant-loop-index : goal.invariant-loop-index
invariant-loop-index l = AreUsedBelow l.gathered l.notes l.index
