use Rattle.bound_texts.proofs.LoopsLemmas.ReadLemmas.{IsReadSoFar}
use Rattle.bound_texts.proofs.loops.read_text.Given as goal

abbrev pub invariant-loop-line : goal.invariant-loop-line
invariant-loop-line l = IsReadSoFar l.quantity l.text l.number l.line-iterator l.bounds
