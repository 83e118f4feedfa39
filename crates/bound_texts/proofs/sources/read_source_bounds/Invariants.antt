use Rattle.bound_texts.proofs.SourcesLemmas.ReadLemmas.{IsReadSoFar}
use Rattle.bound_texts.proofs.sources.read_source_bounds.Given as goal

abbrev pub invariant-loop-line : goal.invariant-loop-line
invariant-loop-line l = IsReadSoFar l.text l.number l.line-iterator l.bounds
