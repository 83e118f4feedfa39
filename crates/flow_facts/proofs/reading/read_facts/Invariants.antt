use Rattle.flow_facts.proofs.ReadLemmas.{IsReadSoFar}
use Rattle.flow_facts.proofs.reading.read_facts.Given as goal

abbrev pub invariant-loop-line : goal.invariant-loop-line
invariant-loop-line l = IsReadSoFar l.text l.number l.line-iterator l.reading
