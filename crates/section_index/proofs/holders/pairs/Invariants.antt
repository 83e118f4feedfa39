use Rattle.section_index.proofs.Holding.{ArePairsBelow}
use Rattle.section_index.proofs.holders.pairs.Given as goal

abbrev pub invariant-loop-i : goal.invariant-loop-i
invariant-loop-i l = ArePairsBelow l.family.sets l.i l.pairs.items
