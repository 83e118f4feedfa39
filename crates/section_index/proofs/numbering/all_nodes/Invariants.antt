use Rattle.section_index.specs.Numbering.{AreNodes}
use Rattle.section_index.proofs.numbering.all_nodes.Given as goal

abbrev pub invariant-loop-u : goal.invariant-loop-u
invariant-loop-u l = AreNodes l.u l.found.items
