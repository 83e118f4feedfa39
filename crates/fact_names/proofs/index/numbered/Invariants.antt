use Rattle.bound_texts.proofs.LoopsLemmas.NameLemmas.{texts}
use Rattle.fact_names.specs.Index.{AreNumbered}
use Rattle.fact_names.proofs.index.numbered.Given as goal

abbrev pub invariant-loop-i : goal.invariant-loop-i
invariant-loop-i l = AreNumbered l.lines l.i (texts l.names.keys) l.numbers.items
