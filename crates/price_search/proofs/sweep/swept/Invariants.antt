use Rattle.price_search.specs.Sweep.{AreSameWidths}
use Rattle.price_search.proofs.sweep.swept.Given as goal

abbrev pub invariant-loop-u : goal.invariant-loop-u
invariant-loop-u l = AreSameWidths l.initial.s l.s
