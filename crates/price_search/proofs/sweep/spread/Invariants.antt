use Rattle.price_search.specs.Sweep.{AreSameWidths}
use Rattle.price_search.proofs.sweep.spread.Given as goal

abbrev pub invariant-loop-u : goal.invariant-loop-u
invariant-loop-u l = AreSameWidths l.fn.s l.s
