use Rattle.call_regions.proofs.Exploring.{Explores}
use Rattle.call_regions.proofs.search.add_reached.Given as goal

abbrev pub invariant-loop-at : goal.invariant-loop-at
invariant-loop-at l = Explores l.f l.cache.block_words l.cache.blocks l.initial.s l.s l.at
