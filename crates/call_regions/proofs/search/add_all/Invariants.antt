use Rattle.std.proofs.Common.{take, Contains}
use Rattle.call_regions.specs.Searching.{FindsAll}
use Rattle.call_regions.proofs.search.add_all.Given as goal

abbrev pub invariant-loop-t : goal.invariant-loop-t
invariant-loop-t l = FindsAll l.f l.cache.block_words l.cache.blocks (Contains (take l.t-index l.targets)) l.initial.s l.s
