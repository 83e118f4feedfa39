use Rattle.std.proofs.Common.{take}
use Rattle.call_regions.specs.Searching.{FindsAll}
use Rattle.call_regions.specs.Tables.{IsTargetOf}
use Rattle.call_regions.proofs.search.add_targets.Given as goal

abbrev pub invariant-loop-call : goal.invariant-loop-call
invariant-loop-call l = FindsAll l.f l.cache.block_words l.cache.blocks (IsTargetOf l.f (take l.call-index l.calls)) l.initial.s l.s
