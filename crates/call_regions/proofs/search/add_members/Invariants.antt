use Rattle.std.proofs.Common.{take}
use Rattle.call_regions.specs.Searching.{FindsAll}
use Rattle.call_regions.specs.Tables.{IsTargetAt}
use Rattle.call_regions.proofs.search.add_members.Given as goal

abbrev pub invariant-loop-node : goal.invariant-loop-node
invariant-loop-node l = FindsAll l.f l.cache.block_words l.cache.blocks (IsTargetAt l.f l.calls (take l.node-index l.members)) l.initial.s l.s
