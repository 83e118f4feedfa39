use Rattle.std.proofs.Common.{◌≡◌, ◌++◌, drop, replicate, None}
use Rattle.method_cache.specs.Ring.{rotated}
use Rattle.method_cache.proofs.blocks.clear_tags.Given as goal

abbrev pub invariant-loop-i : goal.invariant-loop-i
invariant-loop-i l = rotated l.at l.tags ≡ replicate l.i None ++ drop l.i (rotated l.at l.initial.tags)
