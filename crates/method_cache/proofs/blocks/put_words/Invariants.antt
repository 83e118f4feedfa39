use Rattle.std.proofs.Common.{◌≡◌, ◌++◌, drop, take}
use Rattle.method_cache.specs.Ring.{rotated}
use Rattle.method_cache.proofs.blocks.put_words.Given as goal

abbrev pub invariant-loop-i : goal.invariant-loop-i
invariant-loop-i l = rotated l.at l.ring ≡ take l.i l.words ++ drop l.i (rotated l.at l.initial.ring)
