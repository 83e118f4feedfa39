use Rattle.std.proofs.Common.{◌≡◌, ◌++◌, drop}
use Rattle.method_cache.specs.Ring.{rotated, parts}
use Rattle.method_cache.proofs.blocks.put_tags.Given as goal

abbrev pub invariant-loop-part : goal.invariant-loop-part
invariant-loop-part l = rotated l.at l.tags ≡ parts l.method l.words l.part ++ drop l.part (rotated l.at l.initial.tags)
