use Rattle.std.proofs.Common.{◌≡◌, drop}
use Rattle.std.specs.List.{flat_map}
use Rattle.class_making.specs.Making.{mention_each}
use Rattle.class_making.specs.Plans.{method_mentions}
use Rattle.class_making.proofs.mentions.mention_methods.Given as goal

abbrev pub invariant-loop-method : goal.invariant-loop-method
invariant-loop-method l = mention_each l.maker (flat_map method_mentions (drop l.method-index l.methods)) ≡ mention_each l.fn.maker (flat_map method_mentions l.methods)
