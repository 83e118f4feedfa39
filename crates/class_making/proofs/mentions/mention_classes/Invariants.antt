use Rattle.std.proofs.Common.{◌≡◌, drop, map}
use Rattle.class_making.specs.declared.item.Item.TheVariants.{Class}
use Rattle.class_making.specs.Making.{mention_each}
use Rattle.class_making.proofs.mentions.mention_classes.Given as goal

abbrev pub invariant-loop-name : goal.invariant-loop-name
invariant-loop-name l = mention_each l.maker (map Class (drop l.name-index l.names)) ≡ mention_each l.fn.maker (map Class l.names)
