use Rattle.std.proofs.Common.{◌≡◌, drop}
use Rattle.std.specs.List.{flat_map}
use Rattle.class_making.specs.Making.{mention_each}
use Rattle.class_making.specs.Plans.{field_mentions}
use Rattle.class_making.proofs.mentions.mention_fields.Given as goal

abbrev pub invariant-loop-field : goal.invariant-loop-field
invariant-loop-field l = mention_each l.maker (flat_map field_mentions (drop l.field-index l.fields)) ≡ mention_each l.fn.maker (flat_map field_mentions l.fields)
