use Rattle.std.proofs.Common.{◌≡◌, drop}
use Rattle.std.specs.List.{flat_map}
use Rattle.class_making.specs.Making.{mention_each}
use Rattle.class_making.specs.Plans.{piece_mentions}
use Rattle.class_making.proofs.mentions.mention_pieces.Given as goal

abbrev pub invariant-loop-piece : goal.invariant-loop-piece
invariant-loop-piece l = mention_each l.maker (flat_map piece_mentions (drop l.piece-index l.pieces)) ≡ mention_each l.fn.maker (flat_map piece_mentions l.pieces)
