use Rattle.std.proofs.Common.{◌≡◌, take}
use Rattle.std.specs.List.{flat_map}
use Rattle.class_making.specs.Plans.{piece_bytes}
use Rattle.class_making.proofs.members.bytes_of.Given as goal

abbrev pub invariant-loop-piece : goal.invariant-loop-piece
invariant-loop-piece l = l.bytes.items ≡ flat_map (piece_bytes l.maker) (take l.piece-index l.pieces)
