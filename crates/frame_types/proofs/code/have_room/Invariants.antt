use Rattle.std.proofs.Common.{◌≡◌, map, nat_le, drop}
use Rattle.frame_types.specs.Types.{stack_words}
use Rattle.frame_types.specs.Extents.{shape}
use Rattle.frame_types.proofs.code.have_room.Given as goal

abbrev pub invariant-loop-t : goal.invariant-loop-t
invariant-loop-t l = nat_le (stack_words (map shape (drop l.t-index l.types))) l.left ≡ nat_le (stack_words (map shape l.types)) l.most
