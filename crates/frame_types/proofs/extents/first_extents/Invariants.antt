use Rattle.std.proofs.Common.{◌≡◌, ◌++◌, nat_le, drop}
use Rattle.frame_types.specs.Extents.{whole_extent, first_words, first_extents}
use Rattle.frame_types.proofs.extents.first_extents.Given as goal

abbrev pub invariant-loop-t : goal.invariant-loop-t
invariant-loop-t l =
    (l.extents.items ++ first_extents l.last (drop l.t-index l.first) ≡ first_extents (whole_extent l.most) l.first) × (nat_le (first_words (drop l.t-index l.first)) l.last.left ≡ nat_le (first_words l.first) l.most)
