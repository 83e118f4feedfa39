use Rattle.std.proofs.Common.{◌≡◌, map, take}
use Rattle.section_index.proofs.Falling.{AreRanked}
use Rattle.section_index.proofs.crossing_sets.order.larger_first.Given as goal

abbrev pub invariant-loop-i : goal.invariant-loop-i
invariant-loop-i l = AreRanked l.family.sets 18446744073709551615 l.i l.ranked.items

abbrev pub invariant-loop-rank : goal.invariant-loop-rank
invariant-loop-rank l = l.order.items ≡ map (λ r. r.1) (take l.rank-index l.rank-items)
