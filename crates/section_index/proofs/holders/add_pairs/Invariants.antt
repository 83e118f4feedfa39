use Rattle.std.proofs.Common.{◌≡◌, ◌++◌, map, take}
use Rattle.section_index.proofs.holders.add_pairs.Given as goal

abbrev pub invariant-loop-p : goal.invariant-loop-p
invariant-loop-p l = l.pairs.items ≡ l.initial.pairs.items ++ map (λ p. (l.i, p)) (take l.p-index l.set)
