use Rattle.std.proofs.Common.{◌≡◌, ◌++◌, ℕ, map}
use Rattle.std.specs.List.{range_with_len}
use Rattle.image_words.proofs.members.add_methods.Given as goal

abbrev pub invariant-loop-index : goal.invariant-loop-index
invariant-loop-index l = l.places.items ≡ l.fn.places.items ++ map (λ (i : ℕ). (l.class, i)) (range_with_len 0 l.index)
