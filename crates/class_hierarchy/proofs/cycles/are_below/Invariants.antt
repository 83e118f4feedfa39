use Rattle.std.proofs.Common.{◌≡◌, ℕ, ◌<◌, true, take}
use Rattle.std.specs.Prelude.{slice_index}
use Rattle.lists.specs.Numbers.{is_among}
use Rattle.class_hierarchy.proofs.cycles.are_below.Given as goal

abbrev pub invariant-loop-number : goal.invariant-loop-number
invariant-loop-number l = (d : ℕ) → is_among (take l.number-index l.numbers) d ≡ true → slice_index l.ranks d < l.limit
