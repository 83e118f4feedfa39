use Rattle.std.proofs.Common.{◌≡◌, ℕ, ◌||◌, take}
use Rattle.lists.specs.Numbers.{is_among}
use Rattle.class_hierarchy.specs.Cycles.{Grows}
use Rattle.class_hierarchy.proofs.cycles.add_each.Given as goal

abbrev pub invariant-loop-number : goal.invariant-loop-number
invariant-loop-number l = ((x : ℕ) → is_among l.found x ≡ (is_among l.initial.found x || is_among (take l.number-index l.numbers) x)) × Grows l.initial.found l.found
