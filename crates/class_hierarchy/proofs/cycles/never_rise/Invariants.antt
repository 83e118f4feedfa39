use Rattle.std.proofs.Common.{◌≡◌, ℕ, ◌<◌, ◌≤◌, true}
use Rattle.std.specs.Prelude.{slice_index}
use Rattle.lists.specs.Numbers.{is_among}
use Rattle.number_sets.specs.Numbers.{entry}
use Rattle.class_hierarchy.proofs.cycles.never_rise.Given as goal

abbrev pub invariant-loop-class : goal.invariant-loop-class
invariant-loop-class l = (c d : ℕ) → c < l.class → is_among (entry l.above c) d ≡ true → slice_index l.ranks d ≤ slice_index l.ranks c
