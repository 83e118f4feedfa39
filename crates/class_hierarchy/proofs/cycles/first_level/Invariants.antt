use Rattle.std.proofs.Common.{◌≡◌, ℕ, ◌<◌, false}
use Rattle.class_lookup.specs.Hierarchy.{is_on_a_cycle}
use Rattle.class_hierarchy.proofs.cycles.first_level.Given as goal

abbrev pub invariant-loop-class : goal.invariant-loop-class
invariant-loop-class l = (c : ℕ) → c < l.class → is_on_a_cycle l.classes c ≡ false
