use Rattle.std.proofs.Common.{◌||◌, ◌&&◌, not}
use Rattle.std.specs.List.{list_all, range_with_len}
use Rattle.class_lookup.specs.Hierarchy.{extends, is_concrete}
use Rattle.class_checks.specs.Marks.{AreKept}
use Rattle.class_checks.proofs.MarkLemmas.{settled}
use Rattle.class_checks.proofs.classes.mark_methods.Given as goal

abbrev pub invariant-loop-index : goal.invariant-loop-index
invariant-loop-index l =
    AreKept (λ c. not (is_concrete l.classes c && extends l.classes c l.upper) || list_all (settled l.classes l.upper c) (range_with_len 0 l.index)) l.initial.marks.items l.marks.items
