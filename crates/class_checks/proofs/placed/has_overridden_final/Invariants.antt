use Rattle.std.proofs.Common.{◌≡◌, false}
use Rattle.std.specs.List.{list_any, range_with_len}
use Rattle.program_tables.specs.Placed.{overrides_final}
use Rattle.class_checks.proofs.placed.has_overridden_final.Given as goal

abbrev pub invariant-loop-index : goal.invariant-loop-index
invariant-loop-index l = list_any (λ i. overrides_final l.classes (l.class, i)) (range_with_len 0 l.index) ≡ false
