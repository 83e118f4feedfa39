use Rattle.std.proofs.Common.{◌≡◌, [], ◌∷◌, map}
use Rattle.std.specs.List.{range_with_len}
use Rattle.flow_table.proofs.targets.alone.Given as goal

abbrev pub invariant-loop-method : goal.invariant-loop-method
invariant-loop-method l = l.lists.items ≡ map (λ t. t ∷ []) (range_with_len 0 l.method)
