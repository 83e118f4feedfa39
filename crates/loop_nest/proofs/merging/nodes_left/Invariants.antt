use Rattle.std.proofs.Common.{◌≡◌, eqb, filter, ◌∷◌}
use Rattle.std.specs.List.{range_with_len}
use Rattle.loop_nest.specs.Entered.{class_of}
use Rattle.loop_nest.proofs.merging.nodes_left.Given as goal

abbrev pub invariant-loop-u : goal.invariant-loop-u
invariant-loop-u l = filter (λ a. eqb (class_of l.class a) a) (range_with_len 0 l.u) ≡ 0 ∷ l.left.items
