use Rattle.std.proofs.Common.{◌≡◌, ℕ, ◌<◌, length, get_or}
use Rattle.path_solver.proofs.distances.places.Given as goal

abbrev pub invariant-loop-i : goal.invariant-loop-i
invariant-loop-i l = record {
  long : length l.places.items ≡ l.nodes;
  each : (j : ℕ) → j < l.i → get_or l.places.items (get_or l.order j 0) 0 ≡ j;
}
