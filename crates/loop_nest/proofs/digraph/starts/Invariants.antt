use Rattle.std.proofs.Common.{◌≡◌, ℕ, ◌<◌, length, get_or}
use Rattle.loop_nest.specs.Grouping.{edges_below}
use Rattle.loop_nest.proofs.digraph.starts.Given as goal

abbrev pub invariant-loop-v : goal.invariant-loop-v
invariant-loop-v l = record {
  long : length l.starts.items ≡ l.v;
  each : (w : ℕ) → w < l.v → get_or l.starts.items w 0 ≡ edges_below l.edges w;
  next : l.next ≡ edges_below l.edges l.v;
}
