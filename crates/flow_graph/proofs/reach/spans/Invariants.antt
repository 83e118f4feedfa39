use Rattle.std.proofs.Common.{◌≡◌, length}
use Rattle.flow_graph.specs.Reach.{AreSpansBelow}
use Rattle.flow_graph.proofs.reach.spans.Given as goal

abbrev pub invariant-loop-i : goal.invariant-loop-i
invariant-loop-i l = record {
  long : length l.spans.items ≡ l.nodes;
  below : AreSpansBelow l.edges l.i l.spans.items;
}
