use Rattle.std.proofs.Common.{◌≡◌, ℕ, ◌<◌, pos, false, get_or}
use Rattle.flow_graph.specs.Reach.{flag_at}
use Rattle.cert_checker.proofs.nodes.first_listed.Given as goal

abbrev pub invariant-loop-node : goal.invariant-loop-node
invariant-loop-node l = (k : ℕ) → k < l.node-index → ¬ (flag_at l.flags (get_or l.nodes k (0, pos 0)).0 ≡ false)
