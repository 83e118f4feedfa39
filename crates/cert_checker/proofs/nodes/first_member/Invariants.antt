use Rattle.std.proofs.Common.{◌≡◌, ℕ, ◌<◌, false, get_or}
use Rattle.flow_graph.specs.Reach.{flag_at}
use Rattle.cert_checker.proofs.nodes.first_member.Given as goal

abbrev pub invariant-loop-u : goal.invariant-loop-u
invariant-loop-u l = (k : ℕ) → k < l.u-index → ¬ (flag_at l.flags (get_or l.members k 0) ≡ false)
