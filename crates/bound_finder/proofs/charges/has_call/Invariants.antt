use Rattle.std.proofs.Common.{◌≡◌, ℕ, ◌<◌, false, get_or}
use Rattle.bound_finder.proofs.charges.has_call.Given as goal

abbrev pub invariant-loop-u : goal.invariant-loop-u
invariant-loop-u l = (i : ℕ) → i < l.u-index → get_or l.call_nodes (get_or l.members i 0) false ≡ false
