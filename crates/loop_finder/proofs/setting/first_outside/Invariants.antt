use Rattle.std.proofs.Common.{◌≡◌, ℕ, ◌<◌, true, get_or}
use Rattle.loop_marks.specs.Reach.{flag_at}
use Rattle.loop_finder.proofs.setting.first_outside.Given as goal

abbrev pub invariant-loop-u : goal.invariant-loop-u
invariant-loop-u l = (j : ℕ) → j < l.u-index → flag_at l.marks.members (get_or l.nodes j 0) ≡ true
