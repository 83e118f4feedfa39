use Rattle.std.proofs.Common.{ℕ, ◌<◌, get_or}
use Rattle.loop_acts.specs.Writing.{WritesAt}
use Rattle.loop_finder.proofs.setting.first_write.Given as goal

abbrev pub invariant-loop-place : goal.invariant-loop-place
invariant-loop-place l = (j : ℕ) → j < l.place-index → ¬ WritesAt l.acts l.local (get_or l.places j 0)
