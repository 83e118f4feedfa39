use Rattle.std.proofs.Common.{ℕ, ◌<◌, get_or, Contains}
use Rattle.section_check.proofs.faulty.lies_in.Given as goal

abbrev pub invariant-loop-u : goal.invariant-loop-u
invariant-loop-u l =
    (k : ℕ) → k < l.u-index → Contains l.b (get_or l.a k 0)
