use Rattle.section_check.specs.Least.{IsLeast}
use Rattle.section_check.proofs.Least.{IsHeldBelow}
use Rattle.section_check.proofs.placing.first_member_beyond.Given as goal

abbrev pub invariant-loop-i : goal.invariant-loop-i
invariant-loop-i l =
    IsLeast (IsHeldBelow l.n l.loops l.i) l.least
