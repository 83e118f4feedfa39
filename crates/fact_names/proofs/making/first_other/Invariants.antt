use Rattle.std.proofs.Common.{take}
use Rattle.fact_names.specs.Refused.{AreOwn}
use Rattle.fact_names.proofs.making.first_other.Given as goal

abbrev pub invariant-loop-line : goal.invariant-loop-line
invariant-loop-line l = AreOwn (take l.line-index l.lines)
