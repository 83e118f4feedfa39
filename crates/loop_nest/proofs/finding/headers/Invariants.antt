use Rattle.loop_nest.specs.Nesting.{AreHeadersBelow}
use Rattle.loop_nest.proofs.finding.headers.Given as goal

abbrev pub invariant-loop-h : goal.invariant-loop-h
invariant-loop-h l = AreHeadersBelow l.g l.h l.loops.items l.numbers.items
