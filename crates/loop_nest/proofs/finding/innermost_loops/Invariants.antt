use Rattle.loop_nest.specs.Nest.{headers_of, outers_of}
use Rattle.loop_nest.specs.Nesting.{AreHeadersBelow, HaveOuters, AreInnermost}
use Rattle.loop_nest.proofs.Innermost.{before_place}
use Rattle.loop_nest.proofs.finding.innermost_loops.Given as goal

abbrev pub invariant-loop-h : goal.invariant-loop-h
invariant-loop-h l = record {
  headers : AreHeadersBelow l.g l.g.nodes l.loops l.numbers;
  outers : HaveOuters l.g (before_place l.h-items l.h-index) (headers_of l.loops) (outers_of l.loops);
  innermost : AreInnermost l.g (before_place l.h-items l.h-index) (headers_of l.loops) l.marks.items;
}
