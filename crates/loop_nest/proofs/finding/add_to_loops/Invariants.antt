use Rattle.loop_nest.specs.Nesting.{IsAdding}
use Rattle.loop_nest.proofs.Adding.{lacking}
use Rattle.loop_nest.proofs.finding.add_to_loops.Given as goal

abbrev pub invariant-loop-next : goal.invariant-loop-next
invariant-loop-next l = IsAdding l.g l.x l.fn.loops l.loops l.next

abbrev pub decreases-loop-next : goal.decreases-loop-next
decreases-loop-next l = lacking l.x l.loops
