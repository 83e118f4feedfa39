use Rattle.std.proofs.Common.{◌-◌, length}
use Rattle.opcodes.proofs.StartLemmas.{AreSoFar}
use Rattle.opcodes.proofs.place.starts.Given as goal

abbrev pub invariant-loop-next : goal.invariant-loop-next
invariant-loop-next l = AreSoFar l.code l.starts.items l.next

abbrev pub decreases-loop-next : goal.decreases-loop-next
decreases-loop-next l = length l.code - length l.starts.items
