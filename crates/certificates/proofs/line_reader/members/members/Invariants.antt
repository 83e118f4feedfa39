use Rattle.std.proofs.Common.{length}
use Rattle.certificates.proofs.MemberLemmas.{AreReadTo}
use Rattle.certificates.proofs.line_reader.members.members.Given as goal

abbrev pub invariant-loop-behind : goal.invariant-loop-behind
invariant-loop-behind l = AreReadTo l.text l.members.items l.rest

abbrev pub decreases-loop-behind : goal.decreases-loop-behind
decreases-loop-behind l = length l.rest
