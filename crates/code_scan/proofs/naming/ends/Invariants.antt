use Rattle.code_scan.proofs.Ending.{AreEnds}
use Rattle.code_scan.proofs.naming.ends.Given as goal

abbrev pub invariant-loop-place : goal.invariant-loop-place
invariant-loop-place l = AreEnds l.code l.starts l.place-index l.ends.items
