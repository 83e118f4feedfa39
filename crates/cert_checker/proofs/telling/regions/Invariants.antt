use Rattle.std.proofs.Common.{take}
use Rattle.cert_checker.proofs.Marking.{AreMarked}
use Rattle.cert_checker.proofs.telling.regions.Given as goal

abbrev pub invariant-loop-l : goal.invariant-loop-l
invariant-loop-l l = AreMarked (take l.l-index l.s.section.loops) l.size l.flags.items
