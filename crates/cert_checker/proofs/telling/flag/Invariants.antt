use Rattle.std.proofs.Common.{take}
use Rattle.cert_checker.specs.Telling.{AreFlagged}
use Rattle.cert_checker.proofs.telling.flag.Given as goal

abbrev pub invariant-loop-u : goal.invariant-loop-u
invariant-loop-u l = AreFlagged (take l.u-index l.members) l.fn.flags l.flags
