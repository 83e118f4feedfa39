use Rattle.endings.proofs.Named.{AreFirst}
use Rattle.endings.proofs.show.method_names.Given as goal

abbrev pub invariant-loop-number : goal.invariant-loop-number
invariant-loop-number l = AreFirst l.program l.number l.names.items
