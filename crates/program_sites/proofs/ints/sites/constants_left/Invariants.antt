use Rattle.program_sites.specs.Ints.Constants.{AreConstantsBelow}
use Rattle.program_sites.proofs.ints.sites.constants_left.Given as goal

abbrev pub invariant-loop-number : goal.invariant-loop-number
invariant-loop-number l = AreConstantsBelow l.program l.number l.left.items
