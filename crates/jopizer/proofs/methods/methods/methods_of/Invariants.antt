use Rattle.jopizer.proofs.MethodsLemmas.Filled.{AreFilled}
use Rattle.jopizer.proofs.methods.methods.methods_of.Given as goal

abbrev pub invariant-loop-number : goal.invariant-loop-number
invariant-loop-number l = AreFilled l.program l.methods.items l.number
