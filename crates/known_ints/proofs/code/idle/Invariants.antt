use Rattle.known_ints.specs.Code.{AreIdle}
use Rattle.known_ints.proofs.code.idle.Given as goal

abbrev pub invariant-loop-node : goal.invariant-loop-node
invariant-loop-node l = AreIdle l.parts l.node l.flags.items
