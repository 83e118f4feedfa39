use Rattle.std.proofs.Common.{take}
use Rattle.loop_nest.specs.Pointers.{AreFlags}
use Rattle.loop_nest.proofs.passes.flags_of.Given as goal

abbrev pub invariant-loop-u : goal.invariant-loop-u
invariant-loop-u l = AreFlags (take l.u-index l.us) l.nodes l.flags.items
