use Rattle.std.proofs.Common.{take}
use Rattle.verifier_types.specs.Numbered.{Grows, AreNumbersOf}
use Rattle.verifier_types.proofs.local_lists.numbers_of.Given as goal

abbrev pub invariant-loop-item : goal.invariant-loop-item
invariant-loop-item l = record { more : Grows l.fn.types.keys l.types.keys; numbers : AreNumbersOf l.types.keys (take l.item-index l.locals) l.numbers.items }
