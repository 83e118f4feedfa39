use Rattle.std.proofs.Common.{take}
use Rattle.std.specs.List.{AllZip}
use Rattle.class_lookup.specs.Symbols.{texts}
use Rattle.class_lookup.specs.Numbered.{IsIndexed}
use Rattle.class_lookup.proofs.members.index_methods.Given as goal

abbrev pub invariant-loop-i : goal.invariant-loop-i
invariant-loop-i l = AllZip (λ c index. IsIndexed (texts l.classes) c c.methods index) (take l.i l.classes) l.table.items
