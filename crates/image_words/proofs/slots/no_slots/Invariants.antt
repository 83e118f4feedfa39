use Rattle.std.proofs.Common.{◌≡◌, length}
use Rattle.image_words.proofs.slots.no_slots.Given as goal

abbrev pub invariant-loop-class : goal.invariant-loop-class
invariant-loop-class l = length l.table.items ≡ l._class
