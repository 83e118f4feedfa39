use Rattle.std.proofs.Common.{◌≡◌}
use Rattle.image_words.specs.Tables.{above_slots, first_slots, AreSoFar}
use Rattle.image_words.proofs.SlotLemmas.{own_numbers}
use Rattle.image_words.proofs.class_slots.add_own.Given as goal

abbrev pub invariant-loop-index : goal.invariant-loop-index
invariant-loop-index l = record {
  added : l.slots.added.items ≡ first_slots l.classes l.class l.index;
  own : l.slots.own.items ≡ own_numbers l.classes l.class l.index;
  so_far : AreSoFar l.classes l.signatures (above_slots l.classes l.class) l.slots;
}
