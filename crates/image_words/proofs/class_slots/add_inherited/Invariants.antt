use Rattle.std.proofs.Common.{◌≡◌, ◌++◌, drop}
use Rattle.std.specs.List.{filter}
use Rattle.class_lookup.specs.Hierarchy.{extends}
use Rattle.class_lookup.specs.Lookup.{Place}
use Rattle.program_tables.specs.Lists.{with_items}
use Rattle.image_words.specs.Slots.{are_named_alike}
use Rattle.image_words.specs.Tables.{above_slots, AreSoFar}
use Rattle.image_words.proofs.class_slots.add_inherited.Given as goal

abbrev pub invariant-loop-method : goal.invariant-loop-method
invariant-loop-method l = record {
  own : l.slots.own.items ≡ l.fn.slots.own.items;
  slots : with_items (are_named_alike l.classes) (above_slots l.classes l.class ++ l.slots.added.items) (filter (λ (m : Place). extends l.classes l.class m.0) (drop l.method-index l.numbered))
      ≡ with_items (are_named_alike l.classes) (above_slots l.classes l.class ++ l.fn.slots.added.items) (filter (λ (m : Place). extends l.classes l.class m.0) l.numbered);
  so_far : AreSoFar l.classes l.signatures (above_slots l.classes l.class) l.slots;
}
