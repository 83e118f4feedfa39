use Rattle.std.proofs.Common.{◌≡◌, ◌++◌, ◌≤◌, [], length}
use Rattle.std.specs.Prelude.{slice_get}
use Rattle.std.specs.Option.{option_map_or}
use Rattle.image_words.specs.Slots.{slots}
use Rattle.image_words.proofs.slots.Slots.add_to.Given as goal

abbrev pub invariant-loop-i : goal.invariant-loop-i
invariant-loop-i l = record {
  within : l.i ≤ length l.chain.items;
  places : l.places.items ≡ l.fn.places.items ++ option_map_or (slots l.classes) (slice_get l.chain.items l.i) [];
}

abbrev pub decreases-loop-i : goal.decreases-loop-i
decreases-loop-i l = l.i
