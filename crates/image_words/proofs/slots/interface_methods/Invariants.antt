use Rattle.std.proofs.Common.{◌≡◌}
use Rattle.std.specs.List.{flat_map, range_with_len}
use Rattle.image_words.proofs.TableLemmas.{interface_own}
use Rattle.image_words.proofs.slots.interface_methods.Given as goal

abbrev pub invariant-loop-class : goal.invariant-loop-class
invariant-loop-class l = l.places.items ≡ flat_map (interface_own l.classes) (range_with_len 0 l.class)
