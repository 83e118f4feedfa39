use Rattle.std.proofs.Common.{◌≡◌, None, take}
use Rattle.lists.specs.Lists.{index_of}
use Rattle.class_lookup.specs.Lookup.{same_place}
use Rattle.image_words.proofs.slots.index_of_place.Given as goal

abbrev pub invariant-loop-i : goal.invariant-loop-i
invariant-loop-i l = index_of (same_place l.fn.method) (take l.i l.slots) ≡ None
