use Rattle.std.proofs.Common.{◌≡◌, map}
use Rattle.std.specs.List.{range_with_len}
use Rattle.std.specs.Option.{option_to_list}
use Rattle.class_lookup.specs.Hierarchy.{superclass}
use Rattle.image_words.proofs.class_order.superclass_lists.Given as goal

abbrev pub invariant-loop-class : goal.invariant-loop-class
invariant-loop-class l = l.lists.items ≡ map (λ c. option_to_list (superclass l.classes c)) (range_with_len 0 l.class)
