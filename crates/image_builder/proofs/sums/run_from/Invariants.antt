use Rattle.std.proofs.Common.{◌≡◌, ◌+◌, take, map, sum}
use Rattle.std.specs.List.{range_with_len}
use Rattle.image_builder.specs.Runs.{place_behind}
use Rattle.image_builder.proofs.sums.run_from.Given as goal

abbrev pub invariant-loop-size : goal.invariant-loop-size
invariant-loop-size l = record {
  places : l.places.items ≡ map (place_behind l.start l.sizes) (range_with_len 0 l.size-index);
  end : l.end ≡ l.start + sum (take l.size-index l.sizes);
}
