-- The places of items that lie one behind another.
use Rattle.std.specs.Prelude.{◌≡◌, ℕ, ◌+◌, List, length, map, take, sum}
use Rattle.std.specs.List.{range_with_len}
use Rattle.image_builder.specs.declared.sums.Run.{Run}

-- the place of an item from a place on, where the items have these sizes
abbrev pub place_behind : (start : ℕ) → (sizes : List ℕ) → (index : ℕ) → ℕ
place_behind start sizes i = start + sum (take i sizes)

pub record IsRun (start : ℕ) (sizes : List ℕ) (run : Run) : Type 0 where
  pub places : run.places.items ≡ map (place_behind start sizes) (range_with_len 0 (length sizes))
  pub end : run.end ≡ start + sum sizes
